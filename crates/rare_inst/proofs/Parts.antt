-- Parts of a rule as terms grow, and their trees node by node.
use Rattle.std.proofs.Common.{◌≡◌, IsTrue, ℕ, suc, ◌+◌, ◌<◌, ◌≤◌, List, [], ◌∷◌, ◌++◌, length, map, drop, get_or, Option, Some, None, Result, refl, sym, ap, ◌∙◌, subst, arith, append_assoc}
use Rattle.std.proofs.lemmas.List.{drop_more, drop_all, append-nil}
use Rattle.std.proofs.lemmas.List.Elements.{All-append}
use Rattle.rare_linear.specs.Linears.{NamesBelow, substitute}
use Rattle.rare_sort.specs.DeclaredSorts.{AreNamed, widths}
use Rattle.rare_sort.specs.Ids.{AreIds, Extends, tree_at, trees_at}
use Rattle.rare_sort.specs.Trees.{head_of, indices_of, args_of}
use Rattle.rare_sort.specs.declared.declarations.Declarations.{Declarations}
use Rattle.rare_sort.specs.declared.tree.TermId.{TermId}
use Rattle.rare_sort.specs.declared.tree.Tree.{Tree}
use Rattle.rare_term.specs.State.{State, Grows}
use Rattle.rare_term.specs.inner.TreeLaws.{node_of}
use Rattle.rare_rule.specs.Holds.{has_list}
use Rattle.rare_inst.specs.Answers.{AreGiven, IsFault, is_named_sort, IsGiven as IsGivenArg}
use Rattle.rare_inst.specs.Arguments.{OfTerm, OfList, argument_of, arguments_of}
use Rattle.rare_inst.specs.Collapse.{first_sort, spliced}
use Rattle.rare_inst.specs.Instance.{fault_with, instance, instance_fault, node_fault, put_node}
use Rattle.rare_inst.specs.Substituting.{Substitution, TreeGroup, one_tree, substitution}
use Rattle.rare_inst.specs.declared.arg.Arg.{Arg}
use Rattle.rare_inst.specs.declared.arg.Arg.TheVariants as given
use Rattle.rare_inst.specs.declared.fault.InstFault.{InstFault}
use Rattle.rare_inst.specs.declared.fault.InstFault.TheVariants as fault
use Rattle.rare_inst.specs.declared.part.Hole.{Hole}
use Rattle.rare_inst.specs.declared.part.Hole.TheVariants as hole
use Rattle.rare_inst.specs.declared.part.Part.{Part}
use Rattle.rare_inst.specs.inner.Making.{AnswersGroup, HasSortWithin, IsHoleOf, IsPartOf, all_trees, fault_at, first_fault, group_at, hole_fault, hole_group, node_group, part_fault, part_group, putting, side_of}
use Rattle.rare_inst.specs.inner.Standing.{StandsFor}
use Rattle.rare_inst.proofs.InstanceNodes.{instance-node, instance_fault-node}
use Rattle.rare_inst.proofs.Made.{tree_kept, trees_kept, longer}

-- ---- what is kept

argument_kept : (old new : State) (x : Arg) → Grows old new → IsGivenArg old x → argument_of new.trees x ≡ argument_of old.trees x
argument_kept old new (given.Sort s) g h = refl
argument_kept old new (given.Linear e) g h = refl
argument_kept old new (given.Term id) g h = ap OfTerm (tree_kept old.trees new.trees id.0 g.trees h)
argument_kept old new (given.List ids) g h = ap OfList (trees_kept old.trees new.trees ids g.trees h)

pub arguments_kept : (old new : State) (xs : List Arg) → Grows old new → AreGiven old xs → arguments_of new.trees xs ≡ arguments_of old.trees xs
arguments_kept old new [] g h = refl
arguments_kept old new (x ∷ xs) g h =
    ap (λ y. y ∷ arguments_of new.trees xs) (argument_kept old new x g (h 0 x (omega arith)))
    ∙ ap (λ ys. argument_of old.trees x ∷ ys) (arguments_kept old new xs g (λ k d lt. h (suc k) d (omega arith)))

one_given : (old new : State) (x : Arg) → Grows old new → IsGivenArg old x → IsGivenArg new x
one_given old new (given.Sort s) g h = subst (λ (d : Declarations). IsTrue (is_named_sort (widths d) s)) (sym g.declared) h
one_given old new (given.Linear e) g h = subst (λ (d : Declarations). NamesBelow (widths d) e.parts) (sym g.declared) h
one_given old new (given.Term id) g h = omega (arith, h, longer old.trees new.trees g.trees)
one_given old new (given.List ids) g h = λ k d lt. let a = h k d lt in omega (arith, a, longer old.trees new.trees g.trees)

pub are_given : (old new : State) (xs : List Arg) → Grows old new → AreGiven old xs → AreGiven new xs
are_given old new xs g h k d lt = one_given old new (get_or xs k d) g (h k d lt)

hole_kept : (old new : State) (h : Hole) → Grows old new → IsHoleOf old.trees h → hole_group new.trees h ≡ hole_group old.trees h
hole_kept old new hole.Nothing g is = refl
hole_kept old new (hole.Term id) g is = ap one_tree (tree_kept old.trees new.trees id.0 g.trees is)
hole_kept old new (hole.Fault f) g is = refl

hole_stays : (old new : State) (h : Hole) → Grows old new → IsHoleOf old.trees h → IsHoleOf new.trees h
hole_stays old new hole.Nothing g is = tt
hole_stays old new (hole.Term id) g is = omega (arith, is, longer old.trees new.trees g.trees)
hole_stays old new (hole.Fault f) g is = tt

module _ (old new : State) (p : Part) (g : Grows old new) (known : IsPartOf old p) where
  pub putting_kept : putting new p ≡ putting old p
  putting_kept =
      let xs = arguments_kept old new p.args.now g known.args in
      let h = hole_kept old new p.hole g known.hole in
      λ i. record (substitution (g.declared i).symbols p.params.now (xs i)) { hole = h i }

  pub part_kept : IsPartOf new p
  part_kept = record {
    args = are_given old new p.args.now g known.args;
    hole = hole_stays old new p.hole g known.hole;
    numbers = subst (λ (a : Substitution). StandsFor a p.numbers.now) (sym putting_kept) known.numbers;
    named = subst (λ (d : Declarations). AreNamed (widths d) p.numbers.now.values) (sym g.declared) known.named;
    within = λ k c e. subst (λ (a : Substitution). HasSortWithin a c) (sym putting_kept) (known.within k c e);
  }

  pub fault_kept : (t : Tree) → part_fault new p t ≡ part_fault old p t
  fault_kept t = λ i. instance_fault (g.declared i) p.params.now (putting_kept i) (side_of p.side) (hole_fault p.hole) t

  pub group_kept : (t : Tree) → part_group new p t ≡ part_group old p t
  group_kept t = λ i. instance (putting_kept i) t

-- ---- node by node

module _ (s : State) (p : Part) (t : Tree) where
  abbrev below : TreeGroup
  below = spliced (map (part_group s p) (args_of t))

  pub group_node : part_group s p t ≡ put_node (putting s p) (head_of t) (map (substitute (putting s p).number) (indices_of t)) below
  group_node = ap (part_group s p) (sym (node_of t)) ∙ instance-node (putting s p) (head_of t) (indices_of t) (args_of t)

  pub own_node_fault : Option InstFault
  own_node_fault = node_fault s.declared p.params.now (putting s p) (side_of p.side) (hole_fault p.hole) (head_of t) (indices_of t) (args_of t)

  pub fault_node : part_fault s p t ≡ first_fault s p (map (part_fault s p) (args_of t)) own_node_fault
  unfolding own_node_fault
  fault_node =
      ap (part_fault s p) (sym (node_of t))
      ∙ instance_fault-node s.declared p.params.now (putting s p) (side_of p.side) (hole_fault p.hole) (head_of t) (indices_of t) (args_of t)

-- ---- a turn of the loop over arguments

fails_as : (o : Option InstFault) (u : Option InstFault) (f : InstFault) → ((k : InstFault) → o ≡ Some k → u ≡ Some k) → IsFault o f → IsFault u f
fails_as o u (fault.ArgMissorted n) to h = to (fault.ArgMissorted n) h
fails_as o u (fault.Unentailed n) to h = to (fault.Unentailed n) h
fails_as o u fault.LeftTooShort to h = to fault.LeftTooShort h
fails_as o u fault.EmptyConcat to h = to fault.EmptyConcat h
fails_as o u fault.Limit to h = to fault.Limit h
fails_as o u fault.Memory to h = tt

trees_append : (ts : List Tree) (xs ys : List TermId) → trees_at ts (xs ++ ys) ≡ trees_at ts xs ++ trees_at ts ys
trees_append ts [] ys = refl
trees_append ts (x ∷ xs) ys = ap (λ us. tree_at ts x.0 ∷ us) (trees_append ts xs ys)

module _ (s : State) (p : Part) (ts : List Tree) (i : ℕ) (x : Tree) (lt : i < length ts) (is : x ≡ get_or ts i x) where
  front : drop i ts ≡ x ∷ drop (i + 1) ts
  front = drop_more ts i x lt ∙ ap (λ y. y ∷ drop (i + 1) ts) (sym is)

  abbrev faults : List Tree → List (Option InstFault)
  faults us = map (part_fault s p) us

  -- the fault of an argument is that of the tree
  pub argument_fails : (t : Tree) (f : InstFault) → ts ≡ args_of t → ((own : Option InstFault) → first_fault s p (faults ts) own ≡ first_fault s p (faults (drop i ts)) own) → IsFault (part_fault s p x) f → IsFault (part_fault s p t) f
  argument_fails t f are fine h =
      fails_as (part_fault s p x) (part_fault s p t) f
      (λ k e.
      fault_node s p t
      ∙ ap (λ us. first_fault s p (faults us) (own_node_fault s p t)) (sym are)
      ∙ fine (own_node_fault s p t)
      ∙ ap (λ us. first_fault s p (faults us) (own_node_fault s p t)) front
      ∙ ap (λ o. first_fault s p (o ∷ faults (drop (i + 1) ts)) (own_node_fault s p t)) e) h

  pub one_fine : part_fault s p x ≡ None → ((own : Option InstFault) → first_fault s p (faults ts) own ≡ first_fault s p (faults (drop i ts)) own) →
      (own : Option InstFault) → first_fault s p (faults ts) own ≡ first_fault s p (faults (drop (i + 1) ts)) own
  one_fine e fine own =
      fine own ∙ ap (λ us. first_fault s p (faults us) own) front ∙ ap (λ o. first_fault s p (o ∷ faults (drop (i + 1) ts)) own) e

  pub one_more : (now next : List Tree) (ids more all : List TermId) → Extends now next → AreIds (length now) ids → all ≡ ids ++ more →
      trees_at next more ≡ (part_group s p x).trees → all_trees s p ts ≡ trees_at now ids ++ all_trees s p (drop i ts) → all_trees s p ts ≡ trees_at next all ++ all_trees s p (drop (i + 1) ts)
  one_more now next ids more all g known so made rest =
      let left = all_trees s p (drop (i + 1) ts) in
      rest
      ∙ ap (λ us. trees_at now ids ++ all_trees s p us) front
      ∙ ap (λ us. us ++ ((part_group s p x).trees ++ left)) (sym (trees_kept now next ids g known))
      ∙ ap (λ us. trees_at next ids ++ (us ++ left)) (sym made)
      ∙ sym (append_assoc (trees_at next ids) (trees_at next more) left)
      ∙ ap (λ us. us ++ left) (sym (trees_append next ids more))
      ∙ ap (λ is. trees_at next is ++ left) (sym so)

pub ids_more : (now next : List Tree) (ids more all : List TermId) → Extends now next → AreIds (length now) ids → AreIds (length next) more → all ≡ ids ++ more → AreIds (length next) all
ids_more now next ids more all g known h so =
    subst (AreIds (length next)) (sym so)
    (All-append (λ (id : TermId). id.0 < length next) ids more (λ k d lt. let a = known k d lt in omega (arith, a, longer now next g)) h)

-- ---- the end of the loop

module _ (old now : State) (p : Part) (g : Grows old now) (known : IsPartOf old p) (t : Tree) (ts : List Tree) (ids : List TermId) (i : ℕ) (are : ts ≡ args_of t) (le : length ts ≤ i)
    (trees : all_trees old p ts ≡ trees_at now.trees ids ++ all_trees old p (drop i ts)) where
  spliced_is : group_at now p t ids ≡ spliced (map (part_group old p) (args_of t))
  spliced_is =
      let all : trees_at now.trees ids ≡ all_trees old p (args_of t) =
      sym (append-nil (trees_at now.trees ids)) ∙ ap (λ us. trees_at now.trees ids ++ all_trees old p us) (sym (drop_all i ts le)) ∙ sym trees ∙ ap (all_trees old p) are in
      λ j. record { element = first_sort (map (instance (putting_kept old now p g known j)) (args_of t)); trees = all j }

  pub whole_group : node_group now p t ids ≡ part_group old p t
  whole_group =
      (λ j. put_node (putting_kept old now p g known j) (head_of t) (map (substitute (putting_kept old now p g known j).number) (indices_of t)) (spliced_is j))
      ∙ sym (group_node old p t)

  pub whole_fault : ((own : Option InstFault) → first_fault old p (map (part_fault old p) ts) own ≡ first_fault old p (map (part_fault old p) (drop i ts)) own) → fault_at now p t ids ≡ part_fault old p t
  unfolding own_node_fault
  whole_fault fine =
      (λ j. fault_with (g.declared j) p.params.now (putting_kept old now p g known j) (side_of p.side) (hole_fault p.hole) (has_list p.params.now (args_of t)) (head_of t) (indices_of t) (spliced_is j))
      ∙ sym
      (fault_node old p t
      ∙ ap (λ us. first_fault old p (map (part_fault old p) us) (own_node_fault old p t)) (sym are)
      ∙ fine (own_node_fault old p t)
      ∙ ap (λ us. first_fault old p (map (part_fault old p) us) (own_node_fault old p t)) (drop_all i ts le))

  pub answers : (new : List Tree) (r : Result (List TermId) InstFault) →
      ((own : Option InstFault) → first_fault old p (map (part_fault old p) ts) own ≡ first_fault old p (map (part_fault old p) (drop i ts)) own) →
      AnswersGroup new (fault_at now p t ids) (node_group now p t ids) r → AnswersGroup new (part_fault old p t) (part_group old p t) r
  answers new r fine h =
      subst (λ (f : Option InstFault). AnswersGroup new f (part_group old p t) r) (whole_fault fine)
      (subst (λ (y : TreeGroup). AnswersGroup new (fault_at now p t ids) y r) whole_group h)
