-- What is known of the nodes of parts that exist: they have arguments enough, and what they become are terms of the problem.
use Rattle.std.proofs.Common.{◌≡◌, ◌≢◌, ℕ, ◌≤◌, pos, List, [], ◌∷◌, map, length, refl, sym, subst, Option, Some, None, slice_get}
use Rattle.std.proofs.lemmas.Bool.{ltb-false}
use Rattle.std.specs.Prelude.{Bool as Test, true, false, not, ◌&&◌, ◌||◌, nat_lt, is_some, if◌then◌else◌}
use Rattle.std.specs.List.{list_all}
use Rattle.rare_linear.specs.Linears.{LinearExpression, substitute}
use Rattle.rare_linear.specs.Entailment.{IsEntailed}
use Rattle.rare_sort.specs.Each.{Each, EachPair}
use Rattle.rare_sort.specs.Rulings.{ruling}
use Rattle.rare_sort.specs.SortOf.{sort_of, IsTermOf}
use Rattle.rare_sort.specs.Sorting.{problem_scope, is_concat, splices}
use Rattle.rare_sort.specs.Trees.{node, nesting, size}
use Rattle.rare_sort.specs.declared.declarations.Declarations.{Declarations}
use Rattle.rare_sort.specs.declared.head.Head.{Head}
use Rattle.rare_sort.specs.declared.head.Head.TheVariants as head
use Rattle.rare_sort.specs.declared.ruling.Ruling.{Ruling}
use Rattle.rare_sort.specs.declared.ruling.Ruling.TheVariants.{Ill, Wide, Has}
use Rattle.rare_sort.specs.declared.sort.Sort.{Sort}
use Rattle.rare_sort.specs.declared.tree.Tree.{Tree, Tree-F, roll-Tree, out-roll-Tree, fold-roll-Tree, ind-Tree, every-Tree, every_here-Tree}
use Rattle.rare_sort.proofs.SortLawLemmas.{node_law}
use Rattle.rare_sort.proofs.SortOfLaw.{have_their_sort}
use Rattle.rare_sort.proofs.SortOfLemmas.{gives_of}
use Rattle.rare_sort.proofs.SortingLemmas.{Each-append}
use Rattle.rare_term.specs.Limits.{MOST_ARGS, MOST_NESTED, MOST_NODES}
use Rattle.rare_term.specs.Refusals.{has_large_number, is_ill, is_wide, refusal}
use Rattle.rare_term.specs.declared.terms.TermError.{TermError}
use Rattle.rare_term.specs.declared.terms.TermError.TheVariants.{TooManyArgs, IllSorted, TooDeep, TooLarge}
use Rattle.rare_rule.specs.Holds.{has_list}
use Rattle.rare_rule.specs.declared.param.Param.{Param}
use Rattle.rare_inst.specs.Substituting.{TreeGroup, Substitution, is_put_within}
use Rattle.rare_inst.specs.Collapse.{Reduct, Alone, Applied, spliced, neutral, collapsed, reduct, reduct_tree}
use Rattle.rare_inst.specs.Instance.{Side, LeftSide, OtherSide, put_node, instance_step, instance, has_too_few, too_few, is_refused, own_fault}
use Rattle.rare_inst.specs.InstanceLaws.{IsProblemTerm}
use Rattle.rare_inst.specs.declared.fault.InstFault.{InstFault}
use Rattle.rare_inst.specs.declared.fault.InstFault.TheVariants.{Limit}
use Rattle.rare_inst.proofs.Faults.{IsFine}
use Rattle.rare_inst.proofs.Growing.{IsJoinedAt, held_args, held_each}
use Rattle.rare_inst.proofs.Reducing.{sorted_application}

-- ---- what can be made

either : (a b : Test) → (a || b) ≡ false → (a ≡ false) × (b ≡ false)
either false b e = (refl, e)
either true b e = cc

no_fault : {X : Type 0} (b : Test) (x : X) (o : Option X) → (if b then (Some x) else o) ≡ None → (b ≡ false) × (o ≡ None)
no_fault false x o e = (refl, e)
no_fault true x o e = cc

is_none : {X : Type 0} (o : Option X) → is_some o ≡ false → o ≡ None
is_none None e = refl
is_none (Some x) e = cc

has_by : (r : Ruling) (many deep large number : Test) →
    ◌≡◌ {A = Option TermError} (if many then Some TooManyArgs else if is_ill r then Some IllSorted else if deep then Some TooDeep else if (large || (is_wide r || number)) then Some TooLarge else None) None →
    (s : Sort) × (r ≡ Has s)
has_by r true deep large number e = cc
has_by Ill false deep large number e = cc
has_by Wide false true large number e = cc
has_by Wide false false true number e = cc
has_by Wide false false false number e = cc
has_by (Has s) false deep large number e = (s, refl)

module _ (d : Declarations) where
  -- what is not refused has a sort by its rule
  has_sort : (h : Head) (ix : List LinearExpression) (ts : List Tree) → refusal d h ix ts ≡ None → (s : Sort) × (ruling d h ix (map (sort_of d.symbols) ts) ≡ Has s)
  unfolding refusal
  has_sort h ix ts e =
      has_by (ruling d h ix (map (sort_of d.symbols) ts)) (nat_lt MOST_ARGS (length ts)) (nat_lt MOST_NESTED (nesting (node h ix ts))) (nat_lt MOST_NODES (size (node h ix ts))) (has_large_number h ix) e

  abbrev Term : Tree → Sort → Type 0
  Term = IsTermOf d

  terms : (ts : List Tree) → Each (IsProblemTerm d) ts → EachPair Term ts (map (sort_of d.symbols) ts)
  terms [] h = tt
  terms (t ∷ ts) h = (h.0, terms ts h.1)

  abbrev arguments : Reduct → List Tree
  arguments (Alone t) = t ∷ []
  arguments (Applied h ix ts) = ts

  term_made : (h : Head) (ix : List LinearExpression) (ts : List Tree) → refusal d h ix ts ≡ None → Each (IsProblemTerm d) ts → IsProblemTerm d (reduct_tree (Applied h ix ts))
  term_made h ix ts free good =
      let s = has_sort h ix ts free in
      let made = node_law.made (slice_get d.symbols) (λ k. pos 1) d.constraints h ix ts (map (sort_of d.symbols) ts) s.0 (terms ts good) (gives_of d h ix (map (sort_of d.symbols) ts) s.0 s.1) in
      let reduced = sorted_application (IsEntailed (λ k. pos 1) d.constraints) (problem_scope (slice_get d.symbols)) h ix ts s.0 made in
      subst (Term (reduct_tree (Applied h ix ts))) (sym (have_their_sort d (reduct_tree (Applied h ix ts)) s.0 reduced)) reduced

  term_outcome : (o : Reduct) → is_refused d o ≡ false → Each (IsProblemTerm d) (arguments o) → IsProblemTerm d (reduct_tree o)
  term_outcome (Alone t) free good = good.0
  term_outcome (Applied h ix ts) free good = term_made h ix ts (is_none (refusal d h ix ts) free) good

  neutral_arguments : (h : Head) (s : Sort) → arguments (neutral h s) ≡ []
  neutral_arguments head.And s = refl
  neutral_arguments head.Or s = refl
  neutral_arguments head.Add s = refl
  neutral_arguments head.Mul s = refl
  neutral_arguments head.BvAdd s = refl
  neutral_arguments head.BvMul s = refl
  neutral_arguments head.BvAnd s = refl
  neutral_arguments head.BvOr s = refl
  neutral_arguments head.BvXor s = refl
  neutral_arguments h s = refl

  collapsed_arguments : (h : Head) (ix : List LinearExpression) (s : Sort) (ts : List Tree) → Each (IsProblemTerm d) ts → Each (IsProblemTerm d) (arguments (collapsed h ix s ts))
  collapsed_arguments h ix s [] good = subst (Each (IsProblemTerm d)) (sym (neutral_arguments h s)) tt
  collapsed_arguments h ix s (t ∷ []) good = good
  collapsed_arguments h ix s (t ∷ u ∷ us) good = good

  outcome_arguments : (h : Head) (ix : List LinearExpression) (g : TreeGroup) → Each (IsProblemTerm d) g.trees → Each (IsProblemTerm d) (arguments (reduct h ix g))
  outcome_arguments h ix g good = by (splices h)
    where
      by : (b : Test) → Each (IsProblemTerm d) (arguments (if b then (collapsed h ix g.element g.trees) else (Applied h ix g.trees)))
      by true = collapsed_arguments h ix g.element g.trees good
      by false = good

  spliced_terms : (gs : List TreeGroup) → Each (λ g. Each (IsProblemTerm d) g.trees) gs → Each (IsProblemTerm d) (spliced gs).trees
  spliced_terms [] h = tt
  spliced_terms (g ∷ gs) h = Each-append (IsProblemTerm d) g.trees (spliced gs).trees h.0 (spliced_terms gs h.1)

  -- an empty `concat` is no term
  empty_concat : (s : Sort) → ruling d head.Concat [] [] ≡ Has s → ⊥
  unfolding ruling
  empty_concat s e = cc

  module _ (ps : List Param) (a : Substitution) (side : Side) (in_hole : Option InstFault) where
    abbrev Fine : Tree-F Tree → Type 0
    Fine = IsFine d ps a side in_hole

    abbrev below : Tree-F Tree → TreeGroup
    below x = spliced (map (instance a) x.args)

    enough : (x : Tree-F Tree) → Fine x → (has_too_few side x.head (has_list ps x.args) (below x).trees ≡ false) × (own_fault d ps a side in_hole x.head x.indices (below x) ≡ None)
    enough x h = no_fault (has_too_few side x.head (has_list ps x.args) (below x).trees) (too_few side) (own_fault d ps a side in_hole x.head x.indices (below x)) h.fine

    -- ---- terms

    free_by : (h : Head) (ix : List LinearExpression) (g : TreeGroup) →
        ◌≡◌ {A = Option InstFault} (if not (list_all (is_put_within a) ix) || is_refused d (reduct h (map (substitute a.number) ix) g) then (Some Limit) else None) None →
        is_refused d (reduct h (map (substitute a.number) ix) g) ≡ false
    free_by h ix g e =
        (either (not (list_all (is_put_within a) ix)) (is_refused d (reduct h (map (substitute a.number) ix) g)) (no_fault (not (list_all (is_put_within a) ix) || is_refused d (reduct h (map (substitute a.number) ix) g)) Limit None e).0).1

    module _ (groups : (k : ℕ) → Each (IsProblemTerm d) (a.group k).trees) (hole : in_hole ≡ None → Each (IsProblemTerm d) a.hole.trees) where
      placed_terms : (h : Head) (ix : List LinearExpression) (g : TreeGroup) → own_fault d ps a side in_hole h ix g ≡ None → Each (IsProblemTerm d) g.trees →
          Each (IsProblemTerm d) (put_node a h (map (substitute a.number) ix) g).trees
      placed_terms (head.Param k) ix g e good = groups k
      placed_terms head.Hole ix g e good = hole e
      placed_terms h ix g e good = (term_outcome (reduct h (map (substitute a.number) ix) g) (free_by h ix g e) (outcome_arguments h (map (substitute a.number) ix) g good), tt)

      abbrev Claim : Tree → Type 0
      Claim t = every-Tree Fine t → Each (IsProblemTerm d) (instance a t).trees

      args_terms : (ts : List Tree) → Each Claim ts → Each (every-Tree Fine) ts → Each (λ g. Each (IsProblemTerm d) g.trees) (map (instance a) ts)
      args_terms [] c h = tt
      args_terms (t ∷ ts) c h = (c.0 h.0, args_terms ts c.1 h.1)

      at_node : (x : Tree-F Tree) → Each Claim x.args → Claim (roll-Tree x)
      at_node x claims fine =
          let here : Fine x = subst Fine (out-roll-Tree x) (every_here-Tree Fine (roll-Tree x) fine) in
          subst (λ g. Each (IsProblemTerm d) g.trees) (sym (fold-roll-Tree TreeGroup (instance_step a) x))
          (placed_terms x.head x.indices (below x) (enough x here).1 (spliced_terms (map (instance a) x.args) (args_terms x.args claims (held_args Fine x fine))))

      pub instance_terms : (t : Tree) → Claim t
      instance_terms = ind-Tree Claim (λ x y is. at_node x (subst (λ z. Each Claim z.args) is (held_each {P = Claim} y.args)))

  -- ---- lengths

  module _ (ps : List Param) (a : Substitution) (in_hole : Option InstFault) where
    some_trees : (ts : List Tree) → nat_lt (length ts) 1 ≡ false → ts ≢ []
    some_trees [] e none = cc
    some_trees (t ∷ ts) e none = cc

    -- what is left of a `concat` elsewhere
    pub joined_elsewhere : (x : Tree-F Tree) → IsFine d ps a OtherSide in_hole x → IsJoinedAt a x
    joined_elsewhere x h concat =
        let e = (enough ps a OtherSide in_hole x h).0 in
        let few : (true && nat_lt (length (below ps a OtherSide in_hole x).trees) 1) ≡ false = subst (λ b. (b && nat_lt (length (below ps a OtherSide in_hole x).trees) 1) ≡ false) concat e in
        some_trees (below ps a OtherSide in_hole x).trees few

    -- what is left on the left side of an application that has list variables
    pub long_left : (x : Tree-F Tree) → IsFine d ps a LeftSide in_hole x → has_list ps x.args ≡ true → 2 ≤ length (spliced (map (instance a) x.args)).trees
    long_left x h lists =
        let e = (enough ps a LeftSide in_hole x h).0 in
        let few : (true && nat_lt (length (below ps a LeftSide in_hole x).trees) 2) ≡ false = subst (λ b. (b && nat_lt (length (below ps a LeftSide in_hole x).trees) 2) ≡ false) lists e in
        ltb-false (length (below ps a LeftSide in_hole x).trees) 2 few

    -- of a `concat` there, too
    joined_head : (h : Head) (ix : List LinearExpression) (g : TreeGroup) → own_fault d ps a LeftSide in_hole h ix g ≡ None → is_concat h ≡ true → g.trees ≢ []
    joined_head head.Concat ix g e concat none =
        let refused : is_some (refusal d head.Concat [] []) ≡ false = by g.trees none (free_by ps a LeftSide in_hole head.Concat ix g e) in
        let s = has_sort head.Concat [] [] (is_none (refusal d head.Concat [] []) refused) in
        empty_concat s.0 s.1
      where
        by : (ts : List Tree) → ts ≡ [] → is_refused d (collapsed head.Concat (map (substitute a.number) ix) g.element ts) ≡ false → is_some (refusal d head.Concat [] []) ≡ false
        by ts none free = subst (λ us. is_refused d (collapsed head.Concat (map (substitute a.number) ix) g.element us) ≡ false) none free
    joined_head h ix g e concat none = cc

    pub joined_left : (x : Tree-F Tree) → IsFine d ps a LeftSide in_hole x → IsJoinedAt a x
    joined_left x h = joined_head x.head x.indices (below ps a LeftSide in_hole x) (enough ps a LeftSide in_hole x h).1
