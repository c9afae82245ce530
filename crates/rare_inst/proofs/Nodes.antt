-- What a node of a rule's tree becomes, step by step.
use Rattle.std.proofs.Common.{◌≡◌, ℕ, suc, ◌<◌, Bool as Test, true, false, ◌||◌, not, List, [], ◌∷◌, length, map, slice_get, All, Option, Some, None, Result, refl, sym, ap, ◌∙◌, subst, arith, if◌then◌else◌}
use Rattle.std.proofs.lemmas.List.Elements.{All-nil, All-cons}
use Rattle.std.proofs.lemmas.Option.{same_Some, slice_get-map, slice_get_within, get_or_from_slice_get}
use Rattle.std.specs.Option.{option_map}
use Rattle.std.specs.List.{list_all}
use Rattle.rare_linear.specs.Linears.{LinearExpression, number, substitute, substitute_from}
use Rattle.rare_sort.specs.Ids.{AreIds, trees_at}
use Rattle.rare_sort.specs.Trees.{head_of, indices_of}
use Rattle.rare_sort.specs.declared.head.Head.{Head}
use Rattle.rare_sort.specs.declared.head.Head.TheVariants as head
use Rattle.rare_sort.specs.declared.sort.Sort.{Sort}
use Rattle.rare_sort.specs.declared.tree.TermId.{TermId}
use Rattle.rare_sort.specs.declared.tree.Tree.{Tree}
use Rattle.rare_term.specs.Literals.{IsGiven}
use Rattle.rare_term.specs.State.{State}
use Rattle.rare_inst.specs.Collapse.{reduct_tree}
use Rattle.rare_rule.specs.Params.{kind_at}
use Rattle.rare_inst.specs.Answers.{AreGiven, IsGiven as IsGivenArg}
use Rattle.rare_inst.specs.Arguments.{argument_of}
use Rattle.rare_inst.specs.Instance.{is_refused, own_fault, put_node}
use Rattle.rare_inst.specs.Substituting.{Substitution, group_given, is_put_within}
use Rattle.rare_inst.specs.declared.arg.Arg.{Arg}
use Rattle.rare_inst.specs.declared.arg.Arg.TheVariants as given
use Rattle.rare_inst.specs.declared.fault.InstFault.{InstFault}
use Rattle.rare_inst.specs.declared.fault.InstFault.TheVariants.{Limit}
use Rattle.rare_inst.specs.declared.part.Part.{Part}
use Rattle.rare_inst.specs.inner.Making.{AnswersMade, AnswersReduct, IsGroup, applied, applied_fault, group_at, hole_fault, ids_given, node_group, own_fault_at, put_elements, putting, side_of}
use Rattle.rare_inst.specs.inner.Standing.{put_all_within}

-- ---- indices

module _ (a : Substitution) where
  pub all_put : (es put : List LinearExpression) → Some put ≡ put_all_within a es → (list_all (is_put_within a) es ≡ true) × (put ≡ map (substitute a.number) es)
  all_put es put h = go (list_all (is_put_within a) es) h
    where
      go : (b : Test) → Some put ≡ (if b then (Some (map (substitute a.number) es)) else None) → (b ≡ true) × (put ≡ map (substitute a.number) es)
      go true h = (refl, same_Some put (map (substitute a.number) es) h)
      go false h = cc

  pub none_put : (es : List LinearExpression) → None ≡ put_all_within a es → list_all (is_put_within a) es ≡ false
  none_put es h = go (list_all (is_put_within a) es) h
    where
      go : (b : Test) → None ≡ (if b then (Some (map (substitute a.number) es)) else None) → b ≡ false
      go true h = cc
      go false h = refl

  -- a number stays one
  number_put : (e : LinearExpression) → e.parts ≡ [] → (substitute a.number e).parts ≡ []
  number_put e h = ap (λ ps. (substitute_from a.number (number e.constant) ps).parts) h

  numbers_put : (es : List LinearExpression) → All (λ w. w.parts ≡ []) es → All (λ w. w.parts ≡ []) (map (substitute a.number) es)
  numbers_put [] h = All-nil (λ (w : LinearExpression). w.parts ≡ [])
  numbers_put (e ∷ es) h =
      All-cons (λ (w : LinearExpression). w.parts ≡ []) (substitute a.number e) (map (substitute a.number) es) (number_put e (h 0 e (omega arith)))
      (numbers_put es (λ k d lt. h (suc k) d (omega arith)))

  pub given_put : (h : Head) (es : List LinearExpression) → IsGiven h es → IsGiven h (map (substitute a.number) es)
  given_put (head.Bits v) es g = numbers_put es g
  given_put h es g = tt

-- ---- applications

module _ (s : State) (p : Part) (t : Tree) (ids : List TermId) where
  abbrev within : Test
  within = list_all (is_put_within (putting s p)) (indices_of t)

  fault_is : (b : Test) → within ≡ b → applied_fault s p t ids ≡ (if not b || is_refused s.declared (applied s p t ids) then (Some Limit) else None)
  fault_is b e = ap (λ c. if not c || is_refused s.declared (applied s p t ids) then (Some Limit) else None) e

  pub made_within : (ts : List Tree) (r : Result TermId InstFault) → within ≡ true → AnswersReduct s.declared ts (applied s p t ids) r → AnswersMade ts (applied_fault s p t ids) (reduct_tree (applied s p t ids)) r
  made_within ts r e h = subst (λ (f : Option InstFault). AnswersMade ts f (reduct_tree (applied s p t ids)) r) (sym (fault_is true e)) h

  pub beyond_limit : within ≡ false → applied_fault s p t ids ≡ Some Limit
  beyond_limit e = fault_is false e

-- ---- parameters

module _ (s : State) (p : Part) (known : AreGiven s p.args.now) where
  -- the terms that stand for a name
  record IsOf (o : Option Arg) : Type 0 where
    ids : AreIds (length s.trees) (ids_given o)
    trees : (r : Sort) → trees_at s.trees (ids_given o) ≡ (group_given r (option_map (argument_of s.trees) o)).trees

  no_ids : AreIds (length s.trees) []
  no_ids = All-nil (λ (id : TermId). id.0 < length s.trees)

  of_given : (o : Option Arg) → ((x : Arg) → o ≡ Some x → IsGivenArg s x) → IsOf o
  of_given None h = record { ids = no_ids; trees = λ r. refl }
  of_given (Some (given.Sort x)) h = record { ids = no_ids; trees = λ r. refl }
  of_given (Some (given.Linear e)) h = record { ids = no_ids; trees = λ r. refl }
  of_given (Some (given.Term id)) h =
      record { ids = All-cons (λ (id : TermId). id.0 < length s.trees) id [] (h (given.Term id) refl) no_ids; trees = λ r. refl }
  of_given (Some (given.List ids)) h = record { ids = h (given.List ids) refl; trees = λ r. refl }

  at_place : (k : ℕ) (x : Arg) → slice_get p.args.now k ≡ Some x → IsGivenArg s x
  at_place k x e =
      subst (IsGivenArg s) (get_or_from_slice_get p.args.now k x x e) (known k x (slice_get_within p.args.now k x e))

  found : (k : ℕ) → IsOf (slice_get p.args.now k)
  found k = of_given (slice_get p.args.now k) (λ x e. at_place k x e)

  -- what stands for a parameter has no fault
  pub param_group : (t : Tree) (k : ℕ) (own ids : List TermId) → head_of t ≡ head.Param k → ids ≡ ids_given (slice_get p.args.now k) → IsGroup s.trees (own_fault_at s p t own) (node_group s p t own) ids
  param_group t k own ids is are =
      let f = found k in
      let a = putting s p in
      let g = group_at s p t own in
      let ix = indices_of t in
      record {
        known = subst (AreIds (length s.trees)) (sym are) f.ids;
        trees =
            ap (trees_at s.trees) are
            ∙ f.trees (put_elements a (kind_at p.params.now k))
            ∙ ap (λ o. (group_given (put_elements a (kind_at p.params.now k)) o).trees) (sym (slice_get-map (argument_of s.trees) p.args.now k))
            ∙ ap (λ (h : Head). (put_node a h (map (substitute a.number) ix) g).trees) (sym is);
        fine = ap (λ (h : Head). own_fault s.declared p.params.now a (side_of p.side) (hole_fault p.hole) h ix g) is;
      }
