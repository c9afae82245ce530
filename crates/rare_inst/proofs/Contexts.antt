-- A context with the right side in its hole: what the hole has is what the definitions put there.
use Rattle.std.proofs.Common.{◌≡◌, ℕ, List, [], ◌∷◌, map, refl, sym, ap, ◌∙◌, subst, Option, Some, None, Result, Ok, Err}
use Rattle.std.proofs.lemmas.Option.{none-some}
use Rattle.rare_linear.specs.Linears.{LinearExpression}
use Rattle.rare_sort.specs.Ids.{tree_at}
use Rattle.rare_sort.specs.Sorting.{One, Many, Wide, Scope, Sorting, all_of, sorted_here, sorting}
use Rattle.rare_sort.specs.SortRules.{width_needs}
use Rattle.rare_sort.specs.Trees.{args_of, head_of, indices_of}
use Rattle.rare_sort.specs.declared.declarations.Declarations.{Declarations}
use Rattle.rare_sort.specs.declared.head.Head.{Head}
use Rattle.rare_sort.specs.declared.head.Head.TheVariants as head
use Rattle.rare_sort.specs.declared.sort.Sort.{Sort, Bool}
use Rattle.rare_sort.specs.declared.tree.TermId.{TermId}
use Rattle.rare_sort.specs.declared.tree.Tree.{Tree}
use Rattle.rare_sort.proofs.Options.{then_some}
use Rattle.rare_sort.proofs.SortingLemmas.{sorting-node}
use Rattle.rare_term.specs.State.{State, Grows}
use Rattle.rare_term.specs.inner.TreeLaws.{node_of}
use Rattle.rare_rule.specs.Params.{kind_at}
use Rattle.rare_rule.specs.RuleSorting.{FitsContext, TypesAs, kind_sorting, rule_scope, sorting_of}
use Rattle.rare_rule.specs.TypedRule.{TypedRule}
use Rattle.rare_rule.specs.declared.param.ParamKind.{ParamKind}
use Rattle.rare_rule.specs.declared.param.ParamKind.TheVariants as kind
use Rattle.rare_rule.specs.declared.rule.Rule.{Rule}
use Rattle.rare_inst.specs.Admission.{IsAdmitted}
use Rattle.rare_inst.specs.Answers.{AreGiven}
use Rattle.rare_inst.specs.Arguments.{Argument, arguments_of}
use Rattle.rare_inst.specs.Instance.{OtherSide, instance, instance_fault, part_of, put_node, result_in, result_of, unless_faulty, with_right}
use Rattle.rare_inst.specs.InstanceLaws.{IsInstance}
use Rattle.rare_inst.specs.Substituting.{Substitution, TreeGroup, one_tree, tree_group}
use Rattle.rare_inst.specs.declared.arg.Arg.{Arg}
use Rattle.rare_inst.specs.declared.fault.InstFault.{InstFault}
use Rattle.rare_inst.specs.declared.part.Hole.{Hole}
use Rattle.rare_inst.specs.declared.part.Hole.TheVariants as hole
use Rattle.rare_inst.specs.declared.part.Part.{Part}
use Rattle.rare_inst.specs.declared.part.Side.TheVariants as side
use Rattle.rare_inst.specs.inner.Making.{HoldsPart, IsAlone, IsHoleOf, hole_fault, hole_group, part_fault, part_group, side_of}
use Rattle.rare_inst.specs.inner.Standing.{AreNumbersOf}
use Rattle.rare_inst.proofs.Admitted.{suits}
use Rattle.rare_inst.proofs.HoleLemmas.{fault_alike, other}
use Rattle.rare_inst.proofs.Holes.{hole_exists}
use Rattle.rare_inst.proofs.InstanceNodes.{instance-node}
use Rattle.rare_inst.proofs.Parts.{arguments_kept}
use Rattle.rare_inst.proofs.SortedInstances.{exists, in_context, putting, whole}
use Rattle.rare_inst.proofs.Starting.{putting_is}

-- ---- a part that is one term

module _ (d : Declarations) (t : TypedRule) (args : List Argument) (i : IsInstance d t args) where
  abbrev a : Substitution
  a = putting d t args i

  abbrev C : Scope
  C = rule_scope t.rule.params None

  never_many : (x s : Sort) (k : ℕ) → Many s k ≡ One x → ⊥
  never_many x s k e = cc

  never_wide : (x : Sort) (k : ℕ) → Wide k ≡ One x → ⊥
  never_wide x k e = cc

  of_kind : (k : ℕ) (c : ParamKind) (x : Sort) (r : Sorting) → r.place ≡ One x → kind_at t.rule.params k ≡ Some c → kind_sorting k c ≡ Some r → (a.group k).element ≡ Bool
  of_kind k (kind.Term s) x r p e q = ap (λ (g : TreeGroup). g.element) (suits d t args i.arguments i.admitted k (kind.Term s) e).1
  of_kind k (kind.List s) x r p e q =
      let same : sorting_of (Many s k) (width_needs s) ≡ r = cc in
      absurd (never_many x s k (ap (λ (y : Sorting). y.place) same ∙ p))
  of_kind k kind.WideList x r p e q =
      let same : sorting_of (Wide k) [] ≡ r = cc in
      absurd (never_wide x k (ap (λ (y : Sorting). y.place) same ∙ p))
  of_kind k kind.SortName x r p e q = cc
  of_kind k kind.Width x r p e q = cc
  of_kind k kind.Index x r p e q = cc

  at_head : (h : Head) (ix jx : List LinearExpression) (g : TreeGroup) (xs : List Sorting) (x : Sort) (r : Sorting) → r.place ≡ One x → sorted_here C h ix xs ≡ Some r → (put_node a h jx g).element ≡ Bool
  at_head (head.Param k) ix jx g xs x r p e =
      let c = then_some (kind_sorting k) (kind_at t.rule.params k) r e in
      of_kind k c.0 x r p c.1 c.2
  at_head head.Hole ix jx g xs x r p e = cc
  at_head h ix jx g xs x r p e = refl

  -- no list stands where a term is to stand
  pub element_is : (u : Tree) (x : Sort) → TypesAs t.rule u x → (instance a u).element ≡ Bool
  element_is u x h =
      let r : Sorting = record { place = One x; alike = h.alike; needs = h.needs } in
      let q = then_some (sorted_here C (head_of u) (indices_of u)) (all_of (map (sorting C) (args_of u))) r
      (sym (sorting-node C (head_of u) (indices_of u) (args_of u)) ∙ ap (sorting C) (node_of u) ∙ h.found) in
      ap (λ (v : Tree). (instance a v).element) (sym (node_of u))
      ∙ ap (λ (g : TreeGroup). g.element) (instance-node a (head_of u) (indices_of u) (args_of u))
      ∙ at_head (head_of u) (indices_of u) _ _ q.0 x r refl q.2

-- ---- the hole

same_fault : (o : Option InstFault) (g h : TreeGroup) → (o ≡ None → ⊥) → unless_faulty o g ≡ unless_faulty o h
same_fault None g h some = absurd (some refl)
same_fault (Some f) g h some = refl

fails : (o : Option InstFault) (g : TreeGroup) (f : InstFault) → unless_faulty o g ≡ Err f → o ≡ Some f
fails None g f e = cc
fails (Some k) g f e = let same : k ≡ f = cc in ap Some same

-- a term in the hole is there
pub held_there : (ts : List Tree) (part : Result Tree InstFault) (h : Hole) → HoldsPart ts part h → IsHoleOf ts h
held_there ts part hole.Nothing held = tt
held_there ts part (hole.Term id) held = held.0
held_there ts part (hole.Fault f) held = tt

module _ (s : State) (t : TypedRule) (args : List Arg) (i : IsInstance s.declared t (arguments_of s.trees args)) (c : Tree) (is : t.rule.context ≡ Some c) where
  abbrev d : Declarations
  d = s.declared

  abbrev given : List Argument
  given = arguments_of s.trees args

  abbrev r : Rule
  r = t.rule

  abbrev plain : Substitution
  plain = putting d t given i

  abbrev full : Substitution
  full = with_right r plain

  abbrev sort : Sort
  sort = i.typed.typing.typed.sort

  abbrev right_fault : Option InstFault
  right_fault = instance_fault d r.params plain OtherSide None r.right

  abbrev full_fault : Option InstFault
  full_fault = instance_fault d r.params full OtherSide right_fault c

  abbrev Held : Hole → Type 0
  Held h = HoldsPart s.trees (part_of d r given OtherSide r.right) h

  -- with this in the hole
  abbrev filled : Hole → Substitution
  filled h = other plain (hole_group s.trees h)

  abbrev filled_fault : Hole → Option InstFault
  filled_fault h = instance_fault d r.params (filled h) OtherSide (hole_fault h) c

  fits : FitsContext r (Some c) sort
  fits = subst (λ (o : Option Tree). FitsContext r o sort) is i.typed.typing.typed.context

  -- the right side is that one term
  right_is : (u : Tree) → part_of d r given OtherSide r.right ≡ Ok u → (right_fault ≡ None) × (instance plain r.right ≡ one_tree u)
  right_is u e =
      let q = exists right_fault (instance plain r.right) u e in
      let w = whole d t given i OtherSide r.right sort i.typed.typing.typed.right q.0 in
      let same : w.0 ≡ u = ap (λ (ts : List Tree). tree_at ts 0) (sym w.1.only) ∙ q.1 in
      let trees = w.1.only ∙ ap (λ (v : Tree). v ∷ []) same in
      let element = element_is d t given i r.right sort i.typed.typing.typed.right in
      (q.0, λ j. record { element = element j; trees = trees j })

  term_filled : (id : TermId) → Held (hole.Term id) → filled (hole.Term id) ≡ full
  term_filled id held = ap (λ (g : TreeGroup). record plain { hole = g }) (sym (right_is (tree_at s.trees id.0) held.1).1)

  -- with a term in the hole, the fault is that of the context with the right side
  term_fault : (id : TermId) → Held (hole.Term id) → filled_fault (hole.Term id) ≡ full_fault
  term_fault id held =
      let q = right_is (tree_at s.trees id.0) held.1 in
      λ j. instance_fault d r.params (term_filled id held j) OtherSide (sym q.0 j) c

  -- and so it is with a fault there
  fault_there : (f : InstFault) → Held (hole.Fault f) → filled_fault (hole.Fault f) ≡ full_fault
  fault_there f held =
      fault_alike plain (tree_group Bool []) d r.params OtherSide f c
      ∙ sym (fault_alike plain (instance plain r.right) d r.params OtherSide f c)
      ∙ ap (λ (o : Option InstFault). instance_fault d r.params full OtherSide o c) (sym (fails right_fault (instance plain r.right) f held))

  some_fault : (f : InstFault) → Held (hole.Fault f) → full_fault ≡ None → ⊥
  some_fault f held e =
      let right = fails right_fault (instance plain r.right) f held in
      let none = hole_exists d r full OtherSide right_fault i.typed.form c is e in
      none-some f (sym none ∙ right)

  filled_result : (h : Hole) → Held h → unless_faulty (filled_fault h) (instance (filled h) c) ≡ result_in d r given (Some c)
  filled_result hole.Nothing held = absurd held
  filled_result (hole.Term id) held = λ j. unless_faulty (term_fault id held j) (instance (term_filled id held j) c)
  filled_result (hole.Fault f) held =
      ap (λ (o : Option InstFault). unless_faulty o (instance (filled (hole.Fault f)) c)) (fault_there f held)
      ∙ same_fault full_fault (instance (filled (hole.Fault f)) c) (instance full c) (some_fault f held)

  filled_alone : (h : Hole) → Held h → filled_fault h ≡ None → IsAlone (instance (filled h) c)
  filled_alone hole.Nothing held e = absurd held
  filled_alone (hole.Term id) held e =
      let q = right_is (tree_at s.trees id.0) held.1 in
      let w = in_context d t given i c fits q.0 (sym (term_fault id held) ∙ e) in
      record { tree = w.0; only = ap (λ (b : Substitution). (instance b c).trees) (term_filled id held) ∙ w.1.only }
  filled_alone (hole.Fault f) held e = absurd (some_fault f held (sym (fault_there f held) ∙ e))

  module _ (p : Part) (ps : p.params.now ≡ t.rule.params) (same : p.args.now ≡ args) (are : AreNumbersOf s.declared.symbols (arguments_of s.trees args) p.numbers.now) (at : p.side ≡ side.Other) (held : Held p.hole) where
    part_is : part_fault s p c ≡ filled_fault p.hole
    part_is = λ j. instance_fault d (ps j) (putting_is s t args p ps same are j) (side_of (at j)) (hole_fault p.hole) c

    group_is : part_group s p c ≡ instance (filled p.hole) c
    group_is = λ j. instance (putting_is s t args p ps same are j) c

    -- the context with what the hole has is the result
    pub context_is : unless_faulty (part_fault s p c) (part_group s p c) ≡ result_of d r given
    context_is = (λ j. unless_faulty (part_is j) (group_is j)) ∙ filled_result p.hole held ∙ ap (result_in d r given) (sym is)

    -- and where it has no fault, one term
    pub context_alone : part_fault s p c ≡ None → IsAlone (part_group s p c)
    context_alone e = subst IsAlone (sym group_is) (filled_alone p.hole held (sym part_is ∙ e))

-- ---- terms that have grown

module _ (old now : State) (t : TypedRule) (args : List Arg) (g : Grows old now) (held : AreGiven old args) where
  pub part_stays : (u : Tree) → part_of now.declared t.rule (arguments_of now.trees args) OtherSide u ≡ part_of old.declared t.rule (arguments_of old.trees args) OtherSide u
  part_stays u = λ j. part_of (g.declared j) t.rule (arguments_kept old now args g held j) OtherSide u

  pub result_stays : result_of now.declared t.rule (arguments_of now.trees args) ≡ result_of old.declared t.rule (arguments_of old.trees args)
  result_stays = λ j. result_of (g.declared j) t.rule (arguments_kept old now args g held j)

  pub admitted_stays : IsAdmitted old.declared t (arguments_of old.trees args) → IsAdmitted now.declared t (arguments_of now.trees args)
  admitted_stays h =
      subst (λ (x : Declarations × List Argument). IsAdmitted x.0 t x.1) (λ j. (sym g.declared j, sym (arguments_kept old now args g held) j)) h
