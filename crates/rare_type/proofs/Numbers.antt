-- The constraints of a rule in form that types are over numbers of the rule.
use Rattle.std.proofs.Common.{◌≡◌, ℕ, zero, suc, ℤ, Bool, true, false, ◌||◌, List, [], ◌∷◌, ◌++◌, map, flat_map, Option, Some, None, refl, sym, ap, ◌∙◌, subst, if◌then◌else◌}
use Rattle.std.specs.List.{list_any}
use Rattle.std.specs.Option.{option_map, option_and_then}
use Rattle.std.proofs.lemmas.Option.{none-some, same_Some}
use Rattle.rare_linear.specs.EntailmentTest.{is_entailed}
use Rattle.rare_linear.specs.Linears.{LinearExpression}
use Rattle.rare_linear.specs.declared.constraint.Constraint.{Constraint}
use Rattle.rare_sort.specs.Each.{Each, EachPair}
use Rattle.rare_sort.specs.Families.{family}
use Rattle.rare_sort.specs.Sameness.{linear_eq}
use Rattle.rare_sort.specs.SortRules.{SortRule, width, width_needs, sort_rule}
use Rattle.rare_sort.specs.Sorting.{Place, One, Many, Wide, Sorting, splices, is_concat, name, place_sort, all_of, least_count, places, place_rule, with_rule, sorted_here, sorting}
use Rattle.rare_sort.specs.Trees.{node}
use Rattle.rare_sort.specs.declared.head.Head.{Head}
use Rattle.rare_sort.specs.declared.head.Head.TheVariants as head
use Rattle.rare_sort.specs.declared.sort.Sort.{Sort, Bool as BoolSort, BitVec}
use Rattle.rare_sort.specs.declared.tree.Tree.{Tree}
use Rattle.rare_sort.proofs.NeedsLemmas.{both, and_both}
use Rattle.rare_sort.proofs.Options.{map_some, then_some}
use Rattle.rare_sort.proofs.SortingLemmas.{sorting-node, Each-append, all_found}
use Rattle.rare_rule.specs.NodeForms.{all_nodes, has_indices}
use Rattle.rare_rule.specs.Nodes.{Node, walk, nodes_in}
use Rattle.rare_rule.specs.ParamForms.{are_bounds, has_sort_over, all_params}
use Rattle.rare_rule.specs.Params.{kind_at, is_number_kind, rule_lows}
use Rattle.rare_rule.specs.RuleSorting.{sorting_of, kind_sorting, rule_scope, TypesAs, FitsContext, IsTyped, premise_needs, context_needs, rule_needs, at_least_zero, constraints_after}
use Rattle.rare_rule.specs.Rules.{IsInForm, context_parts, side_nodes, context_nodes}
use Rattle.rare_rule.specs.declared.param.Param.{Param}
use Rattle.rare_rule.specs.declared.param.ParamKind.{ParamKind}
use Rattle.rare_rule.specs.declared.param.ParamKind.TheVariants as kind
use Rattle.rare_rule.specs.declared.rule.Rule.{Rule}
use Rattle.rare_rule.proofs.Walks.{walk-node}
use Rattle.rare_type.proofs.SortsOver.{IsNumber, IsOver, IsSortOver, IsRuleOver, indices_over, widths_over, rule_over}
use Rattle.rare_type.proofs.TreeCases.{by_nodes}
use Rattle.rare_type.specs.TypingLaws.{ConstraintsAreOverNumbers}

all_append : (test : Node → Bool) (xs ys : List Node) → all_nodes test (xs ++ ys) ≡ true → (all_nodes test xs ≡ true) × (all_nodes test ys ≡ true)
all_append test [] ys h = (refl, h)
all_append test (x ∷ xs) ys h =
    let a = both _ _ h in
    let b = all_append test xs ys a.1 in
    (and_both (test x) (all_nodes test xs) a.0 b.0, b.1)

module _ (ps : List Param) where
  -- ---- places and sortings

  abbrev pub IsPlaceOver : Place → Type 0
  IsPlaceOver (One s) = IsSortOver ps s
  IsPlaceOver (Many s k) = IsSortOver ps s × IsNumber ps k
  IsPlaceOver (Wide k) = IsNumber ps k

  pub record IsSortingOver (z : Sorting) : Type 0 where
    pub place : IsPlaceOver z.place
    pub needs : Each (IsOver ps) z.needs

  name_over : (k : ℕ) → IsNumber ps k → IsSortOver ps (BitVec (name k))
  name_over k n = and_both _ _ n refl

  -- the sort that a place counts as
  counted_over : (h : Head) (p : Place) (s : Sort) → IsPlaceOver p → place_sort h p ≡ Some s → IsSortOver ps s
  counted_over h (One s) t o e = subst (IsSortOver ps) (same_Some s t e) o
  counted_over h (Many s k) t o e = go (is_concat h) (splices h) e
    where
      go : (a b : Bool) → (if a then (option_map (λ w. BitVec (name k)) (width s)) else (if b then (Some s) else None)) ≡ Some t → IsSortOver ps t
      go true b e = let q = map_some (λ (w : LinearExpression). BitVec (name k)) (width s) t e in subst (IsSortOver ps) q.2 (name_over k o.1)
      go false true e = subst (IsSortOver ps) (same_Some s t e) o.0
      go false false e = absurd (none-some t e)
  counted_over h (Wide k) t o e = go (is_concat h) e
    where
      go : (a : Bool) → (if a then (Some (BitVec (name k))) else None) ≡ Some t → IsSortOver ps t
      go true e = subst (IsSortOver ps) (same_Some (BitVec (name k)) t e) (name_over k o)
      go false e = absurd (none-some t e)

  all_counted : (h : Head) (zs : List Sorting) (ss : List Sort) → Each IsSortingOver zs → EachPair (λ p s. place_sort h p ≡ Some s) (places zs) ss → Each (IsSortOver ps) ss
  all_counted h [] [] o e = tt
  all_counted h [] (s ∷ ss) o e = absurd e
  all_counted h (z ∷ zs) [] o e = absurd e
  all_counted h (z ∷ zs) (s ∷ ss) o e = (counted_over h z.place s o.0.place e.0, all_counted h zs ss o.1 e.1)

  needs_of : (zs : List Sorting) → Each IsSortingOver zs → Each (IsOver ps) (flat_map (λ z. z.needs) zs)
  needs_of [] o = tt
  needs_of (z ∷ zs) o = Each-append (IsOver ps) z.needs (flat_map (λ z. z.needs) zs) o.0.needs (needs_of zs o.1)

  -- ---- parameters

  kind_over : (qs : List Param) (k : ℕ) (d : ParamKind) → all_params (λ p. has_sort_over ps p.kind) qs ≡ true → kind_at qs k ≡ Some d → has_sort_over ps d ≡ true
  kind_over [] k d h e = absurd (none-some d e)
  kind_over (q ∷ qs) zero d h e = subst (λ x. has_sort_over ps x ≡ true) (same_Some q.kind d e) (both _ _ h).0
  kind_over (q ∷ qs) (suc k) d h e = kind_over qs k d (both _ _ h).1 e

  param_over : (k : ℕ) (z : Sorting) → all_params (λ p. has_sort_over ps p.kind) ps ≡ true → option_and_then (kind_sorting k) (kind_at ps k) ≡ Some z → IsSortingOver z
  param_over k z h e = go (kind_at ps k) refl e
    where
      go : (o : Option ParamKind) → kind_at ps k ≡ o → option_and_then (kind_sorting k) o ≡ Some z → IsSortingOver z
      go None is t = absurd (none-some z t)
      go (Some (kind.Term s)) is t =
          let over = kind_over ps k (kind.Term s) h is in
          subst IsSortingOver (same_Some (sorting_of (One s) (width_needs s)) z t) (record { place = over; needs = widths_over ps s over })
      go (Some (kind.List s)) is t =
          let over = kind_over ps k (kind.List s) h is in
          subst IsSortingOver (same_Some (sorting_of (Many s k) (width_needs s)) z t) (record { place = (over, ap is_number_kind is); needs = widths_over ps s over })
      go (Some kind.WideList) is t = subst IsSortingOver (same_Some (sorting_of (Wide k) []) z t) (record { place = ap is_number_kind is; needs = tt })
      go (Some d) is t = absurd (none-some z t)

  -- ---- trees

  abbrev HasIndices : List Node → Type 0
  HasIndices ns = all_nodes (has_indices ps) ns ≡ true

  module _ (hole : Option Sorting) (sorts : all_params (λ p. has_sort_over ps p.kind) ps ≡ true) (hole_over : (z : Sorting) → hole ≡ Some z → IsSortingOver z) where
    abbrev IsTreeOver : Tree → Type 0
    IsTreeOver t = (parent : Option Head) (z : Sorting) → HasIndices ((walk t).nodes parent) → sorting (rule_scope ps hole) t ≡ Some z → IsSortingOver z

    args_over : (parent : Option Head) (ts : List Tree) (zs : List Sorting) → Each IsTreeOver ts → HasIndices (flat_map (λ w. w.nodes parent) (map walk ts)) →
        EachPair (λ t z. sorting (rule_scope ps hole) t ≡ Some z) ts zs → Each IsSortingOver zs
    args_over parent [] [] o n e = tt
    args_over parent [] (z ∷ zs) o n e = absurd e
    args_over parent (t ∷ ts) [] o n e = absurd e
    args_over parent (t ∷ ts) (z ∷ zs) o n e =
        let b = all_append (has_indices ps) ((walk t).nodes parent) (flat_map (λ w. w.nodes parent) (map walk ts)) n in
        (o.0 parent z b.0 e.0, args_over parent ts zs o.1 b.1 e.1)

    -- the nodes of the arguments, and the indices of the node itself
    own_indices : (h : Head) (ix : List LinearExpression) (ts : List Tree) (parent : Option Head) → HasIndices ((walk (node h ix ts)).nodes parent) →
        HasIndices (flat_map (λ w. w.nodes (Some h)) (map walk ts)) × Each (IsOver ps) ix
    own_indices h ix ts parent n =
        let here : Node = record { head = h; indices = ix; parent = parent; args = map (λ w. w.root) (map walk ts) } in
        let all : HasIndices (flat_map (λ w. w.nodes (Some h)) (map walk ts) ++ (here ∷ [])) = subst (λ w. HasIndices (w.nodes parent)) (walk-node h ix ts) n in
        let a = all_append (has_indices ps) (flat_map (λ w. w.nodes (Some h)) (map walk ts)) (here ∷ []) all in
        let b = both _ _ a.1 in
        (a.0, indices_over ps ix (both _ _ b.0).1)

    with_rule_over : (zs : List Sorting) (r : SortRule) → Each IsSortingOver zs → IsRuleOver ps r → IsSortingOver (with_rule (rule_scope ps hole) zs r)
    with_rule_over zs r o h = record {
      place = h.sort;
      needs = Each-append (IsOver ps) (flat_map (λ z. z.needs) zs) (r.needs ++ []) (needs_of zs o) (Each-append (IsOver ps) r.needs [] h.needs tt);
    }

    application_over : (h : Head) (ix : List LinearExpression) (zs : List Sorting) (z : Sorting) → Each (IsOver ps) ix → Each IsSortingOver zs →
        option_map (with_rule (rule_scope ps hole) zs) (place_rule (λ k. None) h ix (places zs)) ≡ Some z → IsSortingOver z
    application_over h ix zs z n o e =
        let q = map_some (with_rule (rule_scope ps hole) zs) (place_rule (λ k. None) h ix (places zs)) z e in
        let s = then_some (sort_rule (λ k. None) (least_count (places zs)) (family h) ix) (all_of (map (place_sort h) (places zs))) q.0 q.1 in
        let counted = all_counted h zs s.0 o (all_found (place_sort h) (places zs) s.0 s.1) in
        subst IsSortingOver q.2 (with_rule_over zs q.0 o (rule_over ps (least_count (places zs)) (family h) ix s.0 q.0 n counted s.2))

    here_over : (h : Head) (ix : List LinearExpression) (zs : List Sorting) (z : Sorting) → Each (IsOver ps) ix → Each IsSortingOver zs → sorted_here (rule_scope ps hole) h ix zs ≡ Some z → IsSortingOver z
    here_over (head.Param k) ix zs z n o e = param_over k z sorts e
    here_over head.Hole ix zs z n o e = hole_over z e
    here_over h ix zs z n o e = application_over h ix zs z n o e

    at_node : (h : Head) (ix : List LinearExpression) (ts : List Tree) → Each IsTreeOver ts → IsTreeOver (node h ix ts)
    at_node h ix ts o parent z n e =
        let q = then_some (sorted_here (rule_scope ps hole) h ix) (all_of (map (sorting (rule_scope ps hole)) ts)) z (sym (sorting-node (rule_scope ps hole) h ix ts) ∙ e) in
        let own = own_indices h ix ts parent n in
        here_over h ix q.0 z own.1 (args_over (Some h) ts q.0 o own.0 (all_found (sorting (rule_scope ps hole)) ts q.0 q.1)) q.2

    -- a tree over numbers has a sort and needs over numbers
    pub tree_over : (t : Tree) → IsTreeOver t
    tree_over = by_nodes IsTreeOver at_node

  -- ---- constraints

  floors_over : (cs : List Constraint) → are_bounds ps cs ≡ true → Each (IsOver ps) (map (λ c. c.floor) cs)
  floors_over [] h = tt
  floors_over (c ∷ cs) h = let b = both _ _ h in (b.0, floors_over cs b.1)

  kept_over : (lows : ℕ → ℤ) (before es : List LinearExpression) → Each (IsOver ps) es → are_bounds ps (constraints_after lows before es) ≡ true
  kept_over lows before [] o = refl
  kept_over lows before (e ∷ es) o = go (is_entailed lows [] e || list_any (linear_eq e) before) (kept_over lows before es o.1) (kept_over lows (e ∷ before) es o.1)
    where
      go : (b : Bool) → are_bounds ps (constraints_after lows before es) ≡ true → are_bounds ps (constraints_after lows (e ∷ before) es) ≡ true →
          are_bounds ps (if b then (constraints_after lows before es) else (at_least_zero e ∷ constraints_after lows (e ∷ before) es)) ≡ true
      go true old new = old
      go false old new = and_both _ _ o.0 new

-- ---- rules

module _ (r : Rule) (sorts : all_params (λ p. has_sort_over r.params p.kind) r.params ≡ true) where
  -- a part that is not the context
  part_over : (t : Tree) (s : Sort) (h : TypesAs r t s) → HasIndices r.params ((walk t).nodes None) → IsSortingOver r.params (sorting_of (One s) h.needs)
  part_over t s h n =
      let z = tree_over r.params None sorts (λ z e. absurd (none-some z e)) t None (record { place = One s; alike = h.alike; needs = h.needs }) n h.found in
      record { place = z.place; needs = z.needs }

  premises_over : (ts : List Tree) (hs : Each (λ p. TypesAs r p BoolSort) ts) → HasIndices r.params (nodes_in ts) → Each (IsOver r.params) (premise_needs r ts hs)
  premises_over [] hs n = tt
  premises_over (t ∷ ts) hs n =
      let b = all_append (has_indices r.params) ((walk t).nodes None) (nodes_in ts) n in
      Each-append (IsOver r.params) hs.0.needs (premise_needs r ts hs.1) (part_over t BoolSort hs.0 b.0).needs (premises_over ts hs.1 b.1)

  -- the hole has the sort of the left side
  hole_is_over : (s : Sort) → IsSortOver r.params s → (z : Sorting) → Some (sorting_of (One s) []) ≡ Some z → IsSortingOver r.params z
  hole_is_over s o z e = subst (IsSortingOver r.params) (same_Some (sorting_of (One s) []) z e) (record { place = o; needs = tt })

  context_over : (c : Option Tree) (s : Sort) (h : FitsContext r c s) → IsSortOver r.params s → HasIndices r.params (nodes_in (context_parts c)) → Each (IsOver r.params) (context_needs r c s h)
  context_over None s h o n = tt
  context_over (Some t) s h o n =
      let b = all_append (has_indices r.params) ((walk t).nodes None) [] n in
      (tree_over r.params (Some (sorting_of (One s) [])) sorts (hole_is_over s o) t None (record { place = One s; alike = h.alike; needs = h.needs }) b.0 h.found).needs

rule_needs_over : (r : Rule) (h : IsTyped r) → IsInForm r → Each (IsOver r.params) (rule_needs r h)
rule_needs_over r h form =
    let both_sides = all_append (has_indices r.params) (side_nodes r) (context_nodes r) form.indices in
    let premises = all_append (has_indices r.params) (nodes_in r.premises) ((walk r.left).nodes None ++ (walk r.right).nodes None) both_sides.0 in
    let sides = all_append (has_indices r.params) ((walk r.left).nodes None) ((walk r.right).nodes None) premises.1 in
    let left = part_over r form.sorts r.left h.sort h.left sides.0 in
    let right = part_over r form.sorts r.right h.sort h.right sides.1 in
    let p = premise_needs r r.premises h.premises in
    let c = context_needs r r.context h.sort h.context in
    Each-append (IsOver r.params) (map (λ c. c.floor) r.bounds) (h.left.needs ++ (p ++ (h.right.needs ++ c))) (floors_over r.params r.bounds form.bounds) (
    Each-append (IsOver r.params) h.left.needs (p ++ (h.right.needs ++ c)) left.needs (
    Each-append (IsOver r.params) p (h.right.needs ++ c) (premises_over r form.sorts r.premises h.premises premises.0) (
    Each-append (IsOver r.params) h.right.needs c right.needs (context_over r form.sorts r.context h.sort h.context left.place both_sides.1))))

pub over_numbers : ConstraintsAreOverNumbers
over_numbers r cs form types = ap (are_bounds r.params) types.same ∙ kept_over r.params (rule_lows r.params) [] (rule_needs r types.typed) (rule_needs_over r types.typed form)
