-- Proofs of the laws of sorts.
use Rattle.std.proofs.Common.{◌≡◌, ℕ, List, [], ◌∷◌, ◌++◌, map, flat_map, refl, sym, ap, ◌∙◌, subst, arith, inl, inr}
use Rattle.std.specs.Prelude.{ℤ, Option, Some, None}
use Rattle.std.proofs.lemmas.List.{length-append, get_or_append_left}
use Rattle.rare_linear.specs.Linears.{LinearExpression}
use Rattle.rare_linear.specs.Entailment.{IsEntailed}
use Rattle.rare_linear.specs.declared.constraint.Constraint.{Constraint}
use Rattle.rare_linear.proofs.LawLemmas.{entailed_more}
use Rattle.rare_sort.specs.Each.{Each, EachPair}
use Rattle.rare_sort.specs.Trees.{node}
use Rattle.rare_sort.specs.SortRules.{width_needs}
use Rattle.rare_sort.specs.declared.sort.Signature.{Signature}
use Rattle.rare_sort.specs.Sorting.{One, Sorting, Scope, places, place_rule, with_rule, sorted_here, sorting, all_of, problem_scope, IsOne, IsSorted}
use Rattle.rare_sort.specs.SortLaws.{StaysSorted, HasOneSort, Gives, NodeLaw}
use Rattle.rare_sort.specs.declared.sort.Sort.{Sort}
use Rattle.rare_sort.specs.declared.head.Head.{Head}
use Rattle.rare_sort.specs.declared.head.Head.TheVariants as head
use Rattle.rare_sort.specs.declared.tree.Tree.{Tree, out-Tree, roll-out-Tree}
use Rattle.rare_sort.proofs.Options.{map_some, then_some}
use Rattle.rare_sort.proofs.SortingLemmas.{sorting-node, Each-front, Each-back, all_found, single_rule, Applies, sorted_node, sort_more}

pub stays_sorted : StaysSorted
stays_sorted symbols lows have more t s h = sort_more (IsEntailed lows have) (IsEntailed lows (have ++ more)) (entailed_more lows have more) (problem_scope symbols) t s h

pub has_one_sort : HasOneSort
has_one_sort symbols lows have t s u h k =
    let both : ◌≡◌ {A = Option Sorting} (Some (record { place = One s; alike = h.alike; needs = h.needs })) (Some (record { place = One u; alike = k.alike; needs = k.needs })) = sym h.found ∙ k.found in
    let same : ◌≡◌ {A = Sorting} (record { place = One s; alike = h.alike; needs = h.needs }) (record { place = One u; alike = k.alike; needs = k.needs }) = cc in
    let places : One s ≡ One u = ap (λ (x : Sorting). x.place) same in
    cc

module _ (symbols : ℕ → Option Signature) (lows : ℕ → ℤ) (have : List Constraint) where
  abbrev P : Scope
  P = problem_scope symbols

  abbrev Good : Tree → Sort → Type 0
  Good = IsSorted symbols lows have

  made_by : (h : Head) → Applies P h → (ix : List LinearExpression) (ts : List Tree) (ss : List Sort) (s : Sort) → EachPair Good ts ss → Gives symbols lows have h ix ss s → Good (node h ix ts) s
  made_by h applies ix ts ss s good g = subst (Good (node h ix ts)) g.sort (sorted_node (IsEntailed lows have) P h applies ix ts ss g.rule good g.found g.same g.needs g.widths)

  made : (h : Head) (ix : List LinearExpression) (ts : List Tree) (ss : List Sort) (s : Sort) → EachPair Good ts ss → Gives symbols lows have h ix ss s → Good (node h ix ts) s
  made (head.Param k) ix ts ss s good g = let e = g.found in cc
  made head.Hole ix ts ss s good g = let e = g.found in cc
  made h ix ts ss s good g = made_by h (λ ix xs. refl) ix ts ss s good g

  -- in a problem all that is found stands alone in its place
  AllSingle : (t : Tree) → Type 0
  AllSingle t = (x : Sorting) → sorting P t ≡ Some x → (s : Sort) × (x.place ≡ One s)

  single_place : (h : Head) → Applies P h → (ix : List LinearExpression) (xs : List Sorting) (x : Sorting) → sorted_here P h ix xs ≡ Some x → (s : Sort) × (x.place ≡ One s)
  single_place h applies ix xs x e =
      let q = map_some (with_rule P xs) (place_rule symbols h ix (places xs)) x (sym (applies ix xs) ∙ e) in
      (q.0.sort, sym (ap (λ z. z.place) q.2))

  single_here : (h : Head) (ix : List LinearExpression) (xs : List Sorting) (x : Sorting) → sorted_here P h ix xs ≡ Some x → (s : Sort) × (x.place ≡ One s)
  single_here (head.Param k) ix xs x e = cc
  single_here head.Hole ix xs x e = cc
  single_here h ix xs x e = single_place h (λ ix xs. refl) ix xs x e

  pub single_sort : (t : Tree) (x : Sorting) → sorting P t ≡ Some x → (s : Sort) × (x.place ≡ One s)
  single_sort t x e =
      let n = out-Tree t in
      let q = then_some (sorted_here P n.head n.indices) (all_of (map (sorting P) n.args)) x (sym (ap (sorting P) (sym (roll-out-Tree t)) ∙ sorting-node P n.head n.indices n.args) ∙ e) in
      single_here n.head n.indices q.0 x q.2

  -- terms by what was found of them
  record AreSorted (ts : List Tree) (xs : List Sorting) : Type 0 where
    sorts : List Sort
    are : places xs ≡ map (λ s. One s) sorts
    good : EachPair Good ts sorts

  are_sorted : (ts : List Tree) (xs : List Sorting) → EachPair (λ t x. sorting P t ≡ Some x) ts xs → Each IsOne (flat_map (λ x. x.alike) xs) → Each (IsEntailed lows have) (flat_map (λ x. x.needs) xs) → AreSorted ts xs
  are_sorted [] [] f same ent = record { sorts = []; are = refl; good = tt }
  are_sorted [] (x ∷ xs) f same ent = absurd f
  are_sorted (t ∷ ts) [] f same ent = absurd f
  are_sorted (t ∷ ts) (x ∷ xs) f same ent =
      let s = single_sort t x f.0 in
      let rest = are_sorted ts xs f.1 (Each-back IsOne x.alike (flat_map (λ x. x.alike) xs) same) (Each-back (IsEntailed lows have) x.needs (flat_map (λ x. x.needs) xs) ent) in
      let here : ◌≡◌ {A = Sorting} x (record { place = One s.0; alike = x.alike; needs = x.needs }) = λ i. record { place = s.1 i; alike = x.alike; needs = x.needs } in record {
        sorts = s.0 ∷ rest.sorts;
        are = λ i. s.1 i ∷ rest.are i;
        good = (
          record {
            alike = x.alike;
            needs = x.needs;
            found = f.0 ∙ ap (λ z. Some z) here;
            same = Each-front IsOne x.alike (flat_map (λ x. x.alike) xs) same;
            met = Each-front (IsEntailed lows have) x.needs (flat_map (λ x. x.needs) xs) ent;
          },
          rest.good,
        );
      }

  only_by : (h : Head) → Applies P h → (ix : List LinearExpression) (ts : List Tree) (s : Sort) → Good (node h ix ts) s → (ss : List Sort) × EachPair Good ts ss × Gives symbols lows have h ix ss s
  only_by h applies ix ts s g =
      let x : Sorting = record { place = One s; alike = g.alike; needs = g.needs } in
      let q = then_some (sorted_here P h ix) (all_of (map (sorting P) ts)) x (sym (sorting-node P h ix ts) ∙ g.found) in
      let r = map_some (with_rule P q.0) (place_rule symbols h ix (places q.0)) x (sym (applies ix q.0) ∙ q.2) in
      let same : Each IsOne (flat_map (λ x. x.alike) q.0 ++ r.0.alike) = subst (λ z. Each IsOne z.alike) (sym r.2) g.same in
      let ent : Each (IsEntailed lows have) (flat_map (λ x. x.needs) q.0 ++ (r.0.needs ++ width_needs r.0.sort)) = subst (λ z. Each (IsEntailed lows have) z.needs) (sym r.2) g.met in
      let own = Each-back (IsEntailed lows have) (flat_map (λ x. x.needs) q.0) (r.0.needs ++ width_needs r.0.sort) ent in
      let are = are_sorted ts q.0 (all_found (sorting P) ts q.0 q.1) (Each-front IsOne (flat_map (λ x. x.alike) q.0) r.0.alike same) (Each-front (IsEntailed lows have) (flat_map (λ x. x.needs) q.0) (r.0.needs ++ width_needs r.0.sort) ent) in
      let place : One r.0.sort ≡ One s = ap (λ z. z.place) r.2 in (
        are.sorts,
        are.good,
        record {
          rule = r.0;
          found = sym (single_rule symbols h ix are.sorts) ∙ ap (place_rule symbols h ix) (sym are.are) ∙ r.1;
          sort = cc;
          same = Each-back IsOne (flat_map (λ x. x.alike) q.0) r.0.alike same;
          needs = Each-front (IsEntailed lows have) r.0.needs (width_needs r.0.sort) own;
          widths = Each-back (IsEntailed lows have) r.0.needs (width_needs r.0.sort) own;
        },
      )

  no_term : (h : Head) (ix : List LinearExpression) (ts : List Tree) (s : Sort) → Good (node h ix ts) s → ((xs : List Sorting) → sorted_here P h ix xs ≡ None) → ⊥
  no_term h ix ts s g none =
      let x : Sorting = record { place = One s; alike = g.alike; needs = g.needs } in
      let q = then_some (sorted_here P h ix) (all_of (map (sorting P) ts)) x (sym (sorting-node P h ix ts) ∙ g.found) in
      let both : None ≡ Some x = sym (none q.0) ∙ q.2 in cc

  only : (h : Head) (ix : List LinearExpression) (ts : List Tree) (s : Sort) → Good (node h ix ts) s → (ss : List Sort) × EachPair Good ts ss × Gives symbols lows have h ix ss s
  only (head.Param k) ix ts s g = absurd (no_term (head.Param k) ix ts s g (λ xs. refl))
  only head.Hole ix ts s g = absurd (no_term head.Hole ix ts s g (λ xs. refl))
  only h ix ts s g = only_by h (λ ix xs. refl) ix ts s g

pub node_law : NodeLaw
node_law = record { made = made; only = only }
