-- A well-sorted term has the sort that the rules alone give it.
use Rattle.std.proofs.Common.{◌≡◌, ℕ, List, [], ◌∷◌, map, slice_get, refl, sym, ap, ◌∙◌, subst, Option, Some, None}
use Rattle.std.specs.Option.{option_map, option_and_then}
use Rattle.rare_linear.specs.Linears.{LinearExpression}
use Rattle.rare_sort.specs.declared.head.Head.{Head}
use Rattle.rare_sort.specs.declared.head.Head.TheVariants as head
use Rattle.rare_sort.specs.declared.sort.Sort.{Sort}
use Rattle.rare_sort.specs.declared.sort.Signature.{Signature}
use Rattle.rare_sort.specs.declared.tree.Tree.{Tree, ind-Tree}
use Rattle.rare_sort.specs.declared.tree.Tree.TheOpen.{Tree-F}
use Rattle.rare_sort.specs.declared.tree.Tree.TheViews.{roll-Tree}
use Rattle.rare_sort.specs.declared.tree.Tree.TheFolds.{fold-roll-Tree}
use Rattle.rare_sort.specs.Each.{EachPair}
use Rattle.rare_sort.specs.Families.{family}
use Rattle.rare_sort.specs.SortRules.{SortRule, sort_rule}
use Rattle.rare_sort.specs.Sorting.{One, Place, Sorting, Scope, places, place_rule, with_rule, sorted_here, sorting, all_of, problem_scope}
use Rattle.rare_sort.specs.SortOf.{given_by, sort_step, sort_of}
use Rattle.rare_sort.specs.SortLaws.{TermsHaveTheirSort}
use Rattle.rare_sort.proofs.Options.{map_some, then_some}
use Rattle.rare_sort.proofs.SortingLemmas.{sorting-node, all_found, single_rule, Applies}

module _ (symbols : List Signature) where
  abbrev P : Scope
  P = problem_scope (slice_get symbols)

  abbrev HasIts : Tree → Type 0
  HasIts t = (x : Sorting) → sorting P t ≡ Some x → x.place ≡ One (sort_of symbols t)

  their_places : (ys : List ((t : Tree) × HasIts t)) (xs : List Sorting) → EachPair (λ t x. sorting P t ≡ Some x) (map (λ y. y.0) ys) xs →
      places xs ≡ map (λ s. One s) (map (sort_of symbols) (map (λ y. y.0) ys))
  their_places [] [] f = refl
  their_places [] (x ∷ xs) f = absurd f
  their_places (y ∷ ys) [] f = absurd f
  their_places (y ∷ ys) (x ∷ xs) f = λ i. y.1 x f.0 i ∷ their_places ys xs f.1 i

  applied : (h : Head) → Applies P h → (ix : List LinearExpression) (xs : List Sorting) (ss : List Sort) (x : Sorting) →
      places xs ≡ map (λ s. One s) ss → sorted_here P h ix xs ≡ Some x → x.place ≡ One (given_by (sort_rule (slice_get symbols) 2 (family h) ix ss))
  applied h applies ix xs ss x are e =
      let q = map_some (with_rule P xs) (place_rule (slice_get symbols) h ix (places xs)) x (sym (applies ix xs) ∙ e) in
      let rule : sort_rule (slice_get symbols) 2 (family h) ix ss ≡ Some q.0 = sym (single_rule (slice_get symbols) h ix ss) ∙ ap (place_rule (slice_get symbols) h ix) (sym are) ∙ q.1 in
      sym (ap (λ z. z.place) q.2) ∙ ap (λ o. One (given_by o)) (sym rule)

  here : (h : Head) (ix : List LinearExpression) (xs : List Sorting) (ss : List Sort) (x : Sorting) →
      places xs ≡ map (λ s. One s) ss → sorted_here P h ix xs ≡ Some x → x.place ≡ One (given_by (sort_rule (slice_get symbols) 2 (family h) ix ss))
  here (head.Param k) ix xs ss x are e = cc
  here head.Hole ix xs ss x are e = cc
  here h ix xs ss x are e = applied h (λ ix xs. refl) ix xs ss x are e

  at_node : (n : Tree-F Tree) → ((xs : List Sorting) → EachPair (λ t x. sorting P t ≡ Some x) n.args xs → places xs ≡ map (λ s. One s) (map (sort_of symbols) n.args)) → HasIts (roll-Tree n)
  at_node n ih x e =
      let q = then_some (sorted_here P n.head n.indices) (all_of (map (sorting P) n.args)) x (sym (sorting-node P n.head n.indices n.args) ∙ e) in
      let are = ih q.0 (all_found (sorting P) n.args q.0 q.1) in
      here n.head n.indices q.0 (map (sort_of symbols) n.args) x are q.2 ∙ ap One (sym (fold-roll-Tree Sort (sort_step symbols) n))

  pub has_its : (t : Tree) → HasIts t
  has_its = ind-Tree HasIts (λ x y is. at_node x (subst (λ z. (xs : List Sorting) → EachPair (λ t x. sorting P t ≡ Some x) z.args xs → places xs ≡ map (λ s. One s) (map (sort_of symbols) z.args)) is (their_places y.args)))

pub have_their_sort : TermsHaveTheirSort
have_their_sort d t s h = let e : One s ≡ One (sort_of d.symbols t) = has_its d.symbols t _ h.found in cc
