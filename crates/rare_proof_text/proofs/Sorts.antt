-- The width names of a declared sort are declared.
use Rattle.std.proofs.Common.{◌≡◌, Bool as Test, true, sym, ◌∙◌, subst, IsTrue}
use Rattle.rare_sort.specs.DeclaredSorts.{widths, names_below, follows, is_sort, IsDeclaredSort}
use Rattle.rare_sort.specs.SortRules.{less_one}
use Rattle.rare_sort.specs.declared.declarations.Declarations.{Declarations}
use Rattle.rare_sort.specs.declared.sort.Sort.{Sort, ind-Sort}
use Rattle.rare_sort.specs.declared.sort.Sort.TheOpen.{Sort-F}
use Rattle.rare_sort.specs.declared.sort.Sort.TheOpen as shape
use Rattle.rare_sort.specs.declared.sort.Sort.TheViews.{roll-Sort}
use Rattle.rare_sort.specs.declared.sort.Sort.TheFolds.{map-Sort, fold-roll-Sort}
use Rattle.rare_sort.proofs.NeedsLemmas.{both, and_both, is_sort-roll}
use Rattle.rare_inst.specs.Answers.{is_named_sort, is_named_step}

module _ (d : Declarations) where
  abbrev Claim : Sort → Type 0
  Claim s = is_sort d s ≡ true → is_named_sort (widths d) s ≡ true

  abbrev Below : Type 0
  Below = (s : Sort) × Claim s

  at_node : (y : Sort-F Below) → Claim (roll-Sort (map-Sort Below Sort (λ s. s.0) y))
  at_node shape.Bool e = fold-roll-Sort Test (is_named_step (widths d)) shape.Bool
  at_node shape.Int e = fold-roll-Sort Test (is_named_step (widths d)) shape.Int
  at_node (shape.BitVec m) e =
      fold-roll-Sort Test (is_named_step (widths d)) (shape.BitVec m)
      ∙ (both (names_below (widths d) m.parts) (follows d (less_one m)) (sym (is_sort-roll d (shape.BitVec m)) ∙ e)).0
  at_node (shape.Named k) e = fold-roll-Sort Test (is_named_step (widths d)) (shape.Named k)
  at_node (shape.Array a b) e =
      let x = both (is_sort d a.0) (is_sort d b.0) (sym (is_sort-roll d (shape.Array a.0 b.0)) ∙ e) in
      fold-roll-Sort Test (is_named_step (widths d)) (shape.Array a.0 b.0)
      ∙ and_both (is_named_sort (widths d) a.0) (is_named_sort (widths d) b.0) (a.1 x.0) (b.1 x.1)

  pub sort_named : (s : Sort) → IsDeclaredSort d s → IsTrue (is_named_sort (widths d) s)
  sort_named s h = ind-Sort Claim (λ x y is. subst (λ z. Claim (roll-Sort z)) is (at_node y)) s h.declared
