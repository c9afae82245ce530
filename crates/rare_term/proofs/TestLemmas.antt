-- Arrays from Int to Bool are a sort of all declarations.
use Rattle.std.proofs.Common.{◌≡◌, ℕ, ◌+◌, ◌∙◌, ◌&&◌, max, true, arith}
use Rattle.rare_sort.specs.DeclaredSorts.{is_sort, sort_nesting, sort_nesting_step, IsDeclaredSort}
use Rattle.rare_sort.specs.declared.declarations.Declarations.{Declarations}
use Rattle.rare_sort.specs.declared.sort.Sort.{Sort, Bool, Int}
use Rattle.rare_sort.specs.declared.sort.Sort.TheOpen as shape
use Rattle.rare_sort.specs.declared.sort.Sort.TheViews.{roll-Sort, Array}
use Rattle.rare_sort.specs.declared.sort.Sort.TheFolds.{fold-roll-Sort}
use denote.Hole.Carrier
use Rattle.rare_sort.proofs.BasicLemmas.{bool_declared, int_declared}
use Rattle.rare_sort.proofs.NeedsLemmas.{is_sort-roll, and_both}

array_nesting : (a b : Sort) → sort_nesting (Array a b) ≡ 1 + max (sort_nesting a) (sort_nesting b)
unfolding roll-Sort Carrier.roll
array_nesting a b = fold-roll-Sort ℕ sort_nesting_step (shape.Array a b)

word_nesting : sort_nesting Bool ≡ 1
unfolding roll-Sort Carrier.roll
word_nesting = fold-roll-Sort ℕ sort_nesting_step shape.Bool

number_nesting : sort_nesting Int ≡ 1
unfolding roll-Sort Carrier.roll
number_nesting = fold-roll-Sort ℕ sort_nesting_step shape.Int

array_is_sort : (d : Declarations) → is_sort d (Array Int Bool) ≡ true
unfolding roll-Sort Carrier.roll
array_is_sort d = is_sort-roll d (shape.Array Int Bool) ∙ and_both _ _ (int_declared d).declared (bool_declared d).declared

pub array_declared : (d : Declarations) → IsDeclaredSort d (Array Int Bool)
array_declared d = record {
  declared = array_is_sort d;
  shallow = let a = array_nesting Int Bool in let b = word_nesting in let c = number_nesting in omega (arith, a, b, c);
}
