-- What a sort is after names were replaced.
use Rattle.std.proofs.Common.{◌≡◌, ℕ, refl, ap}
use Rattle.std.specs.Prelude.{ℤ}
use Rattle.rare_linear.specs.Linears.{LinearExpression, linear_value}
use Rattle.rare_meaning.specs.Values.{ClosedSort, BitVectors, Arrays}
use Rattle.rare_meaning.specs.ClosedSorts.{to_nat, closed_sort, closed_part}
use Rattle.rare_inst.specs.Substituting.{put_sort, put_boxed}
use Rattle.rare_sort.specs.declared.sort.Sort.{Sort, Bool, Int, BitVec, Array', Named, Row_of-Sort, end_of-Sort, more_of-Sort}
use Rattle.rare_linear.proofs.LinearLemmas.{value-substitute}

module _ (v : ℕ → ℤ) (declared : ℕ → ClosedSort) (number : ℕ → LinearExpression) (names : ℕ → Sort) where
  mutual
    -- to replace names in a sort is to give them what they were replaced by
    pub closed_sort-put : (s : Sort) →
        closed_sort v declared (put_sort number names s) ≡ closed_sort (λ k. linear_value v (number k)) (λ k. closed_sort v declared (names k)) s
    closed_sort-put Bool = refl
    closed_sort-put Int = refl
    closed_sort-put (BitVec w) = ap (λ z. BitVectors (to_nat z)) (value-substitute v number w)
    closed_sort-put (Array' p keys q entries) = λ i. Arrays (closed_part-put keys i) (closed_part-put entries i)
    closed_sort-put (Named k) = refl

    closed_part-put : {n : _} → (r : Row_of-Sort n) →
        closed_part v declared (put_boxed number names r) ≡ closed_part (λ k. linear_value v (number k)) (λ k. closed_sort v declared (names k)) r
    closed_part-put end_of-Sort = refl
    closed_part-put (more_of-Sort s rest) = closed_sort-put s
