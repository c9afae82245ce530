-- Indices as numbers.
use Rattle.std.proofs.Common.{◌≡◌, ℕ, zero, suc, ◌≤◌, List, [], ◌∷◌, map, length, slice_get, Option, Some, None, refl, ap, arith}
use Rattle.std.specs.Prelude.{ℤ, pos}
use Rattle.std.specs.Option.{option_map}
use Rattle.rare_linear.specs.Linears.{LinearExpression}
use Rattle.rare_sort.specs.SortRules.{number_in}
use Rattle.rare_sort.specs.Sorting.{all_of}
use Rattle.rare_meaning.specs.ClosedSorts.{to_nat}
use Rattle.rare_meaning.specs.Operators.{index}
use Rattle.rare_eval.specs.inner.Indices.{number_at}

pub number_of_index : (ix : List LinearExpression) (k : ℕ) (x : LinearExpression) → slice_get ix k ≡ Some x → number_at ix k ≡ number_in x
number_of_index [] k x e = cc
number_of_index (y ∷ ix) zero x e = ap number_in (some_same y x e)
  where
    some_same : {X : Type 0} (x y : X) → Some x ≡ Some y → x ≡ y
    some_same x y e = cc
number_of_index (y ∷ ix) (suc k) x e = number_of_index ix k x e

pub number_behind : (ix : List LinearExpression) (k : ℕ) → length ix ≤ k → number_at ix k ≡ Some (pos 0)
number_behind [] k h = refl
number_behind (y ∷ ix) zero h = absurd (omega arith)
number_behind (y ∷ ix) (suc k) h = number_behind ix k (omega arith)

-- the numbers that the indices are
pub record AreNumbers (ix : List LinearExpression) (m n : ℤ) : Type 0 where
  pub numbers : List ℤ
  pub are : all_of (map number_in ix) ≡ Some numbers
  pub first : index 0 numbers ≡ to_nat m
  pub second : index 1 numbers ≡ to_nat n

pub are_numbers : (ix : List LinearExpression) (m n : ℤ) → length ix ≤ 2 → number_at ix 0 ≡ Some m → number_at ix 1 ≡ Some n → AreNumbers ix m n
are_numbers [] m n h a b = record { numbers = []; are = refl; first = zero_is m a; second = zero_is n b }
  where
    zero_is : (z : ℤ) → Some (pos 0) ≡ Some z → 0 ≡ to_nat z
    zero_is z e = let q : pos 0 ≡ z = cc in ap to_nat q
are_numbers (x ∷ []) m n h a b = record { numbers = m ∷ []; are = ap (λ o. all_of (o ∷ [])) a; first = refl; second = zero_is n b }
  where
    zero_is : (z : ℤ) → Some (pos 0) ≡ Some z → 0 ≡ to_nat z
    zero_is z e = let q : pos 0 ≡ z = cc in ap to_nat q
are_numbers (x ∷ y ∷ []) m n h a b = record { numbers = m ∷ n ∷ []; are = (λ i. all_of (a i ∷ b i ∷ [])); first = refl; second = refl }
are_numbers (x ∷ y ∷ z ∷ ix) m n h a b = absurd (omega (arith, h))

pub no_number : (ix : List LinearExpression) (k : ℕ) → number_at ix k ≡ None → all_of (map number_in ix) ≡ None
no_number [] k e = cc
no_number (x ∷ ix) zero e = ap (λ o. all_of (o ∷ map number_in ix)) e
no_number (x ∷ ix) (suc k) e = go (number_in x) (no_number ix k e)
  where
    go : (o : Option ℤ) → all_of (map number_in ix) ≡ None → all_of (o ∷ map number_in ix) ≡ None
    go None q = refl
    go (Some z) q = ap (option_map (λ zs. z ∷ zs)) q
