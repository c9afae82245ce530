-- Samples of widths: the valuation that a problem states, at which its constraints must hold.
use Rattle.std.specs.Prelude.{◌≡◌, ℕ, ◌≤◌, ℤ, pos, ◌+ℤ◌, ◌*ℤ◌, int_le, Bool, ◌&&◌, List, [], ◌∷◌, length, slice_index_or, All}
use Rattle.std.specs.List.{list_all}
use Rattle.rare_linear.specs.EntailmentTest.{fits_i128}
use Rattle.rare_linear.specs.Linears.{Part, LinearExpression, linear_value}
use Rattle.rare_sort.specs.DeclaredSorts.{widths}
use Rattle.rare_sort.specs.declared.declarations.Declarations.{Declarations}
use Rattle.rare_meaning.specs.Interpretations.{IsAllowed}

-- the width at these samples; a name without one is 1
abbrev pub sample_number : List ℕ → ℕ → ℤ
sample_number samples k = pos (slice_index_or samples k 1)

-- the sum so far is an i128, and so is each sum with one product more
abbrev pub sums_fit : (ℕ → ℤ) → ℤ → List Part → Bool
sums_fit at sum [] = fits_i128 sum
sums_fit at sum (p ∷ ps) = fits_i128 sum && sums_fit at (sum +ℤ (p.1 *ℤ at p.0)) ps

-- each partial sum at the samples is an i128: the constant, and then with each product by rising names
abbrev pub fits_samples : List ℕ → LinearExpression → Bool
fits_samples samples e = sums_fit (sample_number samples) e.constant e.parts

abbrev pub fit_samples : List ℕ → List LinearExpression → Bool
fit_samples samples es = list_all (fits_samples samples) es

-- each is at least 0 at the samples
abbrev pub hold_at_samples : List ℕ → List LinearExpression → Bool
hold_at_samples samples es = list_all (λ e. int_le (pos 0) (linear_value (sample_number samples) e)) es

-- each width has a sample, which is at least 1, and the samples are an allowed valuation
pub record AreSamples (d : Declarations) (samples : List ℕ) : Type 0 where
  pub one_each : length samples ≡ widths d
  pub positive : All (λ n. 1 ≤ n) samples
  pub allowed : IsAllowed d.constraints (sample_number samples)
