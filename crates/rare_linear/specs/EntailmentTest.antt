-- Entailment as a test that computes, for definitions that go by cases on it. It is true exactly where entailment holds
-- (`entailment_is_decided`).
use Rattle.std.specs.Prelude.{ℕ, ℤ, pos, negsuc, ◌^◌, nat_lt, int_le, Bool, true, false, ◌&&◌, ◌||◌, List, [], ◌∷◌}
use Rattle.std.specs.List.{list_any}
use Rattle.rare_linear.specs.Linears.{Part, LinearExpression, linear_value}
use Rattle.rare_linear.specs.Entailment.{minus}
use Rattle.rare_linear.specs.declared.constraint.Constraint.{Constraint}

-- whether a number is an i128
abbrev pub fits_i128 : ℤ → Bool
fits_i128 (pos n) = nat_lt n (2 ^ 127)
fits_i128 (negsuc n) = nat_lt n (2 ^ 127)

abbrev pub all_fit_i128 : List Part → Bool
all_fit_i128 [] = true
all_fit_i128 (p ∷ ps) = fits_i128 p.1 && all_fit_i128 ps

-- whether each coefficient and the constant are i128
unfoldable pub is_within : LinearExpression → Bool
is_within e = fits_i128 e.constant && all_fit_i128 e.parts

-- whether no coefficient is negative
abbrev pub has_no_minus : List Part → Bool
has_no_minus [] = true
has_no_minus (p ∷ ps) = int_le (pos 0) p.1 && has_no_minus ps

-- whether no coefficient is negative, and the value is at least 0 where each name is at its low
abbrev pub is_plainly_met : (ℕ → ℤ) → LinearExpression → Bool
is_plainly_met lows e = has_no_minus e.parts && int_le (pos 0) (linear_value lows e)

abbrev pub has_part : List Part → Bool
has_part [] = false
has_part (p ∷ ps) = true

-- whether it follows by itself, or, if it has a name, after one of the constraints is taken from it
unfoldable pub is_entailed : (ℕ → ℤ) → List Constraint → LinearExpression → Bool
is_entailed lows have want =
    is_within want && (is_plainly_met lows want || (has_part want.parts && list_any (λ c. is_plainly_met lows (minus want c.floor)) have))
