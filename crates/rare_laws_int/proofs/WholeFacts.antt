-- Facts on whole numbers: order, quotients and remainders.
use Rattle.std.proofs.Common.{◌≡◌, ◌≢◌, ℕ, zero, suc, ◌-◌, ◌%◌, ◌<◌, Bool, true, false, not, ◌&&◌, [], ◌∷◌, refl, ap, ◌∙◌, sym, subst, arith}
use Rattle.std.proofs.lemmas.Int.{ints}
use Rattle.std.proofs.lemmas.Bool.{ltb-true}
use Rattle.std.proofs.Math.Nat.{div_self, mod-eq_of_lt, div-eq_of_lt}
use Rattle.std.proofs.lemmas.Nat.{mod_below}
use Rattle.std.specs.Prelude.{ℤ, pos, negsuc, neg_ℤ, int_lt, int_le, unsigned_abs, if◌then◌else◌}
use Rattle.std.specs.Int.{int_div_euclid, int_rem_euclid}
use Rattle.rare_meaning.specs.Values.{Truth, Whole, value_eq}
use Rattle.rare_meaning.specs.Settings.{Item}
use Rattle.rare_meaning.specs.Operators.{whole, quotient_of, remainder_of, absolute_value}
use Rattle.rare_meaning.proofs.ValueLemmas.{value_eq-same}

-- ---- order

and_true : (b : Bool) → (b && true) ≡ b
and_true true = refl
and_true false = refl

pub less_is : (x y : ℤ) → (int_lt x y && true) ≡ not (int_le y x && true)
less_is x y = and_true (int_lt x y) ∙ grind (arith, ints) ∙ ap not (sym (and_true (int_le y x)))

pub le_itself : (x : ℤ) → (int_le x x && true) ≡ true
le_itself x = and_true (int_le x x) ∙ grind (arith, ints)

pub abs_is : (x : ℤ) → whole (absolute_value x) ≡ (if (int_le (pos 0) x && true) then (whole x) else (whole (neg_ℤ x)))
abs_is (pos n) = let e : int_le (pos 0) (pos n) ≡ true = grind (arith, ints) in rw e refl
abs_is (negsuc n) = refl

-- ---- quotients and remainders

pub div_by_one : (x : ℤ) → int_div_euclid x (pos 1) ≡ x
div_by_one (pos n) = ap pos (omega arith)
div_by_one (negsuc n) = ap negsuc (omega arith)

pub mod_by_one : (x : ℤ) → int_rem_euclid x (pos 1) ≡ pos 0
mod_by_one (pos n) = ap pos (omega arith)
mod_by_one (negsuc n) = ap pos (omega arith)

module _ (z : ℤ → ℤ) where
  pub div_itself : (x : ℤ) → x ≢ pos 0 → quotient_of z x x ≡ pos 1
  div_itself (pos zero) h = absurd (h refl)
  div_itself (pos (suc n)) h = ap pos (div_self (omega arith))
  div_itself (negsuc n) h = ap pos (ap suc (div-eq_of_lt (omega arith)))

  pub mod_of_small : (x y : ℤ) → (int_le (pos 0) x && true) ≡ true → (int_lt x y && true) ≡ true → remainder_of z x y ≡ x
  mod_of_small (negsuc n) y low high = absurd (let never : ⊥ = cc in never)
  mod_of_small (pos m) (pos zero) low high = absurd (grind (arith, ints))
  mod_of_small (pos m) (negsuc n) low high = absurd (let never : ⊥ = cc in never)
  mod_of_small (pos m) (pos (suc n)) low high =
      let lt : m < suc n = ltb-true m (suc n) (sym (and_true (int_lt (pos m) (pos (suc n)))) ∙ high) in
      ap pos (mod-eq_of_lt lt)

  -- a remainder is a natural number below the divisor
  small : (x d : ℤ) → 0 < unsigned_abs d → (m : ℕ) × (int_rem_euclid x d ≡ pos m) × (m < unsigned_abs d)
  small (pos n) d h = (n % unsigned_abs d, refl, mod_below n (unsigned_abs d) h)
  small (negsuc n) d h = (unsigned_abs d - 1 - n % unsigned_abs d, refl, omega arith)

  mod_again : (x d : ℤ) → 0 < unsigned_abs d → int_rem_euclid (int_rem_euclid x d) d ≡ int_rem_euclid x d
  mod_again x d h =
      let s = small x d h in
      ap (λ r. int_rem_euclid r d) s.1 ∙ ap pos (mod-eq_of_lt s.2) ∙ sym s.1

  pub mod_of_mod : (x y : ℤ) → y ≢ pos 0 → remainder_of z (remainder_of z x y) y ≡ remainder_of z x y
  mod_of_mod x (pos zero) h = absurd (h refl)
  mod_of_mod x (pos (suc n)) h = mod_again x (pos (suc n)) (omega arith)
  mod_of_mod x (negsuc n) h = mod_again x (negsuc n) (omega arith)

-- what a premise says
pub not_zero : (x : ℤ) → Truth (not (value_eq (Whole x) (Whole (pos 0)) && true)) ∷ [] ≡ Truth true ∷ [] → x ≢ pos 0
not_zero x h e =
    let g = subst (λ t. Truth (not (t && true)) ∷ [] ≡ Truth true ∷ []) (value_eq-same (Whole x) (Whole (pos 0)) (ap Whole e)) h in
    cc

pub is_true : (b : Bool) → Truth b ∷ [] ≡ Truth true ∷ [] → b ≡ true
is_true true h = refl
is_true false h = cc
