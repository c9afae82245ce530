-- Literals, reduced.
use Rattle.std.proofs.Common.{◌≡◌, ℕ, suc, ◌+◌, ◌-◌, ◌*◌, ◌%◌, ◌^◌, ◌<◌, ◌≤◌, ℤ, pos, negsuc, ◌+ℤ◌, ◌≤ℤ◌, refl, sym, ap, ◌∙◌, subst, arith, ◌⊎◌, inl, inr, FitsSigned, Bool, true, T}
use Rattle.std.specs.Int.Signed.{le_z_yes}
use lib.Signed.{le_z}
use Rattle.std.specs.Int.{w128, cast_unsigned, int_rem_euclid}
use Rattle.std.proofs.lemmas.Int.{ints, int_rem_euclid_is}
use Rattle.std.proofs.Math.Pow.{pow_mono, pow_pos}
use Rattle.std.proofs.Math.Nat.{mod-eq_of_lt}
use Rattle.std.proofs.lemmas.Nat.{pow-add}
use Rattle.rare_term.specs.Literals.{natural_of, reduced_value}

wide : (w : ℤ) → pos 128 ≤ℤ w → 128 ≤ natural_of w
wide (pos n) h = omega (arith, ints, h)
wide (negsuc n) h = absurd (omega (arith, ints, h))

-- a number below 2^128 is its own remainder
pub wide_same : (v : ℕ) (w : ℤ) → v < 2 ^ 128 → pos 128 ≤ℤ w → v ≡ v % 2 ^ natural_of w
wide_same v w small h = sym (mod-eq_of_lt (let p = pow_mono (wide w h) in omega (arith, p, small)))

order : (w : ℤ) → le_z (pos 128) w ≡ true → pos 128 ≤ℤ w
order w e = le_z_yes (subst T (sym e) tt)

pub wide_told : (v : ℕ) (w : ℤ) → v < 2 ^ 128 → le_z (pos 128) w ≡ true → v ≡ v % 2 ^ natural_of w
wide_told v w small e = wide_same v w small (order w e)

of_pos : (n m : ℕ) → m ≡ cast_unsigned w128 (pos n) → m ≡ n
of_pos n m e = e

of_neg : (n m : ℕ) → n < 2 ^ 127 → m ≡ cast_unsigned w128 (negsuc n) → m + suc n ≡ 2 ^ 128
of_neg n m lt e = omega (arith, e, lt)

powers : (w : ℕ) → w ≤ 128 → 2 ^ (128 - w) * 2 ^ w ≡ 2 ^ 128
powers w le = let e : (128 - w) + w ≡ 128 = omega (arith, le) in sym (pow-add 2 (128 - w) w) ∙ ap (λ k. 2 ^ k) e

small_width : (w : ℤ) → w ≤ℤ pos 128 → natural_of w ≤ 128
small_width (pos n) h = omega (arith, ints, h)
small_width (negsuc n) h = omega arith

pub reduced_is : (v w : ℤ) (m r : ℕ) → FitsSigned w128 v → m ≡ cast_unsigned w128 v → r ≡ m % 2 ^ natural_of w → (w ≤ℤ pos 128) ⊎ (pos 0 ≤ℤ v) → r ≡ reduced_value v w
reduced_is (pos n) w m r fits em er either =
    let p : 0 < 2 ^ natural_of w = pow_pos _ in
    let e = int_rem_euclid_is (pos n) (pos (2 ^ natural_of w)) (2 ^ natural_of w) 0 n p refl (omega (arith, ints)) in
    er ∙ ap (λ x. x % 2 ^ natural_of w) (of_pos n m em) ∙ sym (ap natural_of e)
reduced_is (negsuc n) w m r fits em er (inr h) = absurd (omega (arith, ints, h))
reduced_is (negsuc n) w m r fits em er (inl h) =
    let p : 0 < 2 ^ natural_of w = pow_pos _ in
    let e = int_rem_euclid_is (negsuc n) (pos (2 ^ natural_of w)) (2 ^ natural_of w) (2 ^ (128 - natural_of w)) m p refl (omega (arith, ints, of_neg n m (omega (arith, fits.sfits)) em, powers (natural_of w) (small_width w h))) in
    er ∙ sym (ap natural_of e)
