-- Rotations by a number of places modulo the width, and copies.
use Rattle.std.proofs.Common.{◌≡◌, ℕ, ◌+◌, ◌-◌, ◌*◌, ◌/◌, ◌%◌, ◌^◌, ◌<◌, ◌≤◌, refl, sym, ap, subst, arith}
use Rattle.std.proofs.Math.Nat.{mod-mod}
use Rattle.std.proofs.lemmas.Int.{ints}
use Rattle.std.specs.Prelude.{ℤ, pos, negsuc, ◌≤ℤ◌, int_rem}
use Rattle.rare_bits.specs.Bits.{extract, repeat, rotate_left, rotate_right, sign_extend}
use Rattle.rare_bits.proofs.PartsLemmas.{extract-below, repeat-below, rotate_left-below, rotate_right-below}
use Rattle.rare_bits.proofs.BelowLemmas.{sign_extend-below}
use Rattle.std.proofs.Math.Nat.{pow-le-pow_right}
use Rattle.rare_meaning.specs.ClosedSorts.{to_nat}

pub places : (by : ℤ) (w : ℕ) → pos 0 ≤ℤ by → int_rem by (pos w) ≡ pos (to_nat by % w)
places (pos n) w h = refl
places (negsuc n) w h = absurd (omega (arith, ints))

pub rotation_left : (m k a : ℕ) → 1 ≤ m → rotate_left m (k % m) a ≡ rotate_left m k a
rotation_left m k a h = ap (λ r. (a * 2 ^ r) % 2 ^ m + a / 2 ^ (m - r)) (mod-mod k m)

pub rotation_right : (m k a : ℕ) → 1 ≤ m → rotate_right m (k % m) a ≡ rotate_right m k a
rotation_right m k a h = ap (λ r. a / 2 ^ r + (a * 2 ^ (m - r)) % 2 ^ m) (mod-mod k m)

pub copies_below : (m k a n : ℕ) → a < 2 ^ m → n ≡ repeat m k a → n < 2 ^ (k * m)
copies_below m k a n h e = subst (λ x. x < 2 ^ (k * m)) (sym e) (repeat-below m k a h)

pub slice_below : (j i a n : ℕ) → n ≡ extract j i a → n < 2 ^ (j - i + 1)
slice_below j i a n e = subst (λ x. x < 2 ^ (j - i + 1)) (sym e) (extract-below j i a)

pub wider_below : (m k a : ℕ) → a < 2 ^ m → a < 2 ^ (m + k)
wider_below m k a h = let more : 2 ^ m ≤ 2 ^ (m + k) = pow-le-pow_right (omega arith) (omega arith) in omega (arith, h, more)

pub extension_below : (m k a n : ℕ) → n ≡ sign_extend m k a → n < 2 ^ (m + k)
extension_below m k a n e = subst (λ x. x < 2 ^ (m + k)) (sym e) (sign_extend-below m k a)

pub left_below : (m k a n : ℕ) → 1 ≤ m → a < 2 ^ m → n ≡ rotate_left m k a → n < 2 ^ m
left_below m k a n low h e = subst (λ x. x < 2 ^ m) (sym e) (rotate_left-below m k a low h)

pub right_below : (m k a n : ℕ) → 1 ≤ m → a < 2 ^ m → n ≡ rotate_right m k a → n < 2 ^ m
right_below m k a n low h e = subst (λ x. x < 2 ^ m) (sym e) (rotate_right-below m k a low h)
