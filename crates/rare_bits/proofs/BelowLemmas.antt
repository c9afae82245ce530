-- Results are below 2 ^ m.
use Rattle.std.proofs.Common.{ℕ, ◌-◌, ◌*◌, ◌+◌, ◌/◌, ◌%◌, ◌^◌, ◌<◌, Bool, true, false, arith}
use Rattle.std.specs.Prelude.{ℤ, pos, negsuc, nat_eq, if◌then◌else◌}
use Rattle.std.proofs.lemmas.Nat.{mod_below, pow_pos, shr_le}
use Rattle.std.proofs.Math.Nat.{mod-le, div-le_self}
use Rattle.rare_bits.specs.Bits.{is_negative, signed, modulo, magnitude, negated_if, differ, modulo_by_signs, bvneg, bvadd, bvsub, bvmul, bvudiv, bvurem, bvsdiv, bvsrem, bvsmod, bvand, bvor, bvxor, bvnand, bvnor, bvxnor, bvshl, bvlshr, bvashr, sign_extend}
use Rattle.rare_bits.proofs.BitsLemmas.{bvnot-below}

reduced-below : (m n : ℕ) → n % 2 ^ m < 2 ^ m
reduced-below m n = mod_below n (2 ^ m) (pow_pos m)

pub arithmetic-below : (m a b : ℕ) → (bvadd m a b < 2 ^ m) × (bvsub m a b < 2 ^ m) × (bvmul m a b < 2 ^ m) × (bvneg m a < 2 ^ m)
arithmetic-below m a b = (reduced-below m (a + b), reduced-below m (a + (2 ^ m - b)), reduced-below m (a * b), reduced-below m (2 ^ m - a))

negated_if-below : (m : ℕ) (t : Bool) (a : ℕ) → a < 2 ^ m → negated_if m t a < 2 ^ m
negated_if-below m true a lt = reduced-below m (2 ^ m - a)
negated_if-below m false a lt = lt

quotient-below : (m a b : ℕ) (zero_divisor : Bool) → a < 2 ^ m → (if zero_divisor then (2 ^ m - 1) else (a / b)) < 2 ^ m
quotient-below m a b true lt = omega (arith, pow_pos m)
quotient-below m a b false lt = omega (arith, div-le_self a b)

remainder-below : (m a b : ℕ) (zero_divisor : Bool) → a < 2 ^ m → (if zero_divisor then a else (a % b)) < 2 ^ m
remainder-below m a b true lt = lt
remainder-below m a b false lt = omega (arith, mod-le a b)

bvudiv-below : (m a b : ℕ) → a < 2 ^ m → bvudiv m a b < 2 ^ m
bvudiv-below m a b lt = quotient-below m a b (nat_eq b 0) lt

bvurem-below : (m a b : ℕ) → a < 2 ^ m → bvurem m a b < 2 ^ m
bvurem-below m a b lt = remainder-below m a b (nat_eq b 0) lt

magnitude-below : (m a : ℕ) → a < 2 ^ m → magnitude m a < 2 ^ m
magnitude-below m a lt = negated_if-below m (is_negative m a) a lt

by_signs-below : (m : ℕ) (s t : Bool) (u b : ℕ) → u < 2 ^ m → modulo_by_signs m s t u b < 2 ^ m
by_signs-below m false false u b lt = lt
by_signs-below m true false u b lt = reduced-below m (b + (2 ^ m - u))
by_signs-below m false true u b lt = reduced-below m (u + b)
by_signs-below m true true u b lt = reduced-below m (2 ^ m - u)

unless_zero-below : (m n : ℕ) (is_zero : Bool) → n < 2 ^ m → (if is_zero then 0 else n) < 2 ^ m
unless_zero-below m n true lt = pow_pos m
unless_zero-below m n false lt = lt

pub division-below : (m a b : ℕ) → a < 2 ^ m →
    (bvudiv m a b < 2 ^ m) × (bvurem m a b < 2 ^ m) × (bvsdiv m a b < 2 ^ m) × (bvsrem m a b < 2 ^ m) × (bvsmod m a b < 2 ^ m)
division-below m a b lt =
    let s = is_negative m a in
    let t = is_negative m b in
    let u = bvurem m (magnitude m a) (magnitude m b) in
    let below : u < 2 ^ m = bvurem-below m (magnitude m a) (magnitude m b) (magnitude-below m a lt) in (
      bvudiv-below m a b lt,
      bvurem-below m a b lt,
      negated_if-below m (differ s t) (bvudiv m (magnitude m a) (magnitude m b)) (bvudiv-below m (magnitude m a) (magnitude m b) (magnitude-below m a lt)),
      negated_if-below m s u below,
      unless_zero-below m (modulo_by_signs m s t u b) (nat_eq u 0) (by_signs-below m s t u b below),
    )

filled-below : (m a b : ℕ) (t : Bool) (filled : ℕ) → filled < 2 ^ m → a < 2 ^ m → (if t then filled else (bvlshr m a b)) < 2 ^ m
filled-below m a b true filled lt below = lt
filled-below m a b false filled lt below = omega (arith, shr_le a b)

pub shifts-below : (m a b : ℕ) → a < 2 ^ m → (bvshl m a b < 2 ^ m) × (bvlshr m a b < 2 ^ m) × (bvashr m a b < 2 ^ m)
shifts-below m a b lt = (
  reduced-below m (a * 2 ^ b),
  omega (arith, shr_le a b),
  filled-below m a b (is_negative m a) _ (bvnot-below m _) lt,
)

pub complements-below : (m a b : ℕ) → (bvnand m a b < 2 ^ m) × (bvnor m a b < 2 ^ m) × (bvxnor m a b < 2 ^ m)
complements-below m a b = (bvnot-below m (bvand m a b), bvnot-below m (bvor m a b), bvnot-below m (bvxor m a b))

modulo-below : (x : ℤ) (n : ℕ) → 0 < n → modulo x n < n
modulo-below (pos a) n some = mod_below a n some
modulo-below (negsuc a) n some = omega arith

pub sign_extend-below : (m k a : ℕ) → sign_extend m k a < 2 ^ (m + k)
sign_extend-below m k a = modulo-below (signed m a) (2 ^ (m + k)) (pow_pos (m + k))
