-- The numbers of literals: within their limits, and reduced.
use Rattle.std.proofs.Common.{◌≡◌, ℕ, ◌-◌, ◌%◌, ◌^◌, ◌<◌, ◌≤◌, Bool, true, false, ◌&&◌, List, [], ◌∷◌, nat_lt, Some, refl, arith, FitsSigned}
use Rattle.std.specs.Prelude.{ℤ, pos, negsuc, nat_le}
use Rattle.std.specs.Int.{w128}
use Rattle.std.proofs.Math.Nat.{mod-le, mod-eq_of_lt}
use Rattle.std.proofs.Math.Pow.{pow_mono, pow_pos}
use Rattle.std.proofs.lemmas.Bool.{leb-true, ltb-false}
use Rattle.rare_linear.specs.Linears.{Part, LinearExpression, linear, number}
use Rattle.rare_sort.specs.SortRules.{is_number, no_names, number_in}
use Rattle.rare_sort.proofs.Options.{if_some}
use Rattle.rare_term.specs.Literals.{reduced_value}
use Rattle.rare_term.specs.Refusals.{is_below_wide}
use Rattle.rare_scope.specs.Numbers.{LARGEST_SMALL, LARGEST_WIDE, up_to}

-- ---- numbers

pub small_is : (n k : ℕ) → up_to LARGEST_SMALL n ≡ Some k → k ≤ LARGEST_SMALL
small_is n k is = let x = if_some (nat_le n LARGEST_SMALL) n k is in let le = leb-true n LARGEST_SMALL x.0 in let same = x.1 in omega arith

pub wide_is : (n k : ℕ) → up_to LARGEST_WIDE n ≡ Some k → k ≤ LARGEST_WIDE
wide_is n k is = let x = if_some (nat_le n LARGEST_WIDE) n k is in let le = leb-true n LARGEST_WIDE x.0 in let same = x.1 in omega arith

-- a value that is below 2^width and below 2^128
pub record IsReduced (v k : ℕ) : Type 0 where
  pub below : v < 2 ^ k
  pub wide : v ≤ LARGEST_WIDE

-- a value that is an i128, reduced: a negative one only at a width up to 128
pub reduced_is : (m : ℤ) (n : ℕ) → FitsSigned w128 m → is_below_wide (Some m) (Some (pos n)) ≡ false → IsReduced (reduced_value m (pos n)) n
reduced_is (pos a) n fit close =
    let some : 0 < 2 ^ n = pow_pos n in
    let small : a < 2 ^ 127 = (let lt = fit.sfits in omega arith) in
    let low : a % 2 ^ n ≤ a = mod-le a (2 ^ n) in
    record { below = omega (arith, some); wide = omega (arith, small, low) }
reduced_is (negsuc a) n fit close =
    let some : 0 < 2 ^ n = pow_pos n in
    let low : 2 ^ n - 1 - a % 2 ^ n < 2 ^ n = omega (arith, some) in
    record { below = low; wide = wide_by (nat_lt 128 n) refl close low }
  where
    wide_by : (b : Bool) → nat_lt 128 n ≡ b → (b && true) ≡ false → 2 ^ n - 1 - a % 2 ^ n < 2 ^ n → 2 ^ n - 1 - a % 2 ^ n ≤ LARGEST_WIDE
    wide_by true is h low = absurd cc
    wide_by false is h low =
        let few : n ≤ 128 = ltb-false 128 n is in
        let p : 2 ^ n ≤ 2 ^ 128 = pow_mono few in
        omega (arith, low, p)

-- a reduced value is itself
pub already : (v k : ℕ) → v < 2 ^ k → v % 2 ^ k ≡ v
already v k lt = mod-eq_of_lt lt

-- a number alone
pub only_number : (l : LinearExpression) (c : ℤ) → number_in l ≡ Some c → l ≡ number c
only_number l c is =
    let x = if_some (is_number l) l.constant c is in
    go l.parts refl x.0 x.1
  where
    go : (ps : List Part) → l.parts ≡ ps → no_names ps ≡ true → l.constant ≡ c → l ≡ number c
    go [] none number_is same = λ i. linear (same i) (none i)
    go (p ∷ ps) some number_is same = absurd cc
