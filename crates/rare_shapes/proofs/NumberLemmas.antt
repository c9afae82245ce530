-- What a setting gives the parameters of a rule on bit vectors, as numbers.
use Rattle.std.proofs.Common.{◌≡◌, ℕ, zero, suc, ◌+◌, ◌-◌, ◌%◌, ◌^◌, ◌<◌, [], ◌∷◌, refl, ap, ◌∙◌, subst, arith}
use Rattle.std.proofs.lemmas.Int.{ints}
use Rattle.std.proofs.Math.Nat.{mod-eq_of_lt, pow-suc}
use Rattle.std.specs.Prelude.{ℤ, pos, negsuc, ◌≤ℤ◌}
use Rattle.rare_bits.specs.Bits.{concat, extract as slice}
use Rattle.rare_bits.proofs.PartsLemmas.{extract-below}
use Rattle.rare_linear.specs.Linears.{linear_value}
use Rattle.rare_sort.specs.Sorting.{name}
use Rattle.rare_sort.specs.declared.sort.Sort.{BitVec}
use Rattle.rare_meaning.specs.Values.{Bits, ClosedSort, BitVectors, bits_number}
use Rattle.rare_meaning.specs.ClosedSorts.{closed_sort, to_nat}
use Rattle.rare_meaning.specs.Settings.{Setting, one}
use Rattle.rare_meaning.specs.Operators.{bits}
use Rattle.rare_meaning.specs.Fitting.{IsOf}
use Rattle.rare_rule.specs.Holds.{IsOneOf}
use Rattle.rare_shapes.proofs.JoinLemmas.{IsWide, item_word, bits_of}

-- an index and a width are natural numbers
pub natural : (z : ℤ) → pos 0 ≤ℤ z → (m : ℕ) × (z ≡ pos m)
natural (pos m) h = (m, refl)
natural (negsuc m) h = absurd (omega (arith, ints))

pub positive : (z : ℤ) → pos 1 ≤ℤ z → (m : ℕ) × (z ≡ pos m)
positive z h = natural z (omega (arith, ints, h))

below_power : (n : ℕ) → n < 2 ^ n
below_power zero = omega arith
below_power (suc n) = omega (arith, below_power n, pow-suc 2 n)

-- an index below the width is the value of its literal
pub index_kept : (k n : ℕ) → k < n → k % 2 ^ n ≡ k
index_kept k n lt = mod-eq_of_lt (omega (arith, lt, below_power n))

-- zeros above a number leave it
pub zeros_above : (n a : ℕ) → a ≡ concat 0 n a
zeros_above n a = omega arith

-- name k is a natural number
pub record NumberAt (e : Setting) (k : ℕ) : Type 0 where
  pub number : ℕ
  pub is : e.number k ≡ pos number
  pub value : linear_value e.number (name k) ≡ pos number

pub index_at : (e : Setting) (k : ℕ) → pos 0 ≤ℤ e.number k → NumberAt e k
index_at e k h = let n = natural (e.number k) h in record { number = n.0; is = n.1; value = omega (arith, ints, n.1) }

pub width_at : (e : Setting) (k : ℕ) → pos 1 ≤ℤ e.number k → NumberAt e k
width_at e k h = index_at e k (omega (arith, ints, h))

-- parameter k is a word of width n
pub record WordAt (e : Setting) (k n : ℕ) : Type 0 where
  pub number : ℕ
  pub is : e.group k ≡ one (bits n number)
  pub below : number < 2 ^ n

-- the parameter's sort is `BitVec w`
pub word_at : (e : Setting) (names : ℕ → ClosedSort) (k w : ℕ) (n : NumberAt e w) → IsOneOf (closed_sort e.number names (BitVec (name w))) (e.group k) → WordAt e k n.number
word_at e names k w n h =
    let x = h.only.0 in
    let is = item_word n.number x (subst (λ m. IsOf (BitVectors m) x) (ap to_nat n.value) h.only.2) in
    record { number = bits_number x.value; is = h.only.1 ∙ ap one is.0; below = is.1 }

-- one word
pub same_bits : {m n a b : ℕ} → m ≡ n → a ≡ b → Bits m a ∷ [] ≡ Bits n b ∷ []
same_bits width number = λ s. Bits (width s) (number s) ∷ []

-- a slice is a word
pub slice_is : (a b n : ℕ) → IsWide (bits (a - b + 1) (slice a b n))
slice_is a b n = record { width = a - b + 1; is = bits_of (a - b + 1) (slice a b n) (extract-below a b n) }
