-- The operators of the four theories on values (SMT-LIB 2.6, theories Core, Ints, ArraysEx and FixedSizeBitVectors; logic QF_BV).
-- The operators on bit vectors are those of `rare_bits`, on the numbers that the bit vectors are.
use Rattle.std.specs.Prelude.{ℕ, zero, suc, ◌+◌, ℤ, pos, negsuc, ◌+ℤ◌, ◌-ℤ◌, ◌*ℤ◌, int_lt, int_le, Bool, not, ◌&&◌, ◌||◌, List, [], ◌∷◌}
use Rattle.std.specs.Int.{int_div_euclid, int_rem_euclid}
use Rattle.rare_bits.specs.Bits.{differ, signed, concat}
use Rattle.rare_meaning.specs.Values.{Value, Truth, Whole, Bits, Array, Truths, Wholes, BitVectors, zero_of, entry_at, written, truth_of, whole_of, bits_number, entries_of, width_of, entry_sort}
use Rattle.rare_meaning.specs.ClosedSorts.{to_nat}
use Rattle.rare_meaning.specs.Settings.{Item, Group, item}
use Rattle.rare_meaning.specs.Splicing.{values, arg, val, lead, each_pair, gathered}

-- ---- indices

-- index k, counted from 0
abbrev pub index : ℕ → List ℤ → ℕ
index k [] = 0
index zero (x ∷ xs) = to_nat x
index (suc k) (x ∷ xs) = index k xs

abbrev pub first_index : List ℤ → ℤ
first_index [] = pos 0
first_index (x ∷ xs) = x

-- ---- values with their sorts

abbrev pub truth : Bool → Item
truth b = item Truths (Truth b)

abbrev pub whole : ℤ → Item
whole z = item Wholes (Whole z)

abbrev pub bits : ℕ → ℕ → Item
bits n a = item (BitVectors n) (Bits n a)

-- ---- Core

abbrev pub and_value : Value → Value → Value
and_value a b = Truth (truth_of a && truth_of b)

abbrev pub or_value : Value → Value → Value
or_value a b = Truth (truth_of a || truth_of b)

abbrev pub implies_value : Value → Value → Value
implies_value a b = Truth (not (truth_of a) || truth_of b)

abbrev pub xor_value : Value → Value → Value
xor_value a b = Truth (differ (truth_of a) (truth_of b))

-- ---- Ints

abbrev pub add_value : Value → Value → Value
add_value a b = Whole (whole_of a +ℤ whole_of b)

abbrev pub mul_value : Value → Value → Value
mul_value a b = Whole (whole_of a *ℤ whole_of b)

abbrev pub minus_value : Value → Value → Value
minus_value a b = Whole (whole_of a -ℤ whole_of b)

-- quotient and remainder by n other than 0: the q and the r with m = n * q + r and 0 <= r < |n|. By 0 they are those of m by 0
abbrev pub quotient_of : (ℤ → ℤ) → ℤ → ℤ → ℤ
quotient_of by_zero m (pos zero) = by_zero m
quotient_of by_zero m n = int_div_euclid m n

abbrev pub remainder_of : (ℤ → ℤ) → ℤ → ℤ → ℤ
remainder_of by_zero m (pos zero) = by_zero m
remainder_of by_zero m n = int_rem_euclid m n

abbrev pub div_value : (ℤ → ℤ) → Value → Value → Value
div_value by_zero a b = Whole (quotient_of by_zero (whole_of a) (whole_of b))

abbrev pub absolute_value : ℤ → ℤ
absolute_value (pos n) = pos n
absolute_value (negsuc n) = pos (suc n)

-- all neighbours are in the relation
abbrev pub chain : (ℤ → ℤ → Bool) → List Item → Item
chain test is = truth (each_pair (λ a b. test (whole_of a) (whole_of b)) (values is))

abbrev pub int_ge : ℤ → ℤ → Bool
int_ge a b = int_le b a

abbrev pub int_gt : ℤ → ℤ → Bool
int_gt a b = int_lt b a

-- ---- ArraysEx

abbrev pub select : Item → Value → Item
select a key =
    let s = entry_sort a.sort in
    item s (entry_at (zero_of s) key (entries_of a.value))

abbrev pub store : Item → Value → Value → Item
store a key v = item a.sort (Array (written (zero_of (entry_sort a.sort)) key v (entries_of a.value)))

-- ---- bit vectors

abbrev pub width_at : List Item → ℕ
width_at is = width_of (arg 0 is).sort

abbrev pub number_at : ℕ → List Item → ℕ
number_at k is = bits_number (val k is)

-- on one bit vector, and on two of one width
abbrev pub on_one : (ℕ → ℕ → ℕ) → List Item → Item
on_one f is = bits (width_at is) (f (width_at is) (number_at 0 is))

abbrev pub on_two : (ℕ → ℕ → ℕ → ℕ) → List Item → Item
on_two f is = bits (width_at is) (f (width_at is) (number_at 0 is) (number_at 1 is))

-- on all of one width, with the neutral number of the width
abbrev pub on_all : (ℕ → ℕ → ℕ → ℕ) → (ℕ → ℕ) → Group → Item
on_all f none g =
    let n = width_of (lead g) in
    gathered (BitVectors n) (λ a b. Bits n (f n (bits_number a) (bits_number b))) (Bits n (none n)) g.items

-- of the numbers, and of the numbers in two's complement
abbrev pub unsigned_test : (ℕ → ℕ → Bool) → List Item → Item
unsigned_test f is = truth (f (number_at 0 is) (number_at 1 is))

abbrev pub signed_test : (ℤ → ℤ → Bool) → List Item → Item
signed_test f is = truth (f (signed (width_at is) (number_at 0 is)) (signed (width_at is) (number_at 1 is)))

-- the first above the second
abbrev pub concat_two : Item → Item → Item
concat_two x y =
    let n = width_of y.sort in
    bits (width_of x.sort + n) (concat (bits_number x.value) n (bits_number y.value))

-- the first has the high bits; none has no meaning, so that any value will do
abbrev pub concat_all : List Item → Item
concat_all [] = bits 0 0
concat_all (x ∷ []) = x
concat_all (x ∷ y ∷ ys) = concat_two x (concat_all (y ∷ ys))
