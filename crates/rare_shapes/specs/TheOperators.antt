-- The ten operators whose arguments may be lists: nine have a neutral value, and `concat` joins (SMT-LIB 2.6, theories Core, Ints and
-- FixedSizeBitVectors; to read those of bit vectors with any number of arguments is this project's own).
use Rattle.std.specs.Prelude.{◌≡◌, ℕ, ◌^◌, ◌<◌, List, [], ◌∷◌, All}
use Rattle.rare_bits.specs.Bits.{concat}
use Rattle.rare_sort.specs.declared.head.Head.TheVariants as head
use Rattle.rare_meaning.specs.Values.{Truths, Wholes, BitVectors, bits_number}
use Rattle.rare_meaning.specs.Settings.{Item}
use Rattle.rare_meaning.specs.Operators.{bits, concat_all}
use Rattle.rare_rule.specs.Holds.{IsBitVector, total_width}
use Rattle.rare_shapes.specs.Operators.{Operator}

-- those with a neutral value, on bit vectors at each width
pub record TheOperators : Type 0 where
  pub and : Operator head.And Truths
  pub or : Operator head.Or Truths
  pub sum : Operator head.Add Wholes
  pub product : Operator head.Mul Wholes
  pub word_sum : (n : ℕ) → Operator head.BvAdd (BitVectors n)
  pub word_product : (n : ℕ) → Operator head.BvMul (BitVectors n)
  pub word_and : (n : ℕ) → Operator head.BvAnd (BitVectors n)
  pub word_or : (n : ℕ) → Operator head.BvOr (BitVectors n)
  pub word_xor : (n : ℕ) → Operator head.BvXor (BitVectors n)

-- the number of a join
abbrev pub joined_number : List Item → ℕ
joined_number [] = 0
joined_number (x ∷ xs) = concat (bits_number x.value) (total_width xs) (joined_number xs)

-- a join of bit vectors is one of their total width
abbrev pub JoinsAreTold : Type 0
JoinsAreTold =
    (is : List Item) → All IsBitVector is → (concat_all is ≡ bits (total_width is) (joined_number is)) × (joined_number is < 2 ^ total_width is)
