-- Values of parts and joins of bit vectors, and of literals, worked by hand (SMT-LIB 2.6, theory FixedSizeBitVectors and logic QF_BV).
use Rattle.std.specs.Prelude.{pos, [], ◌∷◌}
use Rattle.rare_sort.specs.declared.head.Head.TheVariants as head
use Rattle.rare_meaning.specs.Settings.{Setting}
use Rattle.rare_meaning.specs.Operators.{bits}
use Rattle.rare_meaning.specs.rows.Rows.{Yields, ByIndex, negative}

pub record SliceRows (e : Setting) : Type 0 where
  -- #x1 and #x2 make #x12; 01, 1 and 10 make 01110
  pub concat : Yields e head.Concat [] (bits 4 1 ∷ bits 4 2 ∷ []) (bits 8 18)
  pub concat_of_three : Yields e head.Concat [] (bits 2 1 ∷ bits 1 1 ∷ bits 2 2 ∷ []) (bits 5 14)
  -- of 10101100 the bits 5 to 2 are 1011
  pub extract : Yields e head.Extract (pos 5 ∷ pos 2 ∷ []) (bits 8 172 ∷ []) (bits 4 11)
  pub extract_high_bit : Yields e head.Extract (pos 7 ∷ pos 7 ∷ []) (bits 8 172 ∷ []) (bits 1 1)
  pub extract_low_bit : Yields e head.Extract (pos 0 ∷ pos 0 ∷ []) (bits 8 172 ∷ []) (bits 1 0)
  pub extract_all : Yields e head.Extract (pos 7 ∷ pos 0 ∷ []) (bits 8 172 ∷ []) (bits 8 172)
  pub zero_extend : ByIndex e head.ZeroExtend ((4, 9, 8, 9) ∷ (0, 9, 4, 9) ∷ [])
  -- #x9 becomes #xF9, and #x5 becomes #x05
  pub sign_extend : ByIndex e head.SignExtend ((4, 9, 8, 249) ∷ (4, 5, 8, 5) ∷ (0, 9, 4, 9) ∷ [])
  -- once, and three times 10
  pub repeat_once : ByIndex e head.Repeat ((1, 9, 4, 9) ∷ [])
  pub repeat_thrice : Yields e head.Repeat (pos 3 ∷ []) (bits 2 2 ∷ []) (bits 6 42)
  pub given : Yields e (head.Bits 5) (pos 4 ∷ []) [] (bits 4 5)
  pub given_reduced : Yields e (head.Bits 20) (pos 4 ∷ []) [] (bits 4 4)
  -- -1 is all ones, and 20, -17 and 2 are taken modulo 16, 16 and 2
  pub literal_below_zero : Yields e head.Literal (negative 1 ∷ pos 4 ∷ []) [] (bits 4 15)
  pub literal_reduced : Yields e head.Literal (pos 20 ∷ pos 4 ∷ []) [] (bits 4 4)
  pub literal_far_below_zero : Yields e head.Literal (negative 17 ∷ pos 4 ∷ []) [] (bits 4 15)
  pub literal_of_width_one : Yields e head.Literal (pos 2 ∷ pos 1 ∷ []) [] (bits 1 0)
