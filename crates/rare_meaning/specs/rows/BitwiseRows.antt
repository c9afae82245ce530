-- Values of operators on bits, shifts and rotations, worked by hand (SMT-LIB 2.6, theory FixedSizeBitVectors and logic QF_BV). Of
-- width 4, 12 is 1100, 10 is 1010 and 9 is 1001.
use Rattle.std.specs.Prelude.{[], ◌∷◌}
use Rattle.rare_sort.specs.declared.head.Head.TheVariants as head
use Rattle.rare_meaning.specs.Settings.{Setting}
use Rattle.rare_meaning.specs.Operators.{bits}
use Rattle.rare_meaning.specs.rows.Rows.{Yields, OnBits, ByIndex}

pub record BitwiseRows (e : Setting) : Type 0 where
  pub bvnot : OnBits e head.BvNot ((12 ∷ [], 3) ∷ (0 ∷ [], 15) ∷ [])
  pub bvand : OnBits e head.BvAnd ((12 ∷ 10 ∷ [], 8) ∷ (15 ∷ 7 ∷ 13 ∷ [], 5) ∷ [])
  pub bvor : OnBits e head.BvOr ((12 ∷ 10 ∷ [], 14) ∷ (1 ∷ 2 ∷ 4 ∷ [], 7) ∷ [])
  pub bvxor : OnBits e head.BvXor ((12 ∷ 10 ∷ [], 6) ∷ (1 ∷ 2 ∷ 3 ∷ [], 0) ∷ (7 ∷ 7 ∷ 7 ∷ [], 7) ∷ [])
  pub bvnand : OnBits e head.BvNand ((12 ∷ 10 ∷ [], 7) ∷ (15 ∷ 15 ∷ [], 0) ∷ [])
  pub bvnor : OnBits e head.BvNor ((12 ∷ 10 ∷ [], 1) ∷ (0 ∷ 0 ∷ [], 15) ∷ [])
  pub bvxnor : OnBits e head.BvXnor ((12 ∷ 10 ∷ [], 9) ∷ (5 ∷ 5 ∷ [], 15) ∷ [])
  pub bvcomp_equal : Yields e head.BvComp [] (bits 4 5 ∷ bits 4 5 ∷ []) (bits 1 1)
  pub bvcomp_other : Yields e head.BvComp [] (bits 4 5 ∷ bits 4 4 ∷ []) (bits 1 0)
  -- by less than the width, by the width and by more
  pub bvshl : OnBits e head.BvShl ((3 ∷ 2 ∷ [], 12) ∷ (9 ∷ 1 ∷ [], 2) ∷ (9 ∷ 4 ∷ [], 0) ∷ (9 ∷ 15 ∷ [], 0) ∷ [])
  pub bvlshr : OnBits e head.BvLshr ((12 ∷ 2 ∷ [], 3) ∷ (9 ∷ 4 ∷ [], 0) ∷ (9 ∷ 15 ∷ [], 0) ∷ [])
  pub bvashr : OnBits e head.BvAshr ((12 ∷ 1 ∷ [], 14) ∷ (12 ∷ 4 ∷ [], 15) ∷ (12 ∷ 9 ∷ [], 15) ∷ (5 ∷ 1 ∷ [], 2) ∷ (5 ∷ 4 ∷ [], 0) ∷ [])
  pub rotate_left : ByIndex e head.RotateLeft ((1, 9, 4, 3) ∷ (0, 9, 4, 9) ∷ (4, 9, 4, 9) ∷ (5, 9, 4, 3) ∷ (6, 12, 4, 3) ∷ [])
  pub rotate_right : ByIndex e head.RotateRight ((1, 9, 4, 12) ∷ (0, 9, 4, 9) ∷ (4, 9, 4, 9) ∷ (7, 9, 4, 3) ∷ [])
  -- at the greatest width that has values
  pub wide : Yields e head.BvNor [] (bits 128 0 ∷ bits 128 0 ∷ []) (bits 128 340282366920938463463374607431768211455)
