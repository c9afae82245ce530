-- Values of sums, products and quotients of bit vectors of width 4, worked by hand (SMT-LIB 2.6, theory FixedSizeBitVectors and logic
-- QF_BV). In two's complement 9 is -7, 13 is -3, 14 is -2, 15 is -1 and 8 is -8.
use Rattle.std.specs.Prelude.{true, false, [], ◌∷◌}
use Rattle.rare_sort.specs.declared.head.Head.TheVariants as head
use Rattle.rare_meaning.specs.Settings.{Setting}
use Rattle.rare_meaning.specs.Operators.{bits}
use Rattle.rare_meaning.specs.rows.Rows.{Yields, OnBits, BitTests}

pub record ArithmeticRows (e : Setting) : Type 0 where
  pub bvneg : OnBits e head.BvNeg ((3 ∷ [], 13) ∷ (0 ∷ [], 0) ∷ (8 ∷ [], 8) ∷ [])
  pub bvadd : OnBits e head.BvAdd ((15 ∷ 1 ∷ [], 0) ∷ (12 ∷ 10 ∷ 1 ∷ [], 7) ∷ [])
  pub bvmul : OnBits e head.BvMul ((3 ∷ 6 ∷ [], 2) ∷ (5 ∷ 5 ∷ 5 ∷ [], 13) ∷ [])
  pub bvsub : OnBits e head.BvSub ((3 ∷ 5 ∷ [], 14) ∷ (5 ∷ 3 ∷ [], 2) ∷ (5 ∷ 0 ∷ [], 5) ∷ [])
  pub bvudiv : OnBits e head.BvUdiv ((13 ∷ 4 ∷ [], 3) ∷ (3 ∷ 4 ∷ [], 0) ∷ (13 ∷ 0 ∷ [], 15) ∷ (0 ∷ 0 ∷ [], 15) ∷ [])
  pub bvurem : OnBits e head.BvUrem ((13 ∷ 4 ∷ [], 1) ∷ (3 ∷ 4 ∷ [], 3) ∷ (13 ∷ 0 ∷ [], 13) ∷ [])
  pub bvsdiv_by_signs : OnBits e head.BvSdiv ((7 ∷ 2 ∷ [], 3) ∷ (9 ∷ 2 ∷ [], 13) ∷ (7 ∷ 14 ∷ [], 13) ∷ (9 ∷ 14 ∷ [], 3) ∷ (8 ∷ 15 ∷ [], 8) ∷ [])
  pub bvsdiv_by_zero : OnBits e head.BvSdiv ((7 ∷ 0 ∷ [], 15) ∷ (9 ∷ 0 ∷ [], 1) ∷ (8 ∷ 0 ∷ [], 1) ∷ [])
  pub bvsrem_by_signs : OnBits e head.BvSrem ((7 ∷ 2 ∷ [], 1) ∷ (9 ∷ 2 ∷ [], 15) ∷ (7 ∷ 14 ∷ [], 1) ∷ (9 ∷ 14 ∷ [], 15) ∷ [])
  pub bvsrem_by_zero : OnBits e head.BvSrem ((7 ∷ 0 ∷ [], 7) ∷ (9 ∷ 0 ∷ [], 9) ∷ [])
  -- 7 by 3 is 1, -7 by 3 is 2, 7 by -3 is -2, -7 by -3 is -1
  pub bvsmod_by_signs : OnBits e head.BvSmod ((7 ∷ 3 ∷ [], 1) ∷ (9 ∷ 3 ∷ [], 2) ∷ (7 ∷ 13 ∷ [], 14) ∷ (9 ∷ 13 ∷ [], 15) ∷ (15 ∷ 8 ∷ [], 15) ∷ [])
  pub bvsmod_exactly : OnBits e head.BvSmod ((6 ∷ 3 ∷ [], 0) ∷ (10 ∷ 3 ∷ [], 0) ∷ (6 ∷ 13 ∷ [], 0) ∷ (10 ∷ 13 ∷ [], 0) ∷ [])
  pub bvsmod_by_zero : OnBits e head.BvSmod ((7 ∷ 0 ∷ [], 7) ∷ (8 ∷ 0 ∷ [], 8) ∷ (0 ∷ 0 ∷ [], 0) ∷ [])
  pub bvult : BitTests e head.BvUlt ((3 ∷ 12 ∷ [], true) ∷ (3 ∷ 3 ∷ [], false) ∷ (12 ∷ 3 ∷ [], false) ∷ [])
  pub bvule : BitTests e head.BvUle ((3 ∷ 3 ∷ [], true) ∷ (12 ∷ 3 ∷ [], false) ∷ [])
  pub bvugt : BitTests e head.BvUgt ((12 ∷ 3 ∷ [], true) ∷ (3 ∷ 3 ∷ [], false) ∷ [])
  pub bvuge : BitTests e head.BvUge ((3 ∷ 3 ∷ [], true) ∷ (3 ∷ 12 ∷ [], false) ∷ [])
  pub bvslt : BitTests e head.BvSlt ((8 ∷ 7 ∷ [], true) ∷ (7 ∷ 8 ∷ [], false) ∷ (3 ∷ 3 ∷ [], false) ∷ [])
  pub bvsle : BitTests e head.BvSle ((15 ∷ 15 ∷ [], true) ∷ (0 ∷ 15 ∷ [], false) ∷ [])
  pub bvsgt : BitTests e head.BvSgt ((0 ∷ 15 ∷ [], true) ∷ (8 ∷ 0 ∷ [], false) ∷ (15 ∷ 8 ∷ [], true) ∷ [])
  pub bvsge : BitTests e head.BvSge ((15 ∷ 15 ∷ [], true) ∷ (8 ∷ 15 ∷ [], false) ∷ [])
  -- at the greatest width that has values
  pub wide : Yields e head.BvMul [] (bits 128 340282366920938463463374607431768211455 ∷ bits 128 340282366920938463463374607431768211455 ∷ []) (bits 128 1)
