-- Values of each operator, worked by hand from its definition in SMT-LIB 2.6 (theory FixedSizeBitVectors and logic QF_BV).
use Rattle.std.specs.Prelude.{◌≡◌, ℕ, Bool, true, ◌&&◌, nat_eq, List, [], ◌∷◌}
use Rattle.rare_bits.specs.Bits.{bvadd, bvneg, bvsub, bvmul, bvudiv, bvurem, bvsdiv, bvsrem, bvsmod, bvnot, bvand, bvor, bvxor, bvnand, bvnor, bvxnor, bvcomp, bvshl, bvlshr, bvashr, rotate_left, rotate_right, extract, concat, repeat, sign_extend}

-- all ones, and the top bit alone, at width 128
abbrev ones : ℕ
ones = 340282366920938463463374607431768211455

abbrev top : ℕ
top = 170141183460469231731687303715884105728

-- whether each first number is the second
abbrev pub are_equal : List (ℕ × ℕ) → Bool
are_equal [] = true
are_equal ((value, want) ∷ rows) = nat_eq value want && are_equal rows

-- the values of an operator, each beside the one that is wanted
abbrev pub Computes : List (ℕ × ℕ) → Type 0
Computes rows = are_equal rows ≡ true

pub record ValuesByHand : Type 0 where
  pub bvnot : Computes ((bvnot 1 0, 1) ∷ (bvnot 4 5, 10) ∷ (bvnot 128 top, 170141183460469231731687303715884105727) ∷ [])
  pub bvand : Computes ((bvand 1 1 0, 0) ∷ (bvand 4 12 10, 8) ∷ (bvand 128 ones top, top) ∷ [])
  pub bvor : Computes ((bvor 1 1 0, 1) ∷ (bvor 4 12 10, 14) ∷ (bvor 128 top 0, top) ∷ [])
  pub bvxor : Computes ((bvxor 1 1 1, 0) ∷ (bvxor 4 12 10, 6) ∷ (bvxor 128 ones ones, 0) ∷ [])
  pub bvnand : Computes ((bvnand 1 1 1, 0) ∷ (bvnand 1 0 1, 1) ∷ (bvnand 4 12 10, 7) ∷ (bvnand 128 ones ones, 0) ∷ [])
  pub bvnor : Computes ((bvnor 1 0 0, 1) ∷ (bvnor 1 0 1, 0) ∷ (bvnor 4 12 10, 1) ∷ (bvnor 128 0 0, ones) ∷ [])
  pub bvxnor : Computes ((bvxnor 1 0 0, 1) ∷ (bvxnor 1 0 1, 0) ∷ (bvxnor 4 12 10, 9) ∷ (bvxnor 128 0 0, ones) ∷ [])
  pub bvcomp : Computes ((bvcomp 5 5, 1) ∷ (bvcomp 5 4, 0) ∷ (bvcomp 0 top, 0) ∷ (bvcomp ones ones, 1) ∷ [])
  pub bvadd : Computes ((bvadd 1 1 1, 0) ∷ (bvadd 4 9 8, 1) ∷ (bvadd 128 ones 1, 0) ∷ [])
  pub bvsub : Computes ((bvsub 1 0 1, 1) ∷ (bvsub 4 3 5, 14) ∷ (bvsub 4 5 3, 2) ∷ (bvsub 128 0 1, ones) ∷ [])
  pub bvmul : Computes ((bvmul 1 1 1, 1) ∷ (bvmul 4 10 3, 14) ∷ (bvmul 128 ones ones, 1) ∷ [])
  pub bvneg : Computes ((bvneg 1 1, 1) ∷ (bvneg 4 0, 0) ∷ (bvneg 4 1, 15) ∷ (bvneg 4 8, 8) ∷ (bvneg 128 top, top) ∷ [])
  pub bvudiv : Computes ((bvudiv 1 1 0, 1) ∷ (bvudiv 4 13 4, 3) ∷ (bvudiv 4 13 0, 15) ∷ (bvudiv 128 ones top, 1) ∷ [])
  pub bvurem : Computes ((bvurem 1 1 0, 1) ∷ (bvurem 4 13 4, 1) ∷ (bvurem 4 11 0, 11) ∷ (bvurem 128 top ones, top) ∷ [])
  pub bvsdiv : Computes (
      (bvsdiv 4 7 2, 3) ∷ (bvsdiv 4 7 14, 13) ∷ (bvsdiv 4 9 2, 13) ∷ (bvsdiv 4 9 14, 3) ∷ (bvsdiv 4 5 0, 15) ∷ (bvsdiv 4 8 0, 1)
      ∷ (bvsdiv 4 8 15, 8) ∷ [])
  pub bvsrem : Computes (
      (bvsrem 4 7 2, 1) ∷ (bvsrem 4 7 14, 1) ∷ (bvsrem 4 9 2, 15) ∷ (bvsrem 4 9 14, 15) ∷ (bvsrem 4 5 0, 5) ∷ (bvsrem 4 9 0, 9)
      ∷ (bvsrem 4 8 15, 0) ∷ [])
  pub bvsmod : Computes (
      (bvsmod 4 7 2, 1) ∷ (bvsmod 4 10 4, 2) ∷ (bvsmod 4 7 14, 15) ∷ (bvsmod 4 9 14, 15) ∷ (bvsmod 4 8 0, 8) ∷ (bvsmod 4 15 8, 15)
      ∷ (bvsmod 4 12 4, 0) ∷ [])
  pub bvshl : Computes ((bvshl 1 1 1, 0) ∷ (bvshl 4 3 3, 8) ∷ (bvshl 4 15 4, 0) ∷ (bvshl 128 1 127, top) ∷ [])
  pub bvlshr : Computes ((bvlshr 1 1 1, 0) ∷ (bvlshr 4 12 2, 3) ∷ (bvlshr 4 15 4, 0) ∷ (bvlshr 128 top 127, 1) ∷ [])
  pub bvashr : Computes ((bvashr 1 1 1, 1) ∷ (bvashr 4 10 1, 13) ∷ (bvashr 4 6 1, 3) ∷ (bvashr 4 8 4, 15) ∷ (bvashr 4 7 15, 0) ∷ [])
  pub rotate_left : Computes ((rotate_left 1 5 1, 1) ∷ (rotate_left 4 1 3, 6) ∷ (rotate_left 4 5 9, 3) ∷ (rotate_left 128 1 top, 1) ∷ [])
  pub rotate_right : Computes ((rotate_right 1 5 1, 1) ∷ (rotate_right 4 1 3, 9) ∷ (rotate_right 4 5 9, 12) ∷ (rotate_right 128 1 1, top) ∷ [])
  pub extract : Computes ((extract 0 0 1, 1) ∷ (extract 2 1 10, 1) ∷ (extract 3 3 10, 1) ∷ (extract 3 0 10, 10) ∷ (extract 127 127 top, 1) ∷ [])
  pub concat : Computes ((concat 1 1 0, 2) ∷ (concat 2 3 3, 19) ∷ (concat 3 2 2, 14) ∷ [])
  pub repeat : Computes ((repeat 4 1 9, 9) ∷ (repeat 1 4 1, 15) ∷ (repeat 2 3 2, 42) ∷ (repeat 4 2 9, 153) ∷ [])
  pub sign_extend : Computes ((sign_extend 4 0 10, 10) ∷ (sign_extend 1 3 1, 15) ∷ (sign_extend 4 4 8, 248) ∷ (sign_extend 4 4 7, 7) ∷ [])
