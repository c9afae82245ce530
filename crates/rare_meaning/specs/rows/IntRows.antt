-- Values of the operators of the theory Ints, worked by hand (SMT-LIB 2.6, theory Ints).
use Rattle.std.specs.Prelude.{true, false, pos, [], ◌∷◌}
use Rattle.rare_sort.specs.declared.head.Head.TheVariants as head
use Rattle.rare_meaning.specs.Settings.{Setting}
use Rattle.rare_meaning.specs.rows.Rows.{negative, OnInts, IntTests}

pub record IntRows (e : Setting) : Type 0 where
  pub numerals : OnInts e (head.Numeral 0) (([], pos 0) ∷ []) × OnInts e (head.Numeral 12) (([], pos 12) ∷ [])
  pub neg : OnInts e head.Neg ((pos 5 ∷ [], negative 5) ∷ (negative 3 ∷ [], pos 3) ∷ (pos 0 ∷ [], pos 0) ∷ [])
  pub minus : OnInts e head.Minus ((pos 3 ∷ pos 5 ∷ [], negative 2) ∷ (pos 5 ∷ negative 3 ∷ [], pos 8) ∷ [])
  -- from the left: (10 - 3) - 2
  pub minus_of_three : OnInts e head.Minus ((pos 10 ∷ pos 3 ∷ pos 2 ∷ [], pos 5) ∷ [])
  pub add : OnInts e head.Add ((pos 1 ∷ pos 2 ∷ pos 3 ∷ [], pos 6) ∷ (negative 5 ∷ pos 3 ∷ [], negative 2) ∷ [])
  pub mul : OnInts e head.Mul ((pos 2 ∷ negative 3 ∷ pos 4 ∷ [], negative 24) ∷ (negative 2 ∷ negative 3 ∷ [], pos 6) ∷ (pos 0 ∷ pos 5 ∷ [], pos 0) ∷ [])
  -- 7 = 2 * 3 + 1, -7 = 2 * -4 + 1, 7 = -2 * -3 + 1, -7 = -2 * 4 + 1
  pub div_by_signs : OnInts e head.Div ((pos 7 ∷ pos 2 ∷ [], pos 3) ∷ (negative 7 ∷ pos 2 ∷ [], negative 4) ∷ (pos 7 ∷ negative 2 ∷ [], negative 3) ∷ (negative 7 ∷ negative 2 ∷ [], pos 4) ∷ [])
  pub div_exactly : OnInts e head.Div ((negative 6 ∷ pos 3 ∷ [], negative 2) ∷ (pos 6 ∷ negative 3 ∷ [], negative 2) ∷ (negative 6 ∷ negative 3 ∷ [], pos 2) ∷ (pos 0 ∷ negative 3 ∷ [], pos 0) ∷ [])
  -- from the left: (100 div 7) div 3
  pub div_of_three : OnInts e head.Div ((pos 100 ∷ pos 7 ∷ pos 3 ∷ [], pos 4) ∷ [])
  -- a function of the dividend
  pub div_by_zero : OnInts e head.Div ((pos 7 ∷ pos 0 ∷ [], e.quotient_by_zero (pos 7)) ∷ (negative 7 ∷ pos 0 ∷ [], e.quotient_by_zero (negative 7)) ∷ (pos 15 ∷ pos 2 ∷ pos 0 ∷ [], e.quotient_by_zero (pos 7)) ∷ [])
  pub mod_by_signs : OnInts e head.Mod ((pos 7 ∷ pos 2 ∷ [], pos 1) ∷ (negative 7 ∷ pos 2 ∷ [], pos 1) ∷ (pos 7 ∷ negative 2 ∷ [], pos 1) ∷ (negative 7 ∷ negative 2 ∷ [], pos 1) ∷ [])
  -- -8 = 5 * -2 + 2, -8 = -5 * 2 + 2, 8 = -5 * -1 + 3
  pub mod_of_others : OnInts e head.Mod ((negative 8 ∷ pos 5 ∷ [], pos 2) ∷ (negative 8 ∷ negative 5 ∷ [], pos 2) ∷ (pos 8 ∷ negative 5 ∷ [], pos 3) ∷ (negative 6 ∷ pos 3 ∷ [], pos 0) ∷ [])
  pub mod_by_zero : OnInts e head.Mod ((pos 7 ∷ pos 0 ∷ [], e.remainder_by_zero (pos 7)) ∷ (pos 0 ∷ pos 0 ∷ [], e.remainder_by_zero (pos 0)) ∷ [])
  pub abs : OnInts e head.Abs ((pos 5 ∷ [], pos 5) ∷ (negative 5 ∷ [], pos 5) ∷ (pos 0 ∷ [], pos 0) ∷ [])
  pub le : IntTests e head.Le ((pos 1 ∷ pos 1 ∷ pos 2 ∷ [], true) ∷ (pos 1 ∷ pos 3 ∷ pos 2 ∷ [], false) ∷ (negative 2 ∷ negative 1 ∷ [], true) ∷ [])
  pub lt : IntTests e head.Lt ((pos 1 ∷ pos 2 ∷ pos 3 ∷ [], true) ∷ (pos 1 ∷ pos 1 ∷ [], false) ∷ (negative 2 ∷ pos 1 ∷ [], true) ∷ [])
  pub ge : IntTests e head.Ge ((pos 2 ∷ pos 2 ∷ pos 1 ∷ [], true) ∷ (pos 1 ∷ pos 2 ∷ [], false) ∷ (negative 1 ∷ negative 2 ∷ [], true) ∷ [])
  pub gt : IntTests e head.Gt ((pos 3 ∷ pos 2 ∷ pos 1 ∷ [], true) ∷ (pos 2 ∷ pos 2 ∷ [], false) ∷ (pos 1 ∷ negative 2 ∷ [], true) ∷ [])
