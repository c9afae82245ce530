-- Values of the operators of the theory Core, worked by hand (SMT-LIB 2.6, theory Core).
use Rattle.std.specs.Prelude.{true, false, pos, [], ◌∷◌}
use Rattle.rare_sort.specs.declared.head.Head.TheVariants as head
use Rattle.rare_meaning.specs.Settings.{Setting}
use Rattle.rare_meaning.specs.Operators.{truth, whole, bits}
use Rattle.rare_meaning.specs.rows.Rows.{Yields, OnTruths, IntTests, BitTests}

pub record CoreRows (e : Setting) : Type 0 where
  pub constants : OnTruths e head.True (([], true) ∷ []) × OnTruths e head.False (([], false) ∷ [])
  pub not : OnTruths e head.Not ((true ∷ [], false) ∷ (false ∷ [], true) ∷ [])
  pub implies : OnTruths e head.Implies ((true ∷ false ∷ [], false) ∷ (true ∷ true ∷ [], true) ∷ (false ∷ false ∷ [], true) ∷ (false ∷ true ∷ [], true) ∷ [])
  -- from the right: false => (true => false)
  pub implies_of_three : OnTruths e head.Implies ((false ∷ true ∷ false ∷ [], true) ∷ (true ∷ true ∷ false ∷ [], false) ∷ [])
  pub xor : OnTruths e head.Xor ((true ∷ false ∷ [], true) ∷ (true ∷ true ∷ [], false) ∷ (false ∷ false ∷ [], false) ∷ [])
  pub xor_of_three : OnTruths e head.Xor ((true ∷ true ∷ true ∷ [], true) ∷ (true ∷ false ∷ true ∷ [], false) ∷ [])
  pub and : OnTruths e head.And ((true ∷ true ∷ true ∷ [], true) ∷ (true ∷ false ∷ true ∷ [], false) ∷ (false ∷ false ∷ [], false) ∷ [])
  pub or : OnTruths e head.Or ((false ∷ false ∷ true ∷ [], true) ∷ (false ∷ false ∷ [], false) ∷ (true ∷ true ∷ [], true) ∷ [])
  pub equal : IntTests e head.Equal ((pos 1 ∷ pos 1 ∷ [], true) ∷ (pos 1 ∷ pos 1 ∷ pos 1 ∷ [], true) ∷ (pos 1 ∷ pos 1 ∷ pos 2 ∷ [], false) ∷ (pos 1 ∷ pos 2 ∷ pos 1 ∷ [], false) ∷ [])
  pub equal_bits : BitTests e head.Equal ((5 ∷ 5 ∷ [], true) ∷ (5 ∷ 4 ∷ [], false) ∷ [])
  pub equal_truths : OnTruths e head.Equal ((true ∷ true ∷ [], true) ∷ (false ∷ true ∷ [], false) ∷ [])
  pub distinct : IntTests e head.Distinct ((pos 1 ∷ pos 2 ∷ [], true) ∷ (pos 1 ∷ pos 1 ∷ [], false) ∷ [])
  -- two of three are equal, though they stand apart
  pub distinct_of_three : IntTests e head.Distinct ((pos 1 ∷ pos 2 ∷ pos 1 ∷ [], false) ∷ (pos 1 ∷ pos 2 ∷ pos 3 ∷ [], true) ∷ [])
  pub ite_true : Yields e head.Ite [] (truth true ∷ whole (pos 1) ∷ whole (pos 2) ∷ []) (whole (pos 1))
  pub ite_false : Yields e head.Ite [] (truth false ∷ bits 8 1 ∷ bits 8 2 ∷ []) (bits 8 2)
