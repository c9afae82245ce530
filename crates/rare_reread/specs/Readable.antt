-- What is asked of names and of linear expressions so that their texts are read back as the same.
use Rattle.std.specs.Prelude.{◌≡◌, true, false, All}
use Rattle.std.specs.List.{list_all}
use Rattle.rare_linear.specs.Linears.{LinearExpression, IsNormal}
use Rattle.rare_linear.specs.PartialSums.{IsWithin}
use Rattle.rare_sexpr.specs.Bytes.{is_in_bars}
use Rattle.rare_scope.specs.Names.{Held, IsScope}
use Rattle.rare_scope.specs.Reserved.{is_among, is_theory_word, reserved_words}

-- names that differ, numbered in their order; each can stand between bars, and is neither a word of the theories nor a
-- reserved word
pub record IsReadable (held : Held) : Type 0 where
  pub scope : IsScope held
  pub symbols : All (λ n. list_all is_in_bars n.0 ≡ true) held
  pub words : All (λ n. is_theory_word n.0 ≡ false) held
  pub reserved : All (λ n. is_among reserved_words n.0 ≡ false) held

-- in normal form, and all its numbers are i128
pub record IsKeptLinear (e : LinearExpression) : Type 0 where
  pub normal : IsNormal e.parts
  pub within : IsWithin e
