-- The place behind bytes.
use Rattle.std.proofs.Common.{◌≡◌, ℕ, ◌+◌, ◌≤◌, List, drop}
use Rattle.rare_base.specs.declared.answers.Place.{Place}
use Rattle.rare_sexpr.specs.Bytes.{behind}

pub record IsBehind (bytes : List ℕ) (p : Place) (i : ℕ) (q : Place) : Type 0 where
  pub line : q.line ≤ p.line + i
  pub column : q.column ≤ p.column + i
  pub rest : behind q (drop i bytes) ≡ behind p bytes
