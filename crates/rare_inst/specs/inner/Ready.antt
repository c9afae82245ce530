-- What the tests hold of the terms that they make: one symbol and no width name is declared, and the last id is one of the terms.
use Rattle.std.specs.Prelude.{◌≡◌, ℕ, ◌<◌, length}
use Rattle.rare_sort.specs.DeclaredSorts.{widths}
use Rattle.rare_term.specs.State.{State}

pub record IsReady (s : State) (last : ℕ) : Type 0 where
  pub names : widths s.declared ≡ 0
  pub symbols : length s.declared.symbols ≡ 1
  pub known : last < length s.trees
