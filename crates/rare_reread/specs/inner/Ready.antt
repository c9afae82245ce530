-- What the tests hold of the terms and the names that they write and read over.
use Rattle.std.specs.Prelude.{◌≡◌, ◌≤◌, length}
use Rattle.rare_sort.specs.DeclaredSorts.{widths}
use Rattle.rare_term.specs.State.{State}
use Rattle.rare_scope.specs.Names.{Held, AreMeant, symbol_names, width_names}

-- the names are those of these terms, and each symbol and each width has a name
pub record AreReady (s : State) (held : Held) : Type 0 where
  pub meant : AreMeant s held
  pub symbols : length s.declared.symbols ≤ length (symbol_names held)
  pub widths : widths s.declared ≤ length (width_names held)

-- a width name, a constant and a function are declared
pub record IsDeclared (s : State) : Type 0 where
  pub names : widths s.declared ≡ 1
  pub functions : length s.declared.symbols ≡ 2
