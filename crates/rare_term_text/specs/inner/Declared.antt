-- What the tests hold of the terms and the names that they read over.
use Rattle.std.specs.Prelude.{◌≡◌, ℕ, ◌<◌, length}
use Rattle.rare_sort.specs.DeclaredSorts.{widths}
use Rattle.rare_term.specs.State.{State}

-- a sort, a width name, a constant and a function are declared, and a term has this id
pub record HasDeclared (s : State) (id : ℕ) : Type 0 where
  pub sorts : s.declared.sorts ≡ 1
  pub names : widths s.declared ≡ 1
  pub functions : length s.declared.symbols ≡ 2
  pub known : id < length s.trees
