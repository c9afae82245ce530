-- Operators with indices that terms can be made of.
use Rattle.std.specs.Prelude.{length}
use Rattle.rare_sort.specs.DeclaredSorts.{widths, AreNamed, IsSymbol}
use Rattle.rare_sort.specs.Families.{family}
use Rattle.rare_sort.specs.declared.declarations.Declarations.{Declarations}
use Rattle.rare_term.specs.Literals.{IsGiven}
use Rattle.rare_operators.specs.declared.head.IndexedHead.{IndexedHead}

-- its symbol and the names of its indices are declared
pub record IsDeclaredHead (d : Declarations) (a : IndexedHead) : Type 0 where
  pub symbol : IsSymbol (length d.symbols) (family a.head)
  pub indices : AreNamed (widths d) a.indices
  pub bits : IsGiven a.head a.indices
