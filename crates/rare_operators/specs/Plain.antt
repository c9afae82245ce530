-- Operators that are no declared symbols, no literals of given value and stand in no rules alone.
use Rattle.std.specs.Prelude.{◌≡◌, ℕ, List, []}
use Rattle.rare_linear.specs.Linears.{LinearExpression}
use Rattle.rare_sort.specs.DeclaredSorts.{IsSymbol}
use Rattle.rare_sort.specs.Families.{family}
use Rattle.rare_sort.specs.declared.head.Head.{Head}
use Rattle.rare_term.specs.Literals.{IsGiven}
use Rattle.rare_operators.specs.declared.head.IndexedHead.{IndexedHead}
use Rattle.rare_operators.specs.declared.words.WordUse.{WordUse}
use Rattle.rare_operators.specs.declared.words.WordUse.TheVariants.{Constant, Difference, Plain}

pub record IsPlain (h : Head) : Type 0 where
  pub symbol : (n : ℕ) → IsSymbol n (family h)
  pub bits : (ix : List LinearExpression) → IsGiven h ix

abbrev pub IsPlainUse : WordUse → Type 0
IsPlainUse (Constant h) = IsPlain h
IsPlainUse (Plain h) = IsPlain h
IsPlainUse Difference = Unit {0}

-- a plain operator without indices
pub record IsBare (a : IndexedHead) : Type 0 where
  pub plain : IsPlain a.head
  pub none : a.indices ≡ []
