-- That a rule of a book holds.
use Rattle.std.specs.Prelude.{◌≡◌, ℕ, List, Some}
use Rattle.rare_meaning.specs.Interpretations.{FunctionClass}
use Rattle.rare_rule.specs.Books.{BookRule, typed_at}
use Rattle.rare_rule.specs.Holds.{Holds}
use Rattle.rare_rule.specs.TypedRule.{TypedRule}

-- rule k of the book holds, by the functions of the class
abbrev pub HoldsAt : FunctionClass → List BookRule → ℕ → Type 0
HoldsAt c book k = (t : TypedRule) → typed_at book k ≡ Some t → Holds c t.rule t.constraints
