-- How one command's rule is added.
use Rattle.std.specs.Prelude.{◌≡◌, false, List, [], ◌∷◌, ◌++◌, Result, Ok, Err}
use Rattle.rare_base.specs.declared.answers.Fault.{Fault}
use Rattle.rare_sexpr.specs.declared.tree.Sexpr.{Sexpr}
use Rattle.rare_scope.specs.Answers.{Fails}
use Rattle.rare_rule.specs.Books.{BookRule, book_rule}
use Rattle.rare_rule.specs.TypedRule.{TypedRule}
use Rattle.rare_book.specs.RuleFile.{rule_for}

-- the rule is added, or the book stays
abbrev pub AddsRule : List BookRule → Sexpr → Result (Unit {0}) Fault → List BookRule → Type 0
AddsRule old e (Ok x) new = (t : TypedRule) × (rule_for old e ≡ Ok t) × (new ≡ old ++ book_rule t false ∷ [])
AddsRule old e (Err f) new = Fails f (rule_for old e) × (new ≡ old)
