-- What is written of a rule that was read is read back as that rule.
use Rattle.std.specs.Prelude.{◌≡◌, ℕ, Ok}
use Rattle.rare_sexpr.specs.declared.tree.Sexpr.{Sexpr}
use Rattle.rare_rule.specs.declared.rule.Rule.{Rule}
use Rattle.rare_parse.specs.RuleText.{rule_at}
use Rattle.rare_rule_printing.specs.RulePrinting.{rule_text}
use Rattle.rare_reread.specs.ReadsAs.{ReadsAs}
use Rattle.rare_rule_reread.specs.Spelled.{IsSpelled}

-- how many lists are nested in what is written of a rule, at most: sorts nest up to 1,000, and terms of a rule up to 256
abbrev pub MOST_RULE_LISTS : ℕ
MOST_RULE_LISTS = 1010

-- a rule that was read from an expression that some text spells
abbrev pub RuleIsReadBack : Type 0
RuleIsReadBack = (e : Sexpr) (r : Rule) → IsSpelled e → rule_at e ≡ Ok r → ReadsAs MOST_RULE_LISTS (rule_text r) (λ x. rule_at x ≡ Ok r)
