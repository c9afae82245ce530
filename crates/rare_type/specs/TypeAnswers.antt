-- How the result of typing a rule goes with its typing.
use Rattle.std.specs.Prelude.{◌≡◌, Result, Ok, Err}
use Rattle.rare_rule.specs.TypedRule.{TypedRule}
use Rattle.rare_rule.specs.declared.rule.Rule.{Rule}
use Rattle.rare_type.specs.FirstCase.{rule_typing}
use Rattle.rare_type.specs.declared.error.TypeError.{TypeError}
use Rattle.rare_type.specs.declared.error.TypeError.TheVariants as case

-- the case is the first that the rule has; want of memory is free
abbrev pub IsFirstCase : Rule → TypeError → Type 0
IsFirstCase r case.Memory = Unit {0}
IsFirstCase r c = rule_typing r ≡ Err c

-- the rule with its constraints, or its first case
abbrev pub AnswersTyping : Rule → Result TypedRule TypeError → Type 0
AnswersTyping r (Ok t) = (t.rule ≡ r) × (rule_typing r ≡ Ok t.constraints)
AnswersTyping r (Err c) = IsFirstCase r c
