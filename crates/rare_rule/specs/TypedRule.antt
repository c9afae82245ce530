-- A rule with the constraints that its typing gives.
use Rattle.std.specs.Prelude.{List}
use Rattle.rare_linear.specs.declared.constraint.Constraint.{Constraint}
use Rattle.rare_rule.specs.Rules.{IsInForm}
use Rattle.rare_rule.specs.RuleSorting.{Types}
use Rattle.rare_rule.specs.declared.rule.Rule.{Rule}

pub record TypedRule : Type 0 where
  pub rule : Rule
  pub constraints : List Constraint

-- the rule is in form, and its typing gives these constraints
pub record IsTypedRule (t : TypedRule) : Type 0 where
  pub form : IsInForm t.rule
  pub typing : Types t.rule t.constraints
