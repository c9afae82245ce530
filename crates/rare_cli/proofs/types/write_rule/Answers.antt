use Rattle.std.proofs.Common.{subst, sym}
use Rattle.rare_rule.specs.RuleSorting.{Types}
use Rattle.rare_rule.specs.declared.rule.Rule.{Rule}
use Rattle.rare_type.proofs.Numbers.{over_numbers}
use Rattle.rare_cli.proofs.types.write_rule.Goals as goal

pub write_constraints-requires-clause-names : goal.write_constraints-requires-clause-names
write_constraints-requires-clause-names c =
    let typing = subst (λ (r : Rule). Types r c.constraints.result.now) (sym c.rule-rule.ensures.rule) c.constraints.ensures.typing in
    over_numbers c.rule-rule.result.now c.constraints.result.now c.rule-rule.ensures.form typing
