use Rattle.rare_inst.proofs.Starting.{is_typed}
use Rattle.rare_inst.proofs.instance.rule_of.Goals as goal

pub returns-clause-typed : goal.returns-clause-typed
returns-clause-typed c =
    is_typed c.args.rule.now c.rule.result.now c.constraints-constraints.result.now c.rule.ensures.rule c.rule.ensures.form c.constraints-constraints.ensures.constraints c.constraints-constraints.ensures.typing
