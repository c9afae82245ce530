use Rattle.rare_inst.proofs.Applying.{hold_apply, mean_same}
use Rattle.rare_inst.proofs.laws.rules_that_hold_apply.Goals as goal

pub returns-clause-values : goal.returns-clause-values
returns-clause-values c = hold_apply

pub returns-clause-meanings : goal.returns-clause-meanings
returns-clause-meanings c = mean_same
