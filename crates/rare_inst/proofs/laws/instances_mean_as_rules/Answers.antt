use Rattle.rare_inst.proofs.Applying.{mean_as_rules}
use Rattle.rare_inst.proofs.laws.instances_mean_as_rules.Goals as goal

pub returns : goal.returns
returns c = mean_as_rules
