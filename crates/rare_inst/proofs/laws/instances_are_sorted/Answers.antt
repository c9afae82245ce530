use Rattle.rare_inst.proofs.SortedInstances.{instances_sorted}
use Rattle.rare_inst.proofs.laws.instances_are_sorted.Goals as goal

pub returns : goal.returns
returns c = instances_sorted
