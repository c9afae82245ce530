use Rattle.rare_inst.proofs.Starting.{left_is_tree}
use Rattle.rare_inst.proofs.instance.left_instance.Goals as goal

pub part_instance-requires-clause-tree : goal.part_instance-requires-clause-tree
part_instance-requires-clause-tree g c = left_is_tree c.args.rule.now c.rule_of-parts.ensures.typed c.rule_of-parts.result.now c.rule_of-parts.ensures.rule
