use Rattle.std.proofs.Common.{length}
use Rattle.rare_inst.proofs.PuttingSorts.{word_named}
use Rattle.rare_inst.proofs.elements.width_of_elements.Goals as goal

pub width_put-requires : goal.width_put-requires
width_put-requires c = word_named (length c.args.numbers.now.values) c.args.sort.now c.in-BitVec.width c.in-BitVec.is c.requires
