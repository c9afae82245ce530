use Rattle.std.proofs.Common.{append_assoc, arith}
use Rattle.rare_laws_bvarith.proofs.lists.add_second.Goals as goal

pub returns : goal.returns
returns c = grind (arith, append_assoc)
