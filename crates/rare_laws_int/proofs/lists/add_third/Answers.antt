use Rattle.std.proofs.Common.{append_assoc, arith}
use Rattle.rare_laws_int.proofs.lists.add_third.Goals as goal

pub returns : goal.returns
returns c = grind (arith, append_assoc)
