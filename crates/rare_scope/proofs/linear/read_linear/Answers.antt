use Rattle.std.proofs.Common.{length}
use Rattle.rare_scope.specs.Names.{width_names}
use Rattle.rare_scope.proofs.linear.read_linear.Goals as goal

pub returns-clause-below : goal.returns-clause-below
returns-clause-below g c = c.read_linear_over.ensures.named (length (width_names c.args.scope.now)) c.width_count.ensures.below
