use Rattle.std.proofs.Common.{length}
use Rattle.rare_law_parts.proofs.terms.+walk.Given as goal

abbrev pub decreases-walk : goal.decreases-walk
decreases-walk l = length l.steps.now
