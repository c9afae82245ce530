use Rattle.std.proofs.Common.{length}
use Rattle.rare_law_parts.proofs.terms.+plus.Given as goal

abbrev pub decreases-plus : goal.decreases-plus
decreases-plus l = length l.parts.now
