use Rattle.std.proofs.Common.{length}
use Rattle.rare_shipped.proofs.+add_rules.Given as goal

abbrev pub decreases-add_rules : goal.decreases-add_rules
decreases-add_rules l = length l.rules
