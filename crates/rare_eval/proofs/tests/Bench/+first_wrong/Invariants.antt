use Rattle.std.proofs.Common.{length}
use Rattle.rare_eval.proofs.tests.Bench.+first_wrong.Given as goal

abbrev pub decreases-first_wrong : goal.decreases-first_wrong
decreases-first_wrong g l = length l.rows.now
