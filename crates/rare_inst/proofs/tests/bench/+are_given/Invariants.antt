use Rattle.std.proofs.Common.{length}
use Rattle.rare_inst.proofs.tests.bench.+are_given.Given as goal

abbrev pub decreases-are_given : goal.decreases-are_given
decreases-are_given l = length l.args.now
