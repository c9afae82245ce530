use Rattle.std.proofs.Common.{length}
use Rattle.rare_inst.proofs.tests.bench.+are_up_to.Given as goal

abbrev pub decreases-are_up_to : goal.decreases-are_up_to
decreases-are_up_to l = length l.args.now
