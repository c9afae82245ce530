use Rattle.std.proofs.Common.{length, ◌-◌}
use Rattle.rare_sexpr.specs.inner.Gaps.{is_in_comment}
use Rattle.rare_sexpr.specs.inner.Scan.{IsRun}
use Rattle.rare_sexpr.proofs.gaps.comment_run.Given as goal

abbrev pub invariant-run : goal.invariant-run
invariant-run l = IsRun is_in_comment l.bytes l.at l.i

abbrev pub decreases-run : goal.decreases-run
decreases-run l = length l.bytes - l.i
