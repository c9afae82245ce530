use Rattle.std.proofs.Common.{length, ◌-◌}
use Rattle.rare_sexpr.specs.inner.Scan.{is_inside}
use Rattle.rare_sexpr.specs.inner.Scan.{IsRun}
use Rattle.rare_sexpr.proofs.scan.string_run.Given as goal

abbrev pub invariant-run : goal.invariant-run
invariant-run l = IsRun is_inside l.word l.at l.i

abbrev pub decreases-run : goal.decreases-run
decreases-run l = length l.word - l.i
