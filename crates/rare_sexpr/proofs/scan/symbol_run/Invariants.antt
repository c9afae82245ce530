use Rattle.std.proofs.Common.{length, ◌-◌}
use Rattle.rare_sexpr.specs.Bytes.{is_symbol_byte}
use Rattle.rare_sexpr.specs.inner.Scan.{IsRun}
use Rattle.rare_sexpr.proofs.scan.symbol_run.Given as goal

abbrev pub invariant-run : goal.invariant-run
invariant-run l = IsRun is_symbol_byte l.word l.at l.i

abbrev pub decreases-run : goal.decreases-run
decreases-run l = length l.word - l.i
