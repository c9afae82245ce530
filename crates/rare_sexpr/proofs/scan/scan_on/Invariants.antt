use Rattle.std.proofs.Common.{length, ◌-◌}
use Rattle.rare_sexpr.proofs.Scans.{HasScanned}
use Rattle.rare_sexpr.proofs.scan.scan_on.Given as goal

abbrev pub invariant-word : goal.invariant-word
invariant-word l = HasScanned l.word l.at l.fn.part l.i l.part

abbrev pub decreases-word : goal.decreases-word
decreases-word l = length l.word - l.i
