use Rattle.std.proofs.Common.{length, ◌-◌}
use Rattle.rare_sexpr.specs.inner.Gaps.{HasSkipped}
use Rattle.rare_sexpr.proofs.gaps.skip_gap.Given as goal

abbrev pub invariant-steps : goal.invariant-steps
invariant-steps l = HasSkipped l.bytes l.from l.fn.place l.fn.in_comment l.gap.at l.gap.place l.gap.in_comment

abbrev pub decreases-steps : goal.decreases-steps
decreases-steps l = length l.bytes - l.gap.at
