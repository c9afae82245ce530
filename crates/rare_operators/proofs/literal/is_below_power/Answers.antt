use Rattle.std.proofs.Common.{sym}
use Rattle.rare_operators.proofs.LiteralSteps.{below_wide}
use Rattle.rare_operators.proofs.literal.is_below_power.Goals as goal

pub returns-then-width-ge128 : goal.returns-then-width-ge128
returns-then-width-ge128 c = sym (below_wide c.args.value c.args.width c.ranges.value.fits c.if-width-ge128.true)
