use Rattle.rare_inst.proofs.LiteralTests.{below_wide}
use Rattle.rare_inst.proofs.literals.is_below_power.Goals as goal

pub returns-then-width-ge128 : goal.returns-then-width-ge128
returns-then-width-ge128 c = below_wide c.args.n c.args.width c.ranges.n.fits c.if-width-ge128.true
