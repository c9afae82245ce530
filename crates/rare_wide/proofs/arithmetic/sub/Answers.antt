use Rattle.std.proofs.Common.{◌∙◌, arith}
use Rattle.rare_bits.proofs.ModularLemmas.{difference_shorter}
use Rattle.rare_wide.proofs.arithmetic.sub.Goals as goal

pub returns : goal.returns
returns c = c.reduce.ensures ∙ difference_shorter c.args.a c.args.b c.args.width 128 c.requires.first.high (omega arith)
