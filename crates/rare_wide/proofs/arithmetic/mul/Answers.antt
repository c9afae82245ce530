use Rattle.std.proofs.Common.{◌*◌, ◌∙◌}
use Rattle.rare_bits.proofs.ModularLemmas.{mod-mod_shorter}
use Rattle.rare_wide.proofs.arithmetic.mul.Goals as goal

pub returns : goal.returns
returns c = c.reduce.ensures ∙ mod-mod_shorter (c.args.a * c.args.b) c.args.width 128 c.requires.first.high
