use Rattle.std.proofs.Common.{sym}
use Rattle.rare_bits.proofs.BitsLemmas.{bvor-bit_or}
use Rattle.rare_wide.proofs.bitwise.or.Goals as goal

pub returns : goal.returns
returns c = sym (bvor-bit_or c.args.width c.args.a c.args.b c.requires.first.below c.requires.second.below)
