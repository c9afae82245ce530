use Rattle.std.proofs.Common.{sym}
use Rattle.rare_bits.proofs.BitsLemmas.{bvxor-bit_xor}
use Rattle.rare_wide.proofs.bitwise.xor.Goals as goal

pub returns : goal.returns
returns c = sym (bvxor-bit_xor c.args.width c.args.a c.args.b c.requires.first.below c.requires.second.below)
