use Rattle.std.proofs.Common.{sym}
use Rattle.rare_bits.proofs.BitsLemmas.{bvand-bit_and}
use Rattle.rare_wide.proofs.bitwise.and.Goals as goal

pub returns : goal.returns
returns c = sym (bvand-bit_and c.args.width c.args.a c.args.b c.requires.first.below)
