use Rattle.std.proofs.Common.{sym}
use Rattle.rare_bits.proofs.BitsLemmas.{bvnot-sub}
use Rattle.rare_wide.proofs.bitwise.not.Goals as goal

pub returns : goal.returns
returns c = rw c.ones.ensures (sym (bvnot-sub c.args.width c.args.a c.requires.below))
