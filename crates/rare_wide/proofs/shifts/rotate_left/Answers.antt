use Rattle.rare_bits.proofs.PartsLemmas.{rotate_left-or}
use Rattle.rare_wide.proofs.shifts.rotate_left.Goals as goal

pub returns : goal.returns
returns c = rw (c.shifted_left.ensures, c.shifted_right.ensures) (rotate_left-or c.args.width c.args.by c.args.a c.requires.low c.requires.below)
