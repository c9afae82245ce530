use Rattle.std.proofs.Common.{sym}
use Rattle.rare_bits.proofs.ModularLemmas.{shr_past}
use Rattle.rare_wide.proofs.shifts.shifted_right.Goals as goal

pub returns-else-places-width : goal.returns-else-places-width
returns-else-places-width c = sym (shr_past c.args.width c.args.a c.args.places c.requires.below c.if-places-width.false)
