use Rattle.std.proofs.Common.{◌*◌, ◌^◌, sym, ◌∙◌}
use Rattle.rare_bits.proofs.ModularLemmas.{mod-mod_shorter, shl_past}
use Rattle.rare_wide.proofs.shifts.shifted_left.Goals as goal

pub returns-then-places-width : goal.returns-then-places-width
returns-then-places-width c = c.reduce.ensures ∙ mod-mod_shorter (c.args.a * 2 ^ c.args.places) c.args.width 128 c.requires.high

pub returns-else-places-width : goal.returns-else-places-width
returns-else-places-width c = sym (shl_past c.args.width c.args.a c.args.places c.if-places-width.false)
