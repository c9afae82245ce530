use Rattle.std.proofs.Common.{◌≡◌, sym}
use Rattle.rare_sort.proofs.NeedsLemmas.{width_fine}
use Rattle.rare_sort.proofs.forming.declared_width.Goals as goal

pub returns-in-Some-clause-named : goal.returns-in-Some-clause-named
returns-in-Some-clause-named c = (width_fine c.args.declared.now c.args.sort.now c.in-Some.m.now c.requires (sym c.in-Some.ensures)).named

pub returns-in-Some-clause-least : goal.returns-in-Some-clause-least
returns-in-Some-clause-least c = (width_fine c.args.declared.now c.args.sort.now c.in-Some.m.now c.requires (sym c.in-Some.ensures)).least
