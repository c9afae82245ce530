use Rattle.std.proofs.Common.{◌≡◌, sym}
use Rattle.rare_sort.proofs.NeedsLemmas.{width_fine}
use Rattle.rare_sort.proofs.joins.sum_with_width.Goals as goal

pub returns-in_ok-next-in-Some-clause-named : goal.returns-in_ok-next-in-Some-clause-named
returns-in_ok-next-in-Some-clause-named c =
    c.in_ok-next-in-Some.ensures.named _ c.requires.sum (width_fine c.args.declared.now c.args.sort.now c.in-Some.m.now c.requires.sort (sym c.in-Some.ensures)).named
