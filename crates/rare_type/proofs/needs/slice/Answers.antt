use Rattle.std.proofs.Common.{ap, sym, ◌∙◌, Ok}
use Rattle.rare_type.proofs.Sorts.{three_bounded}
use Rattle.rare_type.proofs.needs.slice.Goals as goal

pub returns : goal.returns
returns c = three_bounded _ _ _ _ _ c.constant_of-i.ensures.within c.in_ok-span.ensures c.in_ok-rest.ensures ∙ ap Ok (sym c.in_ok-list_of.ensures)
