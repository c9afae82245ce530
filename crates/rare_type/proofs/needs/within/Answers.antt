use Rattle.std.proofs.Common.{[], ◌∷◌, ap, sym, ◌∙◌, Ok}
use Rattle.rare_type.proofs.Sorts.{index_bounded}
use Rattle.rare_type.proofs.needs.within.Goals as goal

pub returns : goal.returns
returns c = index_bounded c.args.e.now c.constant_of-e.ensures.within ∙ ap Ok (sym (c.in_ok-only.ensures ∙ ap (λ e. e ∷ []) c.in_ok-copy.ensures))
