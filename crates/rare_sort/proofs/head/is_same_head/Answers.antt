use Rattle.std.proofs.Common.{rules, refl, sym, ◌∙◌}
use Rattle.rare_sort.specs.contracts.head.Head.{enum}
use Rattle.rare_sort.proofs.DerivedEquality.{tells_apart, same_is}
use Rattle.rare_sort.proofs.head.is_same_head.Goals as goal

pub returns : goal.returns
returns c = (λ t. tells_apart enum _ (search rules) _ _ (sym c.eq.ensures ∙ t), λ e. c.eq.ensures ∙ same_is enum _ refl (search rules) _ _ e)
