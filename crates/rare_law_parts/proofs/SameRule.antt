-- What is known of a rule's typing is known of an equal rule's.
use Rattle.std.proofs.Common.{◌≡◌, List, sym, subst}
use Rattle.rare_linear.specs.declared.constraint.Constraint.{Constraint}
use Rattle.rare_rule.specs.RuleSorting.{Types}
use Rattle.rare_rule.specs.declared.rule.Rule.{Rule}

pub types_as : (r s : Rule) (cs ds : List Constraint) → r ≡ s → cs ≡ ds → Types s ds → Types r cs
types_as r s cs ds p q h = subst (λ x. Types x cs) (sym p) (subst (Types s) (sym q) h)
