use Rattle.std.proofs.Common.{sym, ◌∙◌, ap}
use Rattle.std.proofs.lemmas.Int.{to_z-of_z}
use mir.Syntax.{w128}
use lib.Pointwise.{pointwise}
use Rattle.rare_linear.specs.Linears.{LinearExpression}
use Rattle.rare_linear.proofs.Sameness.{pair_eq, same_parts}
use Rattle.rare_linear.proofs.linear.Linear.is_same.Goals as goal

pub returns-then-is_same_number : goal.returns-then-is_same_number
returns-then-is_same_number c =
    let view = ap (λ (z : LinearExpression). z.constant) c.self.view_is in
    let other = ap (λ (z : LinearExpression). z.constant) c.other.view_is in
    let parts = ap (λ (z : LinearExpression). z.parts) c.self.view_is in
    let more = ap (λ (z : LinearExpression). z.parts) c.other.view_is in
    same_parts c.args.self.now c.args.other.now c.eq.result (sym view ∙ sym (to_z-of_z w128 c.self.inside.constant c.self.invariant.2) ∙ c.is_same_number.ensures.0 c.if-is_same_number.true ∙ to_z-of_z w128 c.other.inside.constant c.other.invariant.2 ∙ other)
    (c.eq.ensures ∙ (λ i. pointwise pair_eq ((c.as_slice.ensures.value ∙ parts) i) ((c.as_slice-then-is_same_number.ensures.value ∙ more) i)))
