use Rattle.std.proofs.Common.{subst, sym}
use Rattle.std.specs.Prelude.{flat_map, IsTrue}
use Rattle.rare_linear.specs.Linears.{LinearExpression}
use Rattle.rare_sexpr.specs.Written.{IsCut}
use Rattle.rare_scope.proofs.Cutting.{cut_item, in_any}
use Rattle.rare_rule.specs.ParamForms.{are_numbers}
use Rattle.rare_rule_printing.specs.inner.RulePieces.{spaced_linear}
use Rattle.rare_rule_printing.proofs.ParamNumbers.{index_over}
use Rattle.rare_rule_printing.proofs.operator.write_indices.Goals as goal

pub write_index-requires : goal.write_index-requires
write_index-requires c =
    subst (λ (e : LinearExpression). IsTrue (are_numbers c.args.params.now e.parts)) (sym c.index-item.is)
    (index_over c.args.params.now c.args.indices.now c.loop-index.index-index c.index-item.result c.requires c.loop-index-test.true)

pub returns-in_err-write_index-clause-err : goal.returns-in_err-write_index-clause-err
returns-in_err-write_index-clause-err c =
    let new = c.write_index.new.out in
    let f = spaced_linear c.args.params.now in
    in_any c.from_residual.result (IsCut c.args.out.now (flat_map f c.args.indices.now) new)
    (cut_item f c.args.indices.now c.loop-index.index-index c.index-item.result c.args.out.now c.loop-index.out new c.loop-index-test.true c.loop-index.invariant
    (subst (λ (e : LinearExpression). IsCut c.loop-index.out (f e) new) c.index-item.is c.in_err-write_index.ensures.err))
