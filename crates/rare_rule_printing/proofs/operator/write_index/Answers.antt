use Rattle.std.specs.Prelude.{codes}
use Rattle.rare_sexpr.specs.Written.{IsCut}
use Rattle.rare_scope.specs.Printing.{linear_text_by}
use Rattle.rare_scope.proofs.Cutting.{cut_behind, on_err}
use Rattle.rare_rule_printing.specs.ConstraintPrinting.{number_text}
use Rattle.rare_rule_printing.specs.inner.RulePieces.{spaced_linear}
use Rattle.rare_rule_printing.proofs.ParamNumbers.{names_below}
use Rattle.rare_rule_printing.proofs.operator.write_index.Goals as goal

pub write_linear_over-requires : goal.write_linear_over-requires
write_linear_over-requires c = names_below c.args.params.now c.args.index.now.parts c.requires

pub returns-clause-err : goal.returns-clause-err
returns-clause-err c =
    let text = linear_text_by (number_text c.args.params.now) c.args.index.now in
    on_err c.write_linear_over.result (IsCut c.push.new.self text c.write_linear_over.new.out) (IsCut c.args.out.now (spaced_linear c.args.params.now c.args.index.now) c.write_linear_over.new.out) c.write_linear_over.ensures.err
    (λ h. cut_behind c.args.out.now (codes " ") text c.push.new.self c.write_linear_over.new.out c.in_ok-push.ensures.ok h)
