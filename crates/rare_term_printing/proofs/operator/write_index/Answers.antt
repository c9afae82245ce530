use Rattle.std.specs.Prelude.{codes}
use Rattle.rare_sexpr.specs.Written.{IsCut}
use Rattle.rare_scope.specs.Names.{width_names}
use Rattle.rare_scope.specs.Printing.{linear_text}
use Rattle.rare_scope.proofs.Cutting.{cut_behind, on_err}
use Rattle.rare_term_printing.specs.inner.Writing.{spaced_index}
use Rattle.rare_term_printing.proofs.operator.write_index.Goals as goal

pub returns-clause-err : goal.returns-clause-err
returns-clause-err c =
    let old = c.args.out.now in
    let mid = c.push.new.self in
    let new = c.write_linear.new.out in
    let text = linear_text (width_names c.args.scope.now) c.args.index.now in
    on_err c.write_linear.result (IsCut mid text new) (IsCut old (spaced_index c.args.scope.now c.args.index.now) new) c.write_linear.ensures.err
    (λ h. cut_behind old (codes " ") text mid new c.in_ok-push.ensures.ok h)
