use Rattle.std.proofs.Common.{◌≡◌, ◌++◌, ◌∙◌}
use Rattle.std.specs.Prelude.{codes}
use Rattle.rare_sexpr.specs.Written.{IsCut}
use Rattle.rare_scope.specs.Printing.{linear_text_by}
use Rattle.rare_rule_printing.specs.ConstraintPrinting.{number_text, constraint_text}
use Rattle.rare_scope.proofs.Cutting.{cut_front, cut_behind, cut_here, in_any, on_err}
use Rattle.rare_rule_printing.proofs.ParamNumbers.{names_below}
use Rattle.rare_rule_printing.proofs.constraint.write_constraint.Goals as goal

pub write_linear_over-requires : goal.write_linear_over-requires
write_linear_over-requires c = names_below c.args.params.now c.args.constraint.now.floor.parts c.requires

pub returns-in_err-write_linear_over-clause-err : goal.returns-in_err-write_linear_over-clause-err
returns-in_err-write_linear_over-clause-err c =
    let old = c.args.out.now in
    let text = linear_text_by (number_text c.args.params.now) c.args.constraint.now.floor in
    let new = c.write_linear_over.new.out in
    in_any c.from_residual-in_err-write_linear_over.result (IsCut old (constraint_text c.args.params.now c.args.constraint.now) new)
    (cut_behind old (codes "(>= ") (text ++ codes " 0)") c.append.new.self new c.in_ok-append.ensures.ok (cut_front c.append.new.self text (codes " 0)") new c.in_err-write_linear_over.ensures.err))

pub returns-clause-err : goal.returns-clause-err
returns-clause-err c =
    let old = c.args.out.now in
    let text = linear_text_by (number_text c.args.params.now) c.args.constraint.now.floor in
    let new = c.append-2.new.self in
    on_err c.append-2.result (new ≡ c.write_linear_over.new.out) (IsCut old (constraint_text c.args.params.now c.args.constraint.now) new) c.append-2.ensures.err
    (λ h. cut_behind old (codes "(>= ") (text ++ codes " 0)") c.append.new.self new c.in_ok-append.ensures.ok (cut_here c.append.new.self text (codes " 0)") new (h ∙ c.in_ok-write_linear_over.ensures.ok)))
