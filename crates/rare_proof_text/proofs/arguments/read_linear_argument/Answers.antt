use Rattle.std.proofs.Common.{Ok, ap, ◌∙◌}
use Rattle.std.proofs.lemmas.Result.{err_from_is_err_and}
use Rattle.rare_linear.specs.Linears.{LinearExpression}
use Rattle.rare_sort.specs.DeclaredSorts.{widths}
use Rattle.rare_scope.proofs.InOrder.{fails_on}
use Rattle.rare_scope.proofs.SortSteps.{same_widths, widths_below}
use Rattle.rare_scope.specs.LinearText.{linear_at, widths_held}
use Rattle.rare_scope.specs.Names.{names_of}
use Rattle.rare_scope.specs.Reading.{Read, go_on}
use Rattle.rare_rule.specs.declared.param.ParamKind.TheVariants as kind
use Rattle.rare_inst.specs.Arguments.{Argument, OfLinear}
use Rattle.rare_proof_text.specs.ArgumentText.{argument_at}
use Rattle.rare_proof_text.proofs.arguments.read_linear_argument.Goals as goal

pub returns-in_err-read_linear-clause-read : goal.returns-in_err-read_linear-clause-read
returns-in_err-read_linear-clause-read g c =
    let s = g.T.Terms.state c.args.terms.now in
    let e = g.E.Expr.tree c.args.e.now in
    let held = c.args.scope.now in
    let give = λ (l : LinearExpression). let r : Read Argument = Ok (OfLinear l) in r in
    let p = err_from_is_err_and c.from_residual.result c.from_residual.ensures.1 in
    rw (p.1, p.2) (fails_on c.in_err-read_linear.field-0.0 (linear_at (widths_held held) e) give (argument_at s.declared (names_of s.trees held) kind.Width e)
    (ap (λ w. go_on (linear_at w e) give) (same_widths s.trees held)) c.in_err-read_linear.ensures.read)

pub returns-clause-read : goal.returns-clause-read
returns-clause-read g c =
    let s = g.T.Terms.state c.args.terms.now in
    let e = g.E.Expr.tree c.args.e.now in
    let held = c.args.scope.now in
    let give = λ (l : LinearExpression). let r : Read Argument = Ok (OfLinear l) in r in
    ap (λ w. go_on (linear_at w e) give) (same_widths s.trees held) ∙ ap (λ r. go_on r give) c.in_ok-read_linear.ensures.read

pub returns-clause-given : goal.returns-clause-given
returns-clause-given g c =
    let s = g.T.Terms.state c.args.terms.now in
    c.in_ok-read_linear.ensures.named (widths s.declared) (widths_below s c.args.scope.now c.requires)
