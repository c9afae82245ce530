use Rattle.std.proofs.Common.{ℕ, sym, ◌∙◌, ap, subst, All, length}
use Rattle.std.proofs.lemmas.Result.{err_from_is_err_and}
use Rattle.rare_linear.specs.Linears.{NamesBelow}
use Rattle.rare_scope.specs.ConstraintText.{constraints_at}
use Rattle.rare_scope.specs.LinearText.{widths_held, AreBelow}
use Rattle.rare_scope.specs.Reading.{Read, go_on}
use Rattle.rare_scope.proofs.InOrder.{fails_on, goes_on}
use Rattle.rare_scope.proofs.SortSteps.{same_widths, widths_below}
use Rattle.rare_text.specs.ProblemText.{tested, assumption_of_widths}
use Rattle.rare_text.specs.Problems.{StatedProblem}
use Rattle.rare_text.specs.Stated.{stated_problem}
use Rattle.rare_text.specs.inner.Standing.{AnswersReader}
use Rattle.rare_text.proofs.assumptions.read_assumption.Goals as goal

pub returns-in_err-floors-clause-read : goal.returns-in_err-floors-clause-read
returns-in_err-floors-clause-read g c =
    let s = g.T.Terms.state c.args.terms.now in
    let p = c.args.reader.problem in
    let e = g.E.Expr.tree c.args.e.now in
    let x = g.E.Expr.tree c.args.c.now in
    let r = err_from_is_err_and c.from_residual.result c.from_residual.ensures.1 in
    rw (r.1, r.2) (fails_on c.in_err-floors.field-0.0 (constraints_at (widths_held p.scope) x) (tested (stated_problem s p) e x) (assumption_of_widths (stated_problem s p) e x)
    (ap (λ w. go_on (constraints_at w x) (tested (stated_problem s p) e x)) (same_widths s.trees p.scope)) c.in_err-floors.ensures.read)

pub with_tested_floors-requires-clause-named : goal.with_tested_floors-requires-clause-named
with_tested_floors-requires-clause-named g c =
    let s = g.T.Terms.state c.args.terms.now in
    let p = c.args.reader.problem in
    let n : ℕ = length p.samples in
    let below : AreBelow n (widths_held p.scope) = subst (λ (k : ℕ). AreBelow k (widths_held p.scope)) (sym c.requires.held.samples.one_each) (widths_below s p.scope c.requires.held.meant) in
    subst (All (λ f. NamesBelow n f.parts)) (sym c.items.ensures) (c.in_ok-floors.ensures.named n below)

pub returns-clause-read : goal.returns-clause-read
returns-clause-read g c =
    let s = g.T.Terms.state c.args.terms.now in
    let p = c.args.reader.problem in
    let e = g.E.Expr.tree c.args.e.now in
    let x = g.E.Expr.tree c.args.c.now in
    let whole = goes_on (constraints_at (widths_held p.scope) x) c.in_ok-floors.floors (tested (stated_problem s p) e x) (assumption_of_widths (stated_problem s p) e x)
    (ap (λ w. go_on (constraints_at w x) (tested (stated_problem s p) e x)) (same_widths s.trees p.scope)) c.in_ok-floors.ensures.read in
    let Q : Read StatedProblem → Type 0 = λ r. AnswersReader (g.T.Terms.state c.with_tested_floors.new.terms) c.with_tested_floors.result r in
    subst Q (ap (tested (stated_problem s p) e x) c.items.ensures ∙ sym whole) c.with_tested_floors.ensures.read
