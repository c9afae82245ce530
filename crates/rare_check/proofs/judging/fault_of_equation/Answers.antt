use Rattle.std.proofs.Common.{Some, ap, sym, ◌∙◌}
use Rattle.rare_proof.proofs.Premises.{step_at}
use Rattle.rare_proof.specs.Sided.{equation_of}
use Rattle.rare_proof.specs.Steps.{needs}
use Rattle.rare_proof.specs.declared.fault.StepFault.TheVariants.{OtherEquation}
use Rattle.rare_check.specs.Verdicts.{equation_fault}
use Rattle.rare_check.proofs.Judgements.{named_none, named_some, place_is_step}
use Rattle.rare_check.proofs.judging.fault_of_equation.Goals as goal

pub returns-in_default : goal.returns-in_default
returns-in_default g c =
    let ts = (g.T.Terms.state c.args.terms.now).trees in
    sym (ap (equation_fault (Some (equation_of ts c.args.rewrite))) (named_none (g.T.Terms.state c.args.terms.now) c.args.book.now c.args.judged.now c.requires.judged c.args.id.now (sym c.place_of.ensures ∙ c.in_default.is)))

pub step-step-requires : goal.step-step-requires
step-step-requires g c = place_is_step (g.T.Terms.state c.args.terms.now) c.args.book.now c.args.judged.now c.requires.judged c.args.id.now c.in-Some.place (sym c.place_of.ensures ∙ c.in-Some.is)

pub same_equation-requires-clause-a : goal.same_equation-requires-clause-a
same_equation-requires-clause-a g c =
    let h = step_at (g.T.Terms.state c.args.terms.now) c.args.judged.now.proof c.in-Some.place c.step-step.result.now c.requires.judged.proof.are c.step-step.ensures in
    record { left = h.left; right = h.right }

pub returns-then-same_equation : goal.returns-then-same_equation
returns-then-same_equation g c =
    let ts = (g.T.Terms.state c.args.terms.now).trees in
    sym (ap (equation_fault (Some (equation_of ts c.args.rewrite))) (named_some (g.T.Terms.state c.args.terms.now) c.args.book.now c.args.judged.now c.requires.judged c.args.id.now c.in-Some.place c.step-step.result.now (sym c.place_of.ensures ∙ c.in-Some.is) c.step-step.ensures)
    ∙ ap (λ b. needs b OtherEquation) (sym c.same_equation.ensures ∙ c.if-same_equation.true))

pub returns-else-same_equation : goal.returns-else-same_equation
returns-else-same_equation g c =
    let ts = (g.T.Terms.state c.args.terms.now).trees in
    sym (ap (equation_fault (Some (equation_of ts c.args.rewrite))) (named_some (g.T.Terms.state c.args.terms.now) c.args.book.now c.args.judged.now c.requires.judged c.args.id.now c.in-Some.place c.step-step.result.now (sym c.place_of.ensures ∙ c.in-Some.is) c.step-step.ensures)
    ∙ ap (λ b. needs b OtherEquation) (sym c.same_equation.ensures ∙ c.if-same_equation.false))
