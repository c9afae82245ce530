use Rattle.std.proofs.Common.{◌∙◌, sym, ap, subst, length, List, Option}
use Rattle.std.specs.Option.{option_map}
use Rattle.rare_proof.specs.declared.sides.Sides.{Sides}
use Rattle.rare_proof.specs.declared.fault.StepFault.{StepFault}
use Rattle.rare_proof.specs.Proofs.{Judges, concluded_by, stated_step}
use Rattle.rare_proof.specs.Sided.{AllAreSides, equations_of}
use Rattle.rare_proof.specs.Steps.{conditions, equations_at, first_failing, rule_fault}
use Rattle.rare_proof.proofs.proof.Proof.test.Goals as goal

pub test_by_rule-requires-clause-premises : goal.test_by_rule-requires-clause-premises
test_by_rule-requires-clause-premises g c =
    let old = g.T.Terms.state c.args.terms.now in
    let n = length old.trees in
    let ids : AllAreSides n c.in-Some.premises = rw c.in-Some.is at (c.in_ok-premises.ensures.ids old c.requires.steps) in
    let P : List Sides → Type 0 = λ xs. AllAreSides n xs in
    subst P (sym c.items-in-Some.ensures) ids

pub returns-in-None-clause-judged : goal.returns-in-None-clause-judged
returns-in-None-clause-judged g c =
    let old = g.T.Terms.state c.args.terms.now in
    let s = stated_step old.trees c.args.step.now in
    sym (ap (rule_fault old.declared c.args.book.now s.rule s.concluded)
    (ap (option_map (equations_of old.trees)) (sym c.in-None.is) ∙ c.in_ok-premises.ensures.found old.trees ∙ ap (equations_at (concluded_by old.trees c.args.self.now)) c.items.ensures))

pub returns-in-Some-clause-judged : goal.returns-in-Some-clause-judged
returns-in-Some-clause-judged g c =
    let old = g.T.Terms.state c.args.terms.now in
    let ts = old.trees in
    let s = stated_step ts c.args.step.now in
    let P : Option StepFault → Type 0 = λ x. Judges x c.test_by_rule.result in
    let premises = ap (option_map (equations_of ts)) (sym c.in-Some.is) ∙ c.in_ok-premises.ensures.found ts ∙ ap (equations_at (concluded_by ts c.args.self.now)) c.items.ensures in
    let items = ap (λ ps. first_failing (conditions old.declared c.args.book.now s.rule s.concluded.left s.concluded.right (equations_of ts ps))) c.items-in-Some.ensures in
    subst P (items ∙ ap (rule_fault old.declared c.args.book.now s.rule s.concluded) premises) c.test_by_rule.ensures.judged
