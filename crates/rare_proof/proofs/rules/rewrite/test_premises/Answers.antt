use Rattle.std.proofs.Common.{rules, ◌≡◌, ◌∙◌, Err, Option, Result, sym, subst}
use Rattle.rare_inst.specs.Arguments.{arguments_of}
use Rattle.rare_proof.specs.declared.fault.AddError.{AddError}
use Rattle.rare_proof.specs.declared.fault.StepFault.{StepFault}
use Rattle.rare_proof.specs.Proofs.{Judges}
use Rattle.rare_proof.specs.Sided.{equations_of}
use Rattle.rare_proof.specs.Steps.{first_failing, premise_conditions}
use Rattle.rare_proof.proofs.Growing.{are_given, grows_on}
use Rattle.rare_proof.proofs.Rewriting.{admitted_kept, premise_fails, premise_holds}
use Rattle.rare_proof.proofs.rules.rewrite.test_premises.Goals as goal

pub test_premise-requires-clause-args : goal.test_premise-requires-clause-args
test_premise-requires-clause-args g c =
    are_given (g.T.Terms.state c.args.terms.now) (g.T.Terms.state c.loop-k.terms) c.loop-k.invariant.grows c.args.args.now c.requires.args

pub test_premise-requires-clause-admitted : goal.test_premise-requires-clause-admitted
test_premise-requires-clause-admitted g c =
    admitted_kept (g.T.Terms.state c.args.terms.now) (g.T.Terms.state c.loop-k.terms) c.loop-k.invariant.grows c.args.rule.now c.args.args.now c.requires.args c.requires.admitted

pub returns-in_err-test_premise-clause-judged : goal.returns-in_err-test_premise-clause-judged
returns-in_err-test_premise-clause-judged g c =
    let old = g.T.Terms.state c.args.terms.now in
    let now = g.T.Terms.state c.loop-k.terms in
    let e = c.in_err-test_premise.field-0.0 in
    let same : c.from_residual.result ≡ Err e = search rules in
    let P : Option StepFault → Type 0 = λ o. Judges {X = Unit {0}} o (Err e) in
    let Q : Result (Unit {0}) AddError → Type 0 =
    λ r. Judges (first_failing (premise_conditions old.declared c.args.rule.now (arguments_of old.trees c.args.args.now) 0 (equations_of old.trees c.args.premises.now))) r in
    subst Q (sym same)
    (subst P (sym c.loop-k.invariant.rest)
    (premise_fails old now c.loop-k.invariant.grows c.args.rule.now c.args.args.now c.requires.args c.args.premises.now c.requires.premises c.loop-k.k _ c.loop-k-test.true (Unit {0}) e
    c.in_err-test_premise.ensures.judged))

pub loop-k-preserved : goal.loop-k-preserved
loop-k-preserved g c =
    let old = g.T.Terms.state c.args.terms.now in
    let now = g.T.Terms.state c.loop-k.terms in
    let next = g.T.Terms.state c.test_premise.new.terms in
    record {
      grows = grows_on old now next c.loop-k.invariant.grows c.test_premise.ensures.grows;
      rest = c.loop-k.invariant.rest
          ∙ premise_holds old now c.loop-k.invariant.grows c.args.rule.now c.args.args.now c.requires.args c.args.premises.now c.requires.premises c.loop-k.k _ c.loop-k-test.true
          c.in_ok-test_premise.ensures.judged;
    }
