use Rattle.std.proofs.Common.{rules, ◌≡◌, ◌∙◌, Err, List, Option, Result, length, ap, sym, subst}
use Rattle.std.specs.Option.{option_map}
use Rattle.std.proofs.lemmas.List.{length-map}
use Rattle.rare_sort.specs.Ids.{tree_at}
use Rattle.rare_term.specs.State.{Grows}
use Rattle.rare_inst.specs.Arguments.{argument_of, arguments_of}
use Rattle.rare_rule.specs.declared.rule.Rule.{Rule}
use Rattle.rare_proof.specs.declared.fault.AddError.{AddError}
use Rattle.rare_proof.specs.declared.fault.StepFault.{StepFault}
use Rattle.rare_proof.specs.declared.fault.StepFault.TheVariants.{ArgCount, PremiseCount}
use Rattle.rare_proof.specs.Proofs.{Judges}
use Rattle.rare_proof.specs.Sided.{equation_of, equations_of}
use Rattle.rare_proof.specs.Steps.{first_failing, instance_conditions, instance_fault}
use Rattle.rare_proof.proofs.Growing.{are_given, grows_on}
use Rattle.rare_proof.proofs.Rewriting.{admitted_kept, at_premises, at_right, counts_as, premises_kept, right_kept}
use Rattle.rare_proof.proofs.rules.rewrite.test_instance.Goals as goal

pub test_premises-requires-clause-args : goal.test_premises-requires-clause-args
test_premises-requires-clause-args g c =
    are_given (g.T.Terms.state c.args.terms.now) (g.T.Terms.state c.test_left.new.terms) c.test_left.ensures.grows c.args.args.now c.requires.args

pub test_premises-requires-clause-admitted : goal.test_premises-requires-clause-admitted
test_premises-requires-clause-admitted g c =
    admitted_kept (g.T.Terms.state c.args.terms.now) (g.T.Terms.state c.test_left.new.terms) c.test_left.ensures.grows c.args.rule.now c.args.args.now c.requires.args c.in_ok-test_arguments.ensures.admitted

pub returns-in_err-test_premises-clause-judged : goal.returns-in_err-test_premises-clause-judged
returns-in_err-test_premises-clause-judged g c =
    let old = g.T.Terms.state c.args.terms.now in
    let now = g.T.Terms.state c.test_left.new.terms in
    let t = c.args.rule.now in
    let args = arguments_of old.trees c.args.args.now in
    let es = equations_of old.trees c.args.premises.now in
    let a = tree_at old.trees c.args.sides.left.0 in
    let b = tree_at old.trees c.args.sides.right.0 in
    let e = c.in_err-test_premises.field-0.0 in
    let as_many =
    counts_as _ c.len.result (length es) (length t.rule.premises) PremiseCount (length-map c.args.premises.now (equation_of old.trees))
    (sym (c.len.ensures ∙ ap (λ (r : Rule). length r.premises) c.rule.ensures.rule)) c.in_ok-need.ensures in
    let same : c.from_residual-in_err-test_premises.result ≡ Err e = search rules in
    let P : List (Option StepFault) → Type 0 = λ os. Judges {X = Unit {0}} (first_failing os) (Err e) in
    let Q : Result (Unit {0}) AddError → Type 0 = λ r. Judges (first_failing (instance_conditions old.declared t args a b es)) r in
    subst Q (sym same)
    (at_premises old.declared t args a b es (Unit {0}) c.in_ok-test_arguments.ensures.judged c.in_ok-test_left.ensures.judged as_many e
    (subst P (premises_kept old now c.test_left.ensures.grows t c.args.args.now c.requires.args c.args.premises.now c.requires.premises) c.in_err-test_premises.ensures.judged))

pub test_right-requires-clause-args : goal.test_right-requires-clause-args
test_right-requires-clause-args g c =
    let old = g.T.Terms.state c.args.terms.now in
    let mid = g.T.Terms.state c.test_left.new.terms in
    let new = g.T.Terms.state c.test_premises.new.terms in
    are_given old new (grows_on old mid new c.test_left.ensures.grows c.test_premises.ensures.grows) c.args.args.now c.requires.args

pub test_right-requires-clause-admitted : goal.test_right-requires-clause-admitted
test_right-requires-clause-admitted g c =
    let old = g.T.Terms.state c.args.terms.now in
    let mid = g.T.Terms.state c.test_left.new.terms in
    let new = g.T.Terms.state c.test_premises.new.terms in
    admitted_kept old new (grows_on old mid new c.test_left.ensures.grows c.test_premises.ensures.grows) c.args.rule.now c.args.args.now c.requires.args c.in_ok-test_arguments.ensures.admitted

pub returns-clause-judged : goal.returns-clause-judged
returns-clause-judged g c =
    let old = g.T.Terms.state c.args.terms.now in
    let mid = g.T.Terms.state c.test_left.new.terms in
    let new = g.T.Terms.state c.test_premises.new.terms in
    let grows : Grows old new = grows_on old mid new c.test_left.ensures.grows c.test_premises.ensures.grows in
    let t = c.args.rule.now in
    let args = arguments_of old.trees c.args.args.now in
    let es = equations_of old.trees c.args.premises.now in
    let a = tree_at old.trees c.args.sides.left.0 in
    let b = tree_at old.trees c.args.sides.right.0 in
    let as_many =
    counts_as _ c.len.result (length es) (length t.rule.premises) PremiseCount (length-map c.args.premises.now (equation_of old.trees))
    (sym (c.len.ensures ∙ ap (λ (r : Rule). length r.premises) c.rule.ensures.rule)) c.in_ok-need.ensures in
    let P : List (Option StepFault) → Type 0 = λ os. Judges (first_failing os) c.test_right.result in
    let premises = premises_kept old mid c.test_left.ensures.grows t c.args.args.now c.requires.args c.args.premises.now c.requires.premises in
    at_right old.declared t args a b es (Unit {0}) c.in_ok-test_arguments.ensures.judged c.in_ok-test_left.ensures.judged as_many
    (ap first_failing (sym premises) ∙ c.in_ok-test_premises.ensures.judged) c.test_right.result
    (subst P (right_kept old new grows t c.args.args.now c.requires.args c.args.sides.right.0 c.requires.sides.right) c.test_right.ensures.judged)
