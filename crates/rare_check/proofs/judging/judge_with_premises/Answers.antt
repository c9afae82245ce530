use Rattle.std.proofs.Common.{◌≡◌, [], ◌∷◌, ◌++◌, ◌∙◌, List, Result, slice_get, length, sym, ap, subst}
use Rattle.std.proofs.lemmas.Result.{on_ok_weaker, on_err_weaker}
use Rattle.rare_proof_text.specs.Commands.{named_rule, named_step, premise_ids}
use Rattle.rare_proof_text.specs.ProofCommands as text
use Rattle.rare_proof.specs.Proofs.{IsAddedAt, IsProofOver, concluded_by, stated_step}
use Rattle.rare_proof.specs.Steps.{step_fault}
use Rattle.rare_proof.specs.declared.fault.StepFault.{StepFault}
use Rattle.rare_proof.specs.declared.step.Step.{Step}
use Rattle.rare_proof.specs.declared.step.StepRule.{StepRule}
use Rattle.rare_check.specs.inner.Judging.{IsJudged, IsNamedIn}
use Rattle.rare_check.proofs.Advancing.{bad_taken, invalid_is, over_same, rules_more, same_proof}
use Rattle.rare_check.proofs.Holding.{both_err, both_ok, either_way}
use Rattle.rare_check.proofs.Judgements.{no_rule, places_below}
use Rattle.rare_check.proofs.Stepping.{invalid_taken, kept_step, unnamed_judged, unnamed_stays, valid_judged, valid_taken}
use Rattle.rare_check.proofs.judging.judge_with_premises.Goals as goal

pub returns-in-Err-clause-ok : goal.returns-in-Err-clause-ok
returns-in-Err-clause-ok g c =
    let s = g.T.Terms.state c.args.terms.now in
    let book = c.args.book.now in
    let old = c.args.judged.now in
    let h = c.requires.judged in
    let set = c.set_bad.ensures in
    let new = c.set_bad.new.self in
    let tree = g.E.Expr.tree in
    let step = named_step tree s.trees c.args.step in
    let below = places_below (length old.proof) old.ids old.places h.within (premise_ids tree c.args.step.premises) c.args.premises c.requires.premises in
    let fault = no_rule s book old h step c.in-Err.fault c.args.premises c.requires.new c.requires.premises below (ap (named_rule s.trees) c.in-Err.is) in
    on_ok_weaker c.set_bad.result
    (λ bad rewrites. bad_taken s book old new [] h (same_proof old new set.proof) (over_same s book old new h set.proof) rewrites (text.Step step) c.in-Err.fault
    c.requires.good fault set.ids set.places set.concluded bad) set.bad

pub returns-in-Ok-added-clause-ok : goal.returns-in-Ok-added-clause-ok
returns-in-Ok-added-clause-ok g c =
    let old_s = g.T.Terms.state c.args.terms.now in
    let s = g.T.Terms.state c.add_step-added.new.terms in
    let book = c.args.book.now in
    let old = c.args.judged.now in
    let new = c.add.new.self in
    let k = c.in-Ok-added.place in
    let added = c.add.ensures in
    let in_proof = c.in-Ok-added.ensures in
    let kept = kept_step c.args.step c.in-Ok.rule c.args.premises in
    let P : List Step → Type 0 = λ ss. IsAddedAt old.proof kept ss k in
    let Q : List Step → Type 0 = λ ss. IsProofOver s book ss in
    on_ok_weaker c.add.result
    (λ both. valid_taken g.E.Expr.tree old_s s book in_proof.grows old c.requires.judged c.requires.good c.args.step c.requires.step c.in-Ok.rule c.in-Ok.is c.args.premises c.requires.new c.requires.premises
    new k in_proof.judged (subst P (sym added.proof) in_proof.added) (subst Q (sym added.proof) in_proof.proof)
    (ap (λ ss. slice_get (concluded_by s.trees ss) k) added.proof ∙ in_proof.place) added.concluded added.bad both.0 both.1)
    (both_ok c.add.result (new.ids ≡ old.ids ++ c.args.step.id.now ∷ []) (new.places ≡ old.places ++ k ∷ []) added.ids added.places)

pub returns-in-Ok-added-clause-err : goal.returns-in-Ok-added-clause-err
returns-in-Ok-added-clause-err g c =
    let old_s = g.T.Terms.state c.args.terms.now in
    let s = g.T.Terms.state c.add_step-added.new.terms in
    let book = c.args.book.now in
    let old = c.args.judged.now in
    let new = c.add.new.self in
    let k = c.in-Ok-added.place in
    let added = c.add.ensures in
    let in_proof = c.in-Ok-added.ensures in
    let kept = kept_step c.args.step c.in-Ok.rule c.args.premises in
    let P : List Step → Type 0 = λ ss. IsAddedAt old.proof kept ss k in
    let Q : List Step → Type 0 = λ ss. IsProofOver s book ss in
    on_err_weaker c.add.result
    (λ both. unnamed_stays g.E.Expr.tree old_s s book in_proof.grows old c.requires.judged c.requires.good c.args.step c.requires.step c.in-Ok.rule c.in-Ok.is c.args.premises c.requires.new c.requires.premises
    new k in_proof.judged (subst P (sym added.proof) in_proof.added) (subst Q (sym added.proof) in_proof.proof)
    (ap (λ ss. slice_get (concluded_by s.trees ss) k) added.proof ∙ in_proof.place) added.concluded added.bad both.0 both.1)
    (both_err c.add.result (new.ids ≡ old.ids) (new.places ≡ old.places) added.err_ids added.err_places)

pub returns-in-Ok-added-clause-kept : goal.returns-in-Ok-added-clause-kept
returns-in-Ok-added-clause-kept g c =
    let old_s = g.T.Terms.state c.args.terms.now in
    let s = g.T.Terms.state c.add_step-added.new.terms in
    let book = c.args.book.now in
    let old = c.args.judged.now in
    let new = c.add.new.self in
    let k = c.in-Ok-added.place in
    let added = c.add.ensures in
    let in_proof = c.in-Ok-added.ensures in
    let kept = kept_step c.args.step c.in-Ok.rule c.args.premises in
    let P : List Step → Type 0 = λ ss. IsAddedAt old.proof kept ss k in
    let Q : List Step → Type 0 = λ ss. IsProofOver s book ss in
    either_way c.add.result (IsJudged s book new)
    (on_ok_weaker c.add.result
    (λ both. valid_judged g.E.Expr.tree old_s s book in_proof.grows old c.requires.judged c.requires.good c.args.step c.requires.step c.in-Ok.rule c.in-Ok.is c.args.premises c.requires.new c.requires.premises
    new k in_proof.judged (subst P (sym added.proof) in_proof.added) (subst Q (sym added.proof) in_proof.proof)
    (ap (λ ss. slice_get (concluded_by s.trees ss) k) added.proof ∙ in_proof.place) added.concluded added.bad both.0 both.1)
    (both_ok c.add.result (new.ids ≡ old.ids ++ c.args.step.id.now ∷ []) (new.places ≡ old.places ++ k ∷ []) added.ids added.places))
    (on_err_weaker c.add.result
    (λ both. unnamed_judged g.E.Expr.tree old_s s book in_proof.grows old c.requires.judged c.requires.good c.args.step c.requires.step c.in-Ok.rule c.in-Ok.is c.args.premises c.requires.new c.requires.premises
    new k in_proof.judged (subst P (sym added.proof) in_proof.added) (subst Q (sym added.proof) in_proof.proof)
    (ap (λ ss. slice_get (concluded_by s.trees ss) k) added.proof ∙ in_proof.place) added.concluded added.bad both.0 both.1)
    (both_err c.add.result (new.ids ≡ old.ids) (new.places ≡ old.places) added.err_ids added.err_places))

pub returns-in-Ok-added-clause-rules : goal.returns-in-Ok-added-clause-rules
returns-in-Ok-added-clause-rules g c = λ named rules one.
    let old = c.args.judged.now in
    let new = c.add.new.self in
    let k = c.in-Ok-added.place in
    let kept = kept_step c.args.step c.in-Ok.rule c.args.premises in
    let P : List Step → Type 0 = λ ss. IsAddedAt old.proof kept ss k in
    let N : Result StepRule StepFault → Type 0 = λ r. IsNamedIn named r in
    rules_more named old.proof kept new.proof k (subst P (sym c.add.ensures.proof) c.in-Ok-added.ensures.added) rules (subst N c.in-Ok.is one)

pub returns-in-Invalid-clause-ok : goal.returns-in-Invalid-clause-ok
returns-in-Invalid-clause-ok g c =
    let old_s = g.T.Terms.state c.args.terms.now in
    let s = g.T.Terms.state c.add_step-added.new.terms in
    let book = c.args.book.now in
    let old = c.args.judged.now in
    let set = c.set_bad-in-Invalid.ensures in
    let new = c.set_bad-in-Invalid.new.self in
    let in_proof = c.in-Err-added.ensures in
    let kept = kept_step c.args.step c.in-Ok.rule c.args.premises in
    let fault = step_fault old_s.declared book (concluded_by old_s.trees old.proof) (stated_step old_s.trees kept) in
    on_ok_weaker c.set_bad-in-Invalid.result
    (λ bad. invalid_taken g.E.Expr.tree old_s s book in_proof.grows old c.requires.judged c.requires.good c.args.step c.requires.step c.in-Ok.rule c.in-Ok.is c.args.premises c.requires.new c.requires.premises
    new c.in-Invalid.fault (invalid_is fault c.in-Err-added.error c.in-Invalid.fault c.in-Invalid.is in_proof.judged) (set.proof ∙ in_proof.err) set.ids set.places set.concluded bad) set.bad
