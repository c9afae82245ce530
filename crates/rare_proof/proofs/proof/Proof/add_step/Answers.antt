use Rattle.std.proofs.Common.{◌≡◌, ◌∙◌, ◌++◌, ◌∷◌, [], sym, ap, subst, length, slice_get, is_some, List, Some}
use Rattle.rare_proof.specs.declared.step.Step.{Step}
use Rattle.rare_sort.specs.Ids.{tree_at}
use Rattle.rare_proof.specs.Steps.{equation}
use Rattle.rare_proof.specs.Proofs.{IsProofOver, concluded_by}
use Rattle.rare_proof.proofs.Adding.{found_kept, last_kept, proof_grows_on}
use Rattle.rare_proof.proofs.Growing.{proof_kept}
use Rattle.rare_proof.proofs.proof.Proof.add_step.Goals as goal

pub returns-in_err-test-clause-proof : goal.returns-in_err-test-clause-proof
returns-in_err-test-clause-proof g c =
    let old = g.T.Terms.state c.args.terms.now in
    let new = g.T.Terms.state c.test.new.terms in
    proof_kept old new c.test.ensures.grows c.args.book.now c.args.self.now c.requires.proof

pub returns-in-Some-clause-place : goal.returns-in-Some-clause-place
returns-in-Some-clause-place g c =
    let old = g.T.Terms.state c.args.terms.now in
    let new = g.T.Terms.state c.test.new.terms in
    found_kept c.args.book.now old new c.test.ensures.grows c.args.self.now c.args.step c.requires.step c.in-Some.k (sym c.find.ensures.place ∙ c.in-Some.is)

pub returns-in-Some-clause-proof : goal.returns-in-Some-clause-proof
returns-in-Some-clause-proof g c =
    let old = g.T.Terms.state c.args.terms.now in
    let new = g.T.Terms.state c.test.new.terms in
    proof_kept old new c.test.ensures.grows c.args.book.now c.args.self.now c.requires.proof

pub returns-in_err-push-clause-proof : goal.returns-in_err-push-clause-proof
returns-in_err-push-clause-proof g c =
    let old = g.T.Terms.state c.args.terms.now in
    let new = g.T.Terms.state c.test.new.terms in
    let P : List Step → Type 0 = λ ss. IsProofOver new c.args.book.now ss in
    subst P (sym c.in_err-push.ensures.err) (proof_kept old new c.test.ensures.grows c.args.book.now c.args.self.now c.requires.proof)

pub returns-clause-place : goal.returns-clause-place
returns-clause-place g c =
    let old = g.T.Terms.state c.args.terms.now in
    let new = g.T.Terms.state c.test.new.terms in
    let P : List Step → Type 0 = λ ss. slice_get (concluded_by new.trees ss) c.len-k.result ≡ Some (equation (tree_at old.trees c.args.step.left.0) (tree_at old.trees c.args.step.right.0)) in
    subst P (sym c.in_ok-push.ensures.ok) (ap (slice_get (concluded_by new.trees (c.args.self.now ++ c.args.step ∷ []))) (c.len-k.ensures ∙ ap length c.self.view_is)
    ∙ last_kept c.args.book.now old new c.test.ensures.grows c.args.self.now c.args.step c.requires.step)

pub returns-clause-proof : goal.returns-clause-proof
returns-clause-proof g c =
    let old = g.T.Terms.state c.args.terms.now in
    let new = g.T.Terms.state c.test.new.terms in
    let P : List Step → Type 0 = λ ss. IsProofOver new c.args.book.now ss in
    subst P (sym c.in_ok-push.ensures.ok)
    (proof_grows_on c.args.book.now old new c.test.ensures.grows c.args.self.now c.args.step c.requires.step (g.met.T.Terms.one_to_one c.test.new.terms) c.requires.proof
    c.in_ok-test.ensures.judged c.in_ok-test.ensures.arguments (sym c.find.ensures.found ∙ ap is_some c.in_default.is))
