use Rattle.std.proofs.Common.{List, arith, subst, sym}
use Rattle.rare_proof.specs.Proofs.{IsProofOver}
use Rattle.rare_proof.specs.declared.step.Step.{Step}
use Rattle.rare_proof.proofs.Adding.{no_steps}
use Rattle.rare_proof.proofs.Growing.{longer}
use Rattle.rare_proof.proofs.tests.first_wrong.Goals as goal

pub loop-row-init : goal.loop-row-init
loop-row-init g c =
    let s = g.T.Terms.state c.args.terms.now in
    let book = c.args.book.now in
    let P : List Step → Type 0 = λ steps. IsProofOver s book steps in
    record { last = c.requires; proof = subst P (sym c.new-proof.ensures) (no_steps book s) }

pub loop-row-preserved : goal.loop-row-preserved
loop-row-preserved g c =
    let old = g.T.Terms.state c.loop-row.terms in
    let new = g.T.Terms.state c.answer-found.new.terms in
    let le = longer old new c.answer-found.ensures.grows in
    record { last = omega (arith, le, c.loop-row.invariant.last); proof = c.answer-found.ensures.proof }
