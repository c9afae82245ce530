use Rattle.std.proofs.Common.{[], ◌∙◌, sym}
use Rattle.std.proofs.lemmas.Result.{on_ok_weaker}
use Rattle.rare_proof_text.specs.Commands.{named_step}
use Rattle.rare_proof_text.specs.ProofCommands as text
use Rattle.rare_proof.specs.declared.fault.StepFault.TheVariants.{NoSuchStep}
use Rattle.rare_check.proofs.Advancing.{bad_taken, over_same, same_proof}
use Rattle.rare_check.proofs.Judgements.{no_such_step}
use Rattle.rare_check.proofs.judging.judge_new_step.Goals as goal

pub returns-in-None-clause-ok : goal.returns-in-None-clause-ok
returns-in-None-clause-ok g c =
    let s = g.T.Terms.state c.args.terms.now in
    let book = c.args.book.now in
    let old = c.args.judged.now in
    let set = c.set_bad.ensures in
    let new = c.set_bad.new.self in
    let step = named_step g.E.Expr.tree s.trees c.args.step in
    let fault = no_such_step s book old c.requires.judged step c.requires.new (sym c.in_ok-premises.ensures ∙ c.in-None.is) in
    on_ok_weaker c.set_bad.result
    (λ bad rewrites. bad_taken s book old new [] c.requires.judged (same_proof old new set.proof) (over_same s book old new c.requires.judged set.proof) rewrites (text.Step step) NoSuchStep
    c.requires.good fault set.ids set.places set.concluded bad) set.bad
