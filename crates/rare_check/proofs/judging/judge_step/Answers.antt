use Rattle.std.proofs.Common.{[], ◌∙◌, sym}
use Rattle.std.proofs.lemmas.Result.{on_ok_weaker}
use Rattle.rare_proof_text.specs.Commands.{named_step}
use Rattle.rare_proof_text.specs.ProofCommands as text
use Rattle.rare_proof.specs.declared.fault.StepFault.TheVariants.{IdUsed}
use Rattle.rare_check.proofs.Advancing.{bad_taken, over_same, same_proof}
use Rattle.rare_check.proofs.Judgements.{id_used}
use Rattle.rare_check.proofs.judging.judge_step.Goals as goal

pub returns-then-contains-clause-ok : goal.returns-then-contains-clause-ok
returns-then-contains-clause-ok g c =
    let s = g.T.Terms.state c.args.terms.now in
    let old = c.args.judged.now in
    let set = c.set_bad.ensures in
    let new = c.set_bad.new.self in
    let step = named_step g.E.Expr.tree s.trees c.args.step in
    let fault = id_used s c.args.book.now old c.requires.judged step (sym c.contains.ensures ∙ c.if-contains.true) in
    on_ok_weaker c.set_bad.result
    (λ bad rewrites. bad_taken s c.args.book.now old new [] c.requires.judged (same_proof old new set.proof) (over_same s c.args.book.now old new c.requires.judged set.proof) rewrites (text.Step step) IdUsed
    c.requires.good fault set.ids set.places set.concluded bad) set.bad
