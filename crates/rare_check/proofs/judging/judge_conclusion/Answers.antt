use Rattle.std.proofs.Common.{[], ◌∙◌, sym}
use Rattle.std.proofs.lemmas.Result.{on_ok_weaker}
use Rattle.rare_proof_text.specs.ProofCommands.{Conclude}
use Rattle.rare_check.specs.inner.Judging.{earlier_of}
use Rattle.rare_check.specs.inner.Kept.{stated_rewrites}
use Rattle.rare_proof.specs.declared.fault.StepFault.TheVariants.{NoSuchRewrite}
use Rattle.rare_check.proofs.Advancing.{bad_taken, conclusion_taken, over_same, same_proof}
use Rattle.rare_check.proofs.Judgements.{fault_at, fault_nowhere, place_is, rewrite_there}
use Rattle.rare_check.proofs.judging.judge_conclusion.Goals as goal

pub returns-in_default-clause-ok : goal.returns-in_default-clause-ok
returns-in_default-clause-ok g c =
    let s = g.T.Terms.state c.args.terms.now in
    let old = c.args.judged.now in
    let set = c.set_bad.ensures in
    let new = c.set_bad.new.self in
    let place = sym c.find_rewrite.ensures ∙ c.in_default.is in
    let fault = fault_nowhere s.trees c.args.rewrites.now (earlier_of s.trees old) c.args.name.now c.args.id.now place in
    on_ok_weaker c.set_bad.result
    (bad_taken s c.args.book.now old new [] c.requires.judged (same_proof old new set.proof) (over_same s c.args.book.now old new c.requires.judged set.proof) (stated_rewrites s c.args.rewrites.now) (Conclude c.args.name.now c.args.id.now) NoSuchRewrite
    c.requires.good fault set.ids set.places set.concluded) set.bad

pub returns-in-Some-fault_of_equation-clause-ok : goal.returns-in-Some-fault_of_equation-clause-ok
returns-in-Some-fault_of_equation-clause-ok g c =
    let s = g.T.Terms.state c.args.terms.now in
    let old = c.args.judged.now in
    let set = c.set_bad-in-Some-fault_of_equation.ensures in
    let new = c.set_bad-in-Some-fault_of_equation.new.self in
    let place = sym c.find_rewrite.ensures ∙ c.in-Some.is in
    let fault = fault_at s.trees c.args.rewrites.now (earlier_of s.trees old) c.args.name.now c.args.id.now c.in-Some.k c.index-rewrites-k.result place (rewrite_there c.args.rewrites.now c.args.name.now c.in-Some.k c.index-rewrites-k.result place c.index-rewrites-k.is)
    ∙ sym c.fault_of_equation.ensures ∙ c.in-Some-fault_of_equation.is in
    on_ok_weaker c.set_bad-in-Some-fault_of_equation.result
    (bad_taken s c.args.book.now old new [] c.requires.judged (same_proof old new set.proof) (over_same s c.args.book.now old new c.requires.judged set.proof) (stated_rewrites s c.args.rewrites.now) (Conclude c.args.name.now c.args.id.now)
    c.in-Some-fault_of_equation.fault c.requires.good fault set.ids set.places set.concluded) set.bad

pub returns-clause-ok : goal.returns-clause-ok
returns-clause-ok g c =
    let s = g.T.Terms.state c.args.terms.now in
    let old = c.args.judged.now in
    let place = sym c.find_rewrite.ensures ∙ c.in-Some.is in
    conclusion_taken s c.args.book.now (stated_rewrites s c.args.rewrites.now) old c.args.name.now c.args.id.now c.in-Some.k c.insert.new.self.keys c.requires.good
    (fault_at s.trees c.args.rewrites.now (earlier_of s.trees old) c.args.name.now c.args.id.now c.in-Some.k c.index-rewrites-k.result place (rewrite_there c.args.rewrites.now c.args.name.now c.in-Some.k c.index-rewrites-k.result place c.index-rewrites-k.is)
    ∙ sym c.fault_of_equation.ensures ∙ c.in_default-fault_of_equation.is)
    (place_is s.trees c.args.rewrites.now c.args.name.now ∙ place) c.in_ok-insert.ensures.keys
