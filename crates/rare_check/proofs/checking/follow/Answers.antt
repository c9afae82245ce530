use Rattle.std.proofs.Common.{◌≡◌, ◌∙◌, ℕ, List, Ok, sym, ap, subst}
use Rattle.std.proofs.lemmas.Result.{on_ok_weaker, on_err_weaker}
use Rattle.rare_scope.specs.Names.{names_of}
use Rattle.rare_term_text.proofs.Naming.{names_kept}
use Rattle.rare_sexpr.specs.Commands.{put_first}
use Rattle.rare_proof_text.specs.Commands.{command_at}
use Rattle.rare_proof_text.specs.ProofCommands.{names_behind}
use Rattle.rare_check.specs.Checking.{answer_from}
use Rattle.rare_check.specs.inner.Judging.{AreNamedRules}
use Rattle.rare_check.specs.inner.Kept.{IsHeld, stated_rewrites}
use Rattle.rare_check.specs.inner.Progress.{named_after, progress, progress_of}
use Rattle.rare_check.proofs.Answering.{one_more}
use Rattle.rare_check.proofs.Growing.{command_is}
use Rattle.rare_check.proofs.Holding.{answer_kept, command_kept, either_way, grows_keeps, held_kept, held_more, held_noted, held_over, held_same, keeps_on}
use Rattle.rare_check.proofs.checking.follow.Goals as goal

pub returns-in_err-define-clause-keeps : goal.returns-in_err-define-clause-keeps
returns-in_err-define-clause-keeps g c = c.in_err-define.ensures.keeps c.args.rewrites.now

pub returns-in_err-note-clause-held : goal.returns-in_err-note-clause-held
returns-in_err-note-clause-held g c =
    let s = g.T.Terms.state c.args.terms.now in
    let book = c.args.book.now in
    let rs = c.args.rewrites.now in
    let old = c.args.judged.now in
    let grown = c.define.new.scope in
    held_noted s book rs grown grown old c.note.new.judged (held_over s book rs c.args.scope.now grown old c.requires.held c.in_ok-define.ensures.meant) c.note.ensures.more

pub returns-in_err-note-clause-keeps : goal.returns-in_err-note-clause-keeps
returns-in_err-note-clause-keeps g c = c.in_ok-define.ensures.keeps c.args.rewrites.now

pub returns-clause-keeps : goal.returns-clause-keeps
returns-clause-keeps g c =
    let s = g.T.Terms.state c.args.terms.now in
    let new_s = g.T.Terms.state c.judge.new.terms in
    let book = c.args.book.now in
    let rs = c.args.rewrites.now in
    let old = c.args.judged.now in
    let grown = c.define.new.scope in
    let h = held_over s book rs c.args.scope.now grown old c.requires.held c.in_ok-define.ensures.meant in
    keeps_on s s new_s c.args.scope.now grown grown rs (c.in_ok-define.ensures.keeps rs) (grows_keeps s new_s book rs grown old c.judge.ensures.grows h)

pub returns-clause-ok : goal.returns-clause-ok
returns-clause-ok g c =
    let old_s = g.T.Terms.state c.args.terms.now in
    let s = g.T.Terms.state c.judge.new.terms in
    let grows = c.judge.ensures.grows in
    let book = c.args.book.now in
    let items = c.args.rewrites.now in
    let rs = stated_rewrites s items in
    let scope = c.args.scope.now in
    let grown = c.define.new.scope in
    let old = c.args.judged.now in
    let noted = c.note.new.judged in
    let new = c.judge.new.judged in
    let tree = g.E.Expr.tree in
    let command = command_at tree s.trees c.args.command in
    let before = command_at tree old_s.trees c.args.command in
    let same_command = command_is old_s s grows tree c.args.command c.requires.ids in
    let still = ap (progress_of s.trees) c.note.ensures.more.same in
    let behind : names_behind (names_of s.trees scope) command ≡ names_of s.trees grown =
    (λ i. names_behind (names_kept old_s s scope grows c.requires.held.meant i) (same_command i))
    ∙ sym c.in_ok-define.ensures.names ∙ sym (names_kept old_s s grown grows c.in_ok-define.ensures.meant) in
    let named : named_after old.named.keys command ≡ new.named.keys = sym (c.in_ok-note.ensures.named s.trees) ∙ ap (λ x. x.keys) (sym c.judge.ensures.named) in
    on_ok_weaker c.judge.result
    (λ same e rest is.
    sym (answer_kept old_s s book items scope old grows c.requires.held (put_first e rest))
    ∙ one_more s.declared book rs (names_of s.trees scope) (progress_of s.trees old) (progress_of s.trees new) old.named.keys e command rest
    (command_kept old_s s book items scope old grows c.requires.held e ∙ is ∙ ap (λ x. Ok x) (sym same_command))
    (same ∙ ap (λ p. progress s.declared book rs p command) still)
    ∙ (λ i. answer_from s.declared book rs (behind i) (progress_of s.trees new) (named i) rest)) c.judge.ensures.ok

pub returns-clause-held : goal.returns-clause-held
returns-clause-held g c =
    let old_s = g.T.Terms.state c.args.terms.now in
    let s = g.T.Terms.state c.judge.new.terms in
    let book = c.args.book.now in
    let rs = c.args.rewrites.now in
    let grown = c.define.new.scope in
    let old = c.args.judged.now in
    let noted = c.note.new.judged in
    let new = c.judge.new.judged in
    let tree = g.E.Expr.tree in
    let command = command_at tree s.trees c.args.command in
    let before = held_noted old_s book rs grown grown old noted (held_over old_s book rs c.args.scope.now grown old c.requires.held c.in_ok-define.ensures.meant) c.note.ensures.more in
    let h = held_kept old_s s book rs grown noted c.judge.ensures.grows before in
    let N : List ℕ → Type 0 = λ ks. AreNamedRules ks new.proof in
    let rules = subst N (ap (λ x. x.keys) (sym c.judge.ensures.named)) (c.judge.ensures.rules noted.named.keys before.rules c.in_ok-note.ensures.rules) in
    either_way c.judge.result (IsHeld s book rs grown new)
    (on_ok_weaker c.judge.result
    (held_more s book rs grown grown noted new command (λ k. c.valid_steps_are_true.ensures k s.declared book h.typed) h h.meant c.judge.ensures.kept rules c.judge.ensures.named) c.judge.ensures.ok)
    (on_err_weaker c.judge.result (held_same s book rs grown grown noted new h h.meant c.judge.ensures.kept rules c.judge.ensures.named) c.judge.ensures.err)
