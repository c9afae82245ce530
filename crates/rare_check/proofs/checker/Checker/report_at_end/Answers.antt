use Rattle.std.proofs.Common.{◌≡◌, ◌∙◌, [], true, Ok, List, refl, sym, ap, subst, None}
use Rattle.std.proofs.lemmas.Result.{err_from_is_err_and}
use Rattle.rare_sexpr.specs.Streams.{commands_left}
use Rattle.rare_sort.specs.declared.declarations.Declarations.{Declarations}
use Rattle.rare_text.specs.Problems.{StatedProblem, StatedRewrite}
use Rattle.rare_text.specs.declared.problem.Rewrite.{Rewrite}
use Rattle.rare_check.specs.Checking.{Checking, answer_from, unless_stopped, answer, progress_in, report_with}
use Rattle.rare_check.specs.Verdicts.{IsSound}
use Rattle.rare_check.specs.declared.report.Report.{Report}
use Rattle.rare_check.specs.inner.Kept.{IsHeld, answer_with, problem_before, stated_rewrites}
use Rattle.rare_check.specs.inner.Progress.{progress_of}
use Rattle.rare_check.specs.inner.Truth.{AreSound}
use Rattle.rare_check.proofs.Answering.{sound_report, refused_as}
use Rattle.rare_check.proofs.checker.Checker.report_at_end.Goals as goal

pub returns-in_err-take_commands-clause-refused : goal.returns-in_err-take_commands-clause-refused
returns-in_err-take_commands-clause-refused g c =
    let i = c.self.inside in
    let s = g.T.Terms.state i.terms in
    let old = c.args.self in
    let rs = c.items-rewrites.result.now in
    let none : old.stopped ≡ None = c.requires.going in
    let same =
    ap (λ r. answer_with s i.book rs i.problem.scope i.judged (commands_left r [])) c.end.ensures
    ∙ ap (λ items. answer_with s i.book items i.problem.scope i.judged (commands_left i.reader [])) c.items-rewrites.ensures
    ∙ ap (λ v. answer_from v.problem.declared v.book v.problem.rewrites v.names (progress_in v) v.named (commands_left v.left [])) c.self.view_is
    ∙ sym (ap (λ t. unless_stopped t (answer_from old.problem.declared old.book old.problem.rewrites old.names (progress_in old) old.named (commands_left old.left []))) none) in
    let p = err_from_is_err_and c.from_residual.result c.from_residual.ensures.1 in
    refused_as c.from_residual.result p.0 c.in_err-take_commands.field-0.0 (answer_with s i.book rs i.problem.scope i.judged (commands_left c.end.new.self [])) (answer old []) p.1 p.2
    (c.in_err-take_commands.ensures.refused [] (λ told. refl)) same

pub take_commands-requires : goal.take_commands-requires
take_commands-requires g c =
    let i = c.self.inside in
    let P : List Rewrite → Type 0 = λ rs. IsHeld (g.T.Terms.state i.terms) i.book rs i.problem.scope i.judged in
    subst P (sym c.items-rewrites.ensures) c.self.invariant.held

pub returns-in-Ok-clause-report : goal.returns-in-Ok-clause-report
returns-in-Ok-clause-report g c =
    let i = c.self.inside in
    let s = g.T.Terms.state i.terms in
    let new = g.T.Terms.state c.take_commands.new.terms in
    let old = c.args.self in
    let rs = c.items-rewrites.result.now in
    let taken = c.in_ok-take_commands.ensures in
    let judged = c.take_commands.new.judged in
    let none : old.stopped ≡ None = c.requires.going in
    let same =
    ap (λ r. answer_with s i.book rs i.problem.scope i.judged (commands_left r [])) c.end.ensures
    ∙ ap (λ items. answer_with s i.book items i.problem.scope i.judged (commands_left i.reader [])) c.items-rewrites.ensures
    ∙ ap (λ v. answer_from v.problem.declared v.book v.problem.rewrites v.names (progress_in v) v.named (commands_left v.left [])) c.self.view_is
    ∙ sym (ap (λ t. unless_stopped t (answer_from old.problem.declared old.book old.problem.rewrites old.names (progress_in old) old.named (commands_left old.left []))) none) in
    let ended : c.end.new.self.ended ≡ true = ap (λ r. r.ended) c.end.ensures in
    sym same ∙ taken.ok [] (λ told. refl)
    ∙ ap (λ cs. answer_with new i.book rs c.take_commands.new.scope judged cs) (taken.finished ended)
    ∙ ap (λ r. Ok r) (sym (c.in-Ok.ensures new.trees new.declared))

pub returns-in-Ok-clause-sound : goal.returns-in-Ok-clause-sound
returns-in-Ok-clause-sound g c =
    let i = c.self.inside in
    let s = g.T.Terms.state i.terms in
    let new = g.T.Terms.state c.take_commands.new.terms in
    let taken = c.in_ok-take_commands.ensures in
    let rs = c.items-rewrites.result.now in
    let judged = c.take_commands.new.judged in
    let q : StatedProblem = problem_before s i.known i.problem in
    let sides : stated_rewrites new rs ≡ stated_rewrites s i.problem.rewrites = taken.keeps.sides ∙ ap (stated_rewrites s) c.items-rewrites.ensures in
    let D : Declarations → Type 0 = λ d. AreSound d i.book (stated_rewrites new rs) judged.named.keys judged.concluded.keys in
    let S : List StatedRewrite → Type 0 = λ ss. AreSound s.declared i.book ss judged.named.keys judged.concluded.keys in
    let sound = subst S sides (subst D taken.keeps.declared taken.held.sound) in
    let valid = sound_report q i.book (progress_of new.trees judged) judged.named.keys sound in
    let P : Checking → Type 0 = λ v. IsSound v.book v.problem c.in-Ok.report in
    let R : Report → Type 0 = λ r. IsSound i.book q r in
    subst P c.self.view_is
    (subst R (sym (c.in-Ok.ensures new.trees s.declared ∙ ap (λ ss. report_with s.declared i.book ss (progress_of new.trees judged) judged.named.keys []) sides)) valid)
