use Rattle.std.proofs.Common.{◌≡◌, ◌∙◌, ◌++◌, sym, ap, append_assoc, false, true}
use Rattle.rare_sexpr.specs.Streams.{commands_left, unless_refused}
use Rattle.rare_check.specs.Checking.{answer_from, unless_stopped, answer, progress_in}
use Rattle.rare_check.specs.inner.Kept.{answer_with}
use Rattle.rare_check.proofs.Answering.{refused_on}
use Rattle.rare_check.proofs.checker.Checker.take.Goals as goal

pub returns-clause-refused : goal.returns-clause-refused
returns-clause-refused g c =
    let i = c.self.inside in
    let s = g.T.Terms.state i.terms in
    let old = c.args.self.now in
    let fed = c.in-Ok.ensures.ok in
    let rs = c.items.result.now in
    refused_on c.take_commands.result (λ more. answer_with s i.book rs i.problem.scope i.judged (commands_left c.feed.new.self more)) (λ rest. answer old (c.args.bytes.now ++ rest))
    (c.feed.new.self.ended ≡ true) (λ told. let e : false ≡ true = sym c.self.invariant.untold ∙ (sym (ap (λ s. s.ended) fed) ∙ told) in cc)
    c.take_commands.ensures.refused
    (λ rest.
    ap (λ r. answer_with s i.book rs i.problem.scope i.judged (commands_left r rest)) fed
    ∙ ap (λ items. answer_with s i.book items i.problem.scope i.judged (unless_refused i.reader.refusal i.reader.place ((i.reader.rest ++ c.args.bytes.now) ++ rest))) c.items.ensures
    ∙ ap (λ bytes. answer_with s i.book i.problem.rewrites i.problem.scope i.judged (unless_refused i.reader.refusal i.reader.place bytes)) (append_assoc i.reader.rest c.args.bytes.now rest)
    ∙ ap (λ v. answer_from v.problem.declared v.book v.problem.rewrites v.names (progress_in v) v.named (commands_left v.left (c.args.bytes.now ++ rest))) c.self.view_is
    ∙ sym (ap (λ t. unless_stopped t (answer_from old.problem.declared old.book old.problem.rewrites old.names (progress_in old) old.named (commands_left old.left (c.args.bytes.now ++ rest)))) c.requires.going))
