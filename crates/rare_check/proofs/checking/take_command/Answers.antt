use Rattle.std.proofs.Common.{◌∙◌, sym}
use Rattle.rare_sexpr.specs.Commands.{put_first}
use Rattle.rare_check.proofs.Holding.{answer_kept, command_kept, grows_keeps, held_kept, keeps_on}
use Rattle.rare_check.proofs.checking.take_command.Goals as goal

pub returns-in-Err-clause-held : goal.returns-in-Err-clause-held
returns-in-Err-clause-held g c =
    held_kept (g.T.Terms.state c.args.terms.now) (g.T.Terms.state c.read_command.new.terms) c.args.book.now c.args.rewrites.now c.args.scope.now c.args.judged.now c.in-Err.ensures.grows c.requires

pub returns-in-Err-clause-keeps : goal.returns-in-Err-clause-keeps
returns-in-Err-clause-keeps g c =
    grows_keeps (g.T.Terms.state c.args.terms.now) (g.T.Terms.state c.read_command.new.terms) c.args.book.now c.args.rewrites.now c.args.scope.now c.args.judged.now c.in-Err.ensures.grows c.requires

pub follow-requires-clause-held : goal.follow-requires-clause-held
follow-requires-clause-held g c =
    held_kept (g.T.Terms.state c.args.terms.now) (g.T.Terms.state c.read_command.new.terms) c.args.book.now c.args.rewrites.now c.args.scope.now c.args.judged.now c.in-Ok.ensures.grows c.requires

pub returns-in-Ok-follow-clause-ok : goal.returns-in-Ok-follow-clause-ok
returns-in-Ok-follow-clause-ok g c = λ rest.
    let old = g.T.Terms.state c.args.terms.now in
    let new = g.T.Terms.state c.read_command.new.terms in
    let e = g.E.Expr.tree c.args.e.now in
    let rs = c.args.rewrites.now in
    let scope = c.args.scope.now in
    let j = c.args.judged.now in
    sym (answer_kept old new c.args.book.now rs scope j c.in-Ok.ensures.grows c.requires (put_first e rest))
    ∙ c.in-Ok-follow.ensures.ok e rest (command_kept old new c.args.book.now rs scope j c.in-Ok.ensures.grows c.requires e ∙ c.in-Ok.ensures.read)

pub returns-in-Ok-follow-clause-keeps : goal.returns-in-Ok-follow-clause-keeps
returns-in-Ok-follow-clause-keeps g c =
    let old = g.T.Terms.state c.args.terms.now in
    let new = g.T.Terms.state c.read_command.new.terms in
    let rs = c.args.rewrites.now in
    let scope = c.args.scope.now in
    keeps_on old new (g.T.Terms.state c.follow.new.terms) scope scope c.follow.new.scope rs (grows_keeps old new c.args.book.now rs scope c.args.judged.now c.in-Ok.ensures.grows c.requires) c.in-Ok-follow.ensures.keeps

pub returns-in-Err-follow-clause-keeps : goal.returns-in-Err-follow-clause-keeps
returns-in-Err-follow-clause-keeps g c =
    let old = g.T.Terms.state c.args.terms.now in
    let new = g.T.Terms.state c.read_command.new.terms in
    let rs = c.args.rewrites.now in
    let scope = c.args.scope.now in
    keeps_on old new (g.T.Terms.state c.follow.new.terms) scope scope c.follow.new.scope rs (grows_keeps old new c.args.book.now rs scope c.args.judged.now c.in-Ok.ensures.grows c.requires) c.in-Err-follow.ensures.keeps
