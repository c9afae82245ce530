use Rattle.std.proofs.Common.{◌<◌, length, sym, subst}
use Rattle.std.proofs.lemmas.Result.{on_ok_weaker, on_err_weaker}
use Rattle.rare_scope.specs.Names.{Held, AreMeant}
use Rattle.rare_proof_text.specs.Commands.{IsCommandOf}
use Rattle.rare_proof_text.specs.declared.command.ReadCommand.{ReadCommand}
use Rattle.rare_check.proofs.Holding.{either_way, name_meant}
use Rattle.rare_check.proofs.checking.define.Goals as goal

pub returns-in-Define-clause-meant : goal.returns-in-Define-clause-meant
returns-in-Define-clause-meant g c =
    let s = g.T.Terms.state c.args.terms.now in
    let P : Held → Type 0 = λ held. AreMeant s held in
    let lt : c.in-Define.term.0 < length s.trees = subst (λ (d : ReadCommand _). IsCommandOf s d) c.in-Define.is c.requires.ids in
    either_way c.define.result (AreMeant s c.define.new.self)
    (on_ok_weaker c.define.result (λ is. subst P (sym is) (name_meant s c.args.scope.now c.in-Define.name.now c.in-Define.term c.requires.meant lt)) c.define.ensures.ok)
    (on_err_weaker c.define.result (λ is. subst P (sym is) c.requires.meant) c.define.ensures.err)
