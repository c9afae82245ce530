use Rattle.std.proofs.Common.{sym, ◌∙◌, ap, Ok}
use Rattle.rare_operators.proofs.SymbolLemmas.{lone_constant, lone_refused}
use Rattle.rare_operators.proofs.head.lone_symbol.Goals as goal

pub returns-in-Ok-clause-read : goal.returns-in-Ok-clause-read
returns-in-Ok-clause-read g c =
    let s = g.T.Terms.state c.args.terms.now in
    rw c.refusal_at.ensures (lone_constant s.declared c.args.symbol (g.E.Expr.tree c.args.e.now) (g.met.T.Terms.lawful c.args.terms.now).declared c.in-Ok.ensures.refused)

pub returns-in_default-clause-read : goal.returns-in_default-clause-read
returns-in_default-clause-read g c =
    let s = g.T.Terms.state c.args.terms.now in
    lone_refused s.declared c.args.symbol (g.E.Expr.tree c.args.e.now) c.in-Err.why (g.met.T.Terms.lawful c.args.terms.now).declared c.in_default.not-Memory c.in-Err.ensures.refused ∙ ap Ok (sym c.bare.ensures)
