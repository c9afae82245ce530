use Rattle.std.proofs.Common.{sym, ◌∙◌}
use Rattle.rare_text.proofs.CommandSteps.{rewrite_twice, rewrite_new}
use Rattle.rare_text.proofs.terms.read_rewrite_name.Goals as goal

pub returns-then-has_rewrite-clause-read : goal.returns-then-has_rewrite-clause-read
returns-then-has_rewrite-clause-read g c ts =
    rw c.refusal_at.ensures (rewrite_twice ts c.args.reader.now.problem.rewrites (g.E.Expr.tree c.args.name.now) c.in_ok-text.text.now c.in_ok-text.ensures (sym c.has_rewrite.ensures ∙ c.if-has_rewrite.true))

pub returns-in-Ok-clause-read : goal.returns-in-Ok-clause-read
returns-in-Ok-clause-read g c ts =
    rw c.in-Ok.ensures (rewrite_new ts c.args.reader.now.problem.rewrites (g.E.Expr.tree c.args.name.now) c.in_ok-text.text.now c.in_ok-text.ensures (sym c.has_rewrite.ensures ∙ c.if-has_rewrite.false))
