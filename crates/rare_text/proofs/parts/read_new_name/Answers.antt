use Rattle.std.proofs.Common.{sym, ◌∙◌}
use Rattle.rare_text.proofs.PartSteps.{name_taken, name_reserved, name_free}
use Rattle.rare_text.proofs.parts.read_new_name.Goals as goal

pub returns-then-declares-clause-read : goal.returns-then-declares-clause-read
returns-then-declares-clause-read g c ts =
    rw c.refusal_at.ensures (name_taken ts c.args.scope.now (g.E.Expr.tree c.args.e.now) c.in_ok-name.name.now c.in_ok-name.ensures (sym c.declares.ensures ∙ c.if-declares.true))

pub returns-then-is_reserved_name-clause-read : goal.returns-then-is_reserved_name-clause-read
returns-then-is_reserved_name-clause-read g c ts =
    rw c.refusal_at-then-is_reserved_name.ensures
    (name_reserved ts c.args.scope.now (g.E.Expr.tree c.args.e.now) c.in_ok-name.name.now c.in_ok-name.ensures (sym c.declares.ensures ∙ c.if-declares.false)
    (sym c.is_reserved_name.ensures ∙ c.if-is_reserved_name.true))

pub returns-in-Ok-clause-read : goal.returns-in-Ok-clause-read
returns-in-Ok-clause-read g c ts =
    rw c.in-Ok.ensures (name_free ts c.args.scope.now (g.E.Expr.tree c.args.e.now) c.in_ok-name.name.now c.in_ok-name.ensures (sym c.declares.ensures ∙ c.if-declares.false)
    (sym c.is_reserved_name.ensures ∙ c.if-is_reserved_name.false))
