use Rattle.std.proofs.Common.{sym, ◌∙◌}
use Rattle.rare_book.proofs.Reading.{new_rule}
use Rattle.rare_book.proofs.read.add_rule.Goals as goal

pub returns-in-Ok : goal.returns-in-Ok
returns-in-Ok g c =
    let t = c.in_ok-rule.rule in
    let new = new_rule c.args.book.now (g.E.Expr.tree c.args.e.now) t c.in_ok-rule.ensures (λ h. let e = sym c.in-Ok.is ∙ c.add.ensures.duplicate.1 h in absurd cc) in
    (t, new, c.in-Ok.ensures.ok)
