use Rattle.std.proofs.Common.{sym, subst}
use Rattle.rare_linear.specs.Linears.{LinearExpression, NamesBelow}
use Rattle.rare_linear.proofs.Names.{NamesBelow-add}
use Rattle.rare_inst.proofs.totals.plus.Goals as goal

pub returns-in-Ok-clause-named : goal.returns-in-Ok-clause-named
returns-in-Ok-clause-named c n a b =
    subst (λ (e : LinearExpression). NamesBelow n e.parts) (sym c.in-Ok.ensures.sum) (NamesBelow-add n c.args.a.now c.args.b.now a b)
