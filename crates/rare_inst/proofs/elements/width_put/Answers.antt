use Rattle.std.proofs.Common.{subst}
use Rattle.std.specs.Prelude.{IfSome}
use Rattle.rare_linear.specs.Linears.{NamesBelow}
use Rattle.rare_inst.proofs.elements.width_put.Goals as goal

pub returns-in-Some-clause-named : goal.returns-in-Some-clause-named
returns-in-Some-clause-named c n named = subst (λ o. IfSome o (λ s. NamesBelow n s.parts)) c.in-Some.is (c.in_ok-put.ensures.named n named)
