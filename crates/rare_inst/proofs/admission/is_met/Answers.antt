use Rattle.std.proofs.Common.{Some, subst}
use Rattle.std.specs.Prelude.{IfSome}
use Rattle.rare_linear.specs.Linears.{NamesBelow}
use Rattle.rare_sort.specs.DeclaredSorts.{widths}
use Rattle.rare_inst.proofs.admission.is_met.Goals as goal

pub entailed-requires : goal.entailed-requires
entailed-requires g c =
    let n = widths (g.T.Terms.state c.args.terms.now).declared in
    subst (λ o. IfSome o (λ s. NamesBelow n s.parts)) c.in-Some.is (c.in_ok-e.ensures.named n c.requires.named)
