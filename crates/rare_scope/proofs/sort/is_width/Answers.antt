use Rattle.std.proofs.Common.{ap, ◌∙◌}
use Rattle.rare_linear.specs.Entailment.{minus}
use Rattle.rare_linear.specs.Linears.{LinearExpression}
use Rattle.rare_sort.specs.DeclaredSorts.{widths}
use Rattle.rare_scope.proofs.SortSteps.{less_one_named}
use Rattle.rare_scope.proofs.sort.is_width.Goals as goal

pub entailed-requires : goal.entailed-requires
entailed-requires g c =
    less_one_named (widths (g.T.Terms.state c.args.terms.now).declared) c.args.width.now c.in-Ok.floor
    (c.in-Ok.ensures.difference ∙ ap (λ (l : LinearExpression). minus c.args.width.now l) c.constant.ensures) c.requires
