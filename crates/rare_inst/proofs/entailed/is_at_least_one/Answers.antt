use Rattle.std.proofs.Common.{◌≡◌, ap, ◌∙◌, subst, Err, pos}
use Rattle.rare_linear.specs.Entailment.{minus}
use Rattle.rare_linear.specs.Linears.{LinearExpression}
use Rattle.rare_linear.specs.PartialSums.{IsWithin}
use Rattle.rare_sort.specs.DeclaredSorts.{follows, widths}
use Rattle.rare_sort.specs.SortRules.{less_one}
use Rattle.rare_inst.proofs.Admitting.{beyond_none, less_named}
use Rattle.rare_inst.proofs.entailed.is_at_least_one.Goals as goal

pub entailed-requires : goal.entailed-requires
entailed-requires g c =
    less_named (widths (g.T.Terms.state c.args.terms.now).declared) c.args.e.now c.in-Ok.less (c.in-Ok.ensures.difference ∙ ap (minus c.args.e.now) c.constant.ensures) c.requires

pub returns-in-Err-TooLarge : goal.returns-in-Err-TooLarge
returns-in-Err-TooLarge g c =
    beyond_none (g.T.Terms.state c.args.terms.now).declared (less_one c.args.e.now)
    (subst (λ (x : LinearExpression). ¬ IsWithin (minus c.args.e.now x)) c.constant.ensures (c.in-Err-TooLarge.ensures.too_large (ap Err c.in-Err-TooLarge.field-0-is)))
