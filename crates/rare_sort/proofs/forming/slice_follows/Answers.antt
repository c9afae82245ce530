use Rattle.std.proofs.Common.{◌≡◌, Option, None, true, false, sym, ap, ◌∙◌}
use Rattle.std.specs.Prelude.{pos}
use Rattle.rare_linear.specs.Linears.{LinearExpression, number}
use Rattle.rare_linear.specs.Entailment.{minus}
use Rattle.rare_sort.specs.SortRules.{less_one}
use Rattle.rare_sort.specs.inner.Within.{within}
use Rattle.rare_sort.proofs.WithinLemmas.{none_follows}
use Rattle.rare_sort.proofs.forming.slice_follows.Goals as goal

pub difference_follows-requires-in-Some-clause-a : goal.difference_follows-requires-in-Some-clause-a
difference_follows-requires-in-Some-clause-a c =
    (rw c.in-Some.is at c.in_ok-top.ensures.named) _ c.requires.m (rw c.constant.ensures tt)

pub returns : goal.returns
returns c =
    let n : ◌≡◌ {A = Option LinearExpression} None (within (less_one c.args.m.now)) = sym c.in-None.is ∙ c.in_ok-top.ensures.value ∙ ap (λ x. within (minus c.args.m.now x)) c.constant.ensures in
    let e = none_follows c.args.declared.now (less_one c.args.m.now) (sym n) in
    let f : true ≡ false = sym c.requires.least ∙ e in absurd (cc)
