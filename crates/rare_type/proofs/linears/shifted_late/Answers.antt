use Rattle.std.proofs.Common.{subst, ap, ◌∙◌}
use Rattle.std.proofs.Math.Facts.{to_z-of_z}
use Rattle.rare_linear.specs.Linears.{add}
use Rattle.rare_linear.specs.Entailment.{minus}
use Rattle.rare_type.specs.FirstCase.{and_then}
use Rattle.rare_type.specs.inner.Answering.{Reports}
use Rattle.rare_type.specs.inner.Steps.{bounded}
use Rattle.rare_type.proofs.Shifts.{bounded_late}
use Rattle.rare_type.proofs.linears.shifted_late.Goals as goal

pub returns : goal.returns
returns c =
    let a = c.args.a.now in
    let b = c.args.b.now in
    let x = c.constant_of-a.ensures in
    let y = c.constant_of-b.ensures in
    let k = simp (to_z-of_z c.ranges.shift) at c.constant.ensures in
    subst (λ t. Reports t c.difference_then-2.result)
    (ap (λ s. and_then (bounded (minus a b)) (λ d. bounded (add d s))) k
    ∙ bounded_late a b x.within y.within x.normal y.normal c.args.shift c.requires.unit c.requires.beyond)
    c.difference_then-2.ensures
