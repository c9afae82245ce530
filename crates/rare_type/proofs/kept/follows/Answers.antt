use Rattle.std.proofs.Common.{◌+◌, ◌≤ℤ◌, ◌<ℤ◌, FitsSigned, pos, drop, get_or, arith, ap, sym, ◌∙◌, subst}
use Rattle.std.specs.Int.{w128}
use Rattle.std.proofs.lemmas.Int.{ints}
use Rattle.std.proofs.lemmas.List.{drop_all}
use Rattle.std.proofs.Math.Facts.{to_z-of_z}
use Rattle.rare_linear.specs.Linears.{Part}
use Rattle.rare_type.specs.inner.Steps.{Falls}
use Rattle.rare_type.proofs.Following.{Left, met_is, left_step, left_negative, left_none, entailed_is, fit_at}
use Rattle.rare_type.proofs.Keeping.{dropped_at}
use Rattle.rare_type.proofs.kept.follows.Goals as goal

pub loop-name-init : goal.loop-name-init
loop-name-init c =
    let fits : FitsSigned w128 c.constant_of.result = subst (FitsSigned w128) (sym c.constant_of.ensures.constant) c.constant_of.ensures.within.constant in
    let falls = rw (to_z-of_z fits) at c.shortfall-missing.ensures in
    met_is c.args.params.now c.args.need.now c.shortfall-missing.result (subst (λ z. Falls z c.shortfall-missing.result) c.constant_of.ensures.constant falls)
    ∙ ap (Left c.args.params.now c.shortfall-missing.result) (sym c.parts-name-items.ensures.parts)

pub returns-then-coefficient-lt0 : goal.returns-then-coefficient-lt0
returns-then-coefficient-lt0 c =
    let ps = c.parts-name-items.result.now in
    let i = c.loop-name.name-index in
    let p : Part = get_or ps i (0, pos 0) in
    let fits : FitsSigned w128 p.1 = fit_at ps i (0, pos 0) c.parts-name-items.ensures.fit c.loop-name-test.true in
    let test = rw (to_z-of_z fits) at c.if-coefficient-lt0.true in
    let below : p.1 <ℤ pos 0 = omega (arith, ints, test) in
    sym (
    entailed_is c.args.params.now c.args.need.now c.constant_of.ensures.within
    ∙ c.loop-name.invariant
    ∙ ap (Left c.args.params.now c.loop-name.missing) (dropped_at ps i (0, pos 0) c.loop-name-test.true)
    ∙ left_negative c.args.params.now p (drop (i + 1) ps) c.loop-name.missing below
    )

pub loop-name-preserved : goal.loop-name-preserved
loop-name-preserved c =
    let ps = c.parts-name-items.result.now in
    let i = c.loop-name.name-index in
    let p : Part = get_or ps i (0, pos 0) in
    let fits : FitsSigned w128 p.1 = fit_at ps i (0, pos 0) c.parts-name-items.ensures.fit c.loop-name-test.true in
    let test = rw (to_z-of_z fits) at c.if-coefficient-lt0.false in
    let above : pos 0 ≤ℤ p.1 = omega (arith, ints, test) in
    let less = rw (to_z-of_z fits) at c.without_product-missing.ensures in
    c.loop-name.invariant
    ∙ ap (Left c.args.params.now c.loop-name.missing) (dropped_at ps i (0, pos 0) c.loop-name-test.true)
    ∙ left_step c.args.params.now p (drop (i + 1) ps) c.loop-name.missing c.low.result c.low.ensures.value above
    ∙ ap (λ m. Left c.args.params.now m (drop (i + 1) ps)) (sym less)

pub returns : goal.returns
returns c =
    left_none c.args.params.now c.loop-name.missing
    ∙ ap (Left c.args.params.now c.loop-name.missing) (sym (drop_all _ c.parts-name-items.result.now c.loop-name-test.false))
    ∙ sym c.loop-name.invariant
    ∙ sym (entailed_is c.args.params.now c.args.need.now c.constant_of.ensures.within)
