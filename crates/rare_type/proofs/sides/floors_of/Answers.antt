use Rattle.std.proofs.Common.{arith, ◌+◌, ◌&&◌, drop, ap, ◌∙◌}
use Rattle.std.proofs.lemmas.Grind.{common_steps}
use Rattle.rare_linear.proofs.EntailmentTestLemmas.{is_within-Decides}
use Rattle.rare_sort.specs.Rulings.{all_within}
use Rattle.rare_type.specs.FirstCase.{floors}
use Rattle.rare_type.proofs.Keeping.{dropped}
use Rattle.rare_type.proofs.sides.floors_of.Goals as goal

pub loop-bound-preserved : goal.loop-bound-preserved
loop-bound-preserved c = record {
  copied = grind (arith, common_steps);
  within =
      let i = c.loop-bound.bound-index in
      let bounds = c.args.bounds.now in
      c.loop-bound.invariant.within
      ∙ ap (λ bs. all_within (floors bs)) (dropped bounds i c.bound-item.result c.bound-item.is c.loop-bound-test.true)
      ∙ ap (λ t. t && all_within (floors (drop (i + 1) bounds))) ((is_within-Decides c.bound-item.result.floor).1 c.constant_of-constant.ensures.within);
}
