use Rattle.std.proofs.Common.{◌+◌, drop, sym, ◌∙◌, ap}
use Rattle.rare_scope.proofs.InOrder.{same_Ok}
use Rattle.rare_text.specs.Problems.{with_floors}
use Rattle.rare_text.specs.Stated.{stated_problem}
use Rattle.rare_text.proofs.Growing.{extends_on}
use Rattle.rare_text.proofs.CommandSteps.{next_floor}
use Rattle.rare_text.proofs.assumptions.with_each_floor.Goals as goal

pub loop-floor-preserved : goal.loop-floor-preserved
loop-floor-preserved g c =
    let old = g.T.Terms.state c.loop-floor.terms in
    let new = g.T.Terms.state c.with_floor.new.terms in
    let fs = c.args.floors.now in
    let k = c.loop-floor.floor-index in
    let read = c.in_ok-reader.ensures.read in record {
      held = read.0;
      samples = c.in_ok-reader.ensures.samples ∙ c.loop-floor.invariant.samples;
      read =
          ap (with_floors (drop (k + 1) fs)) (sym (same_Ok _ (stated_problem new c.in_ok-reader.reader.problem) read.1))
          ∙ sym (next_floor (stated_problem old c.loop-floor.reader.problem) fs k c.floor-item.result c.loop-floor-test.true c.floor-item.is)
          ∙ c.loop-floor.invariant.read;
      grows = extends_on _ _ _ c.loop-floor.invariant.grows c.in_ok-reader.ensures.grows;
    }
