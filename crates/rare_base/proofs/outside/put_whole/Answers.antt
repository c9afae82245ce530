use Rattle.std.proofs.Common.{◌∙◌, ap, arith, drop, take}
use Rattle.std.proofs.lemmas.List.{length-drop, take_rest}
use Rattle.rare_base.specs.Outside.{grown}
use Rattle.rare_base.proofs.OutsideLemmas.{grown_more}
use Rattle.rare_base.proofs.outside.put_whole.Goals as goal

pub loop-at-preserved : goal.loop-at-preserved
loop-at-preserved g c = record {
  within = omega (arith, c.in_ok-at.ensures.count, length-drop c.loop-at.at c.args.bytes.now);
  written =
      let e = rw take_rest at c.in_ok-at.ensures.written in
      e ∙ ap (λ o. grown o (take c.in_ok-at.field-0 (drop c.loop-at.at c.args.bytes.now))) c.loop-at.invariant.written
      ∙ grown_more (g.S.Sink.written c.args.out.now) c.args.bytes.now c.loop-at.at c.in_ok-at.field-0;
  quiet = c.in_ok-at.ensures.cause.kept ∙ c.loop-at.invariant.quiet;
}
