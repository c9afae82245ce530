use Rattle.std.proofs.Common.{◌+◌, ◌<◌, ◌^◌, subst, sym, arith}
use Rattle.rare_bits.proofs.PartsLemmas.{concat-below}
use Rattle.rare_eval.proofs.slices.join.Goals as goal

pub returns-clause-limited : goal.returns-clause-limited
returns-clause-limited c = record {
  low = omega (arith, c.requires.above.low);
  high = omega (arith, c.if-aw-bw-gt-MOST_BITS.false);
  below = subst (λ n. n < 2 ^ (c.args.aw + c.args.bw)) (sym c.join.ensures) (concat-below c.args.aw c.args.bw c.args.a c.args.b c.requires.above.below c.requires.below.below);
}
