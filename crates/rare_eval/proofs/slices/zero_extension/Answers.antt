use Rattle.std.proofs.Common.{arith}
use Rattle.std.proofs.lemmas.Int.{ints}
use Rattle.rare_eval.proofs.SliceLemmas.{wider_below}
use Rattle.rare_eval.proofs.slices.zero_extension.Goals as goal

pub returns-clause-limited : goal.returns-clause-limited
returns-clause-limited c = record {
  low = omega (arith, c.requires.word.low);
  high = omega (arith, ints, c.requires.word.high, c.if-by-lt0.false, c.if-by-width.false);
  below = wider_below c.args.width _ c.args.a c.requires.word.below;
}
