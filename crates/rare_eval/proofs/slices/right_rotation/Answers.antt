use Rattle.rare_eval.proofs.SliceLemmas.{right_below}
use Rattle.rare_eval.proofs.slices.right_rotation.Goals as goal

pub returns-clause-limited : goal.returns-clause-limited
returns-clause-limited c = record {
  low = c.requires.word.low;
  high = c.requires.word.high;
  below = right_below c.args.width _ c.args.a _ c.requires.word.low c.requires.word.below c.rotate_right.ensures;
}
