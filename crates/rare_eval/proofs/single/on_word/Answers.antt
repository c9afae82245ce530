use Rattle.std.proofs.Common.{◌<◌, ◌^◌, subst, sym}
use Rattle.rare_bits.proofs.BitsLemmas.{bvnot-below}
use Rattle.rare_eval.proofs.single.on_word.Goals as goal

pub returns-in-BvNot-clause-limited : goal.returns-in-BvNot-clause-limited
returns-in-BvNot-clause-limited c = record {
  low = c.requires.low;
  high = c.requires.high;
  below = subst (λ n. n < 2 ^ c.args.width) (sym c.not.ensures) (bvnot-below c.args.width c.args.a);
}
