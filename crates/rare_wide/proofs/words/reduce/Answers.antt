use Rattle.std.proofs.lemmas.Nat.{and_mask}
use Rattle.rare_wide.proofs.words.reduce.Goals as goal

pub returns : goal.returns
returns c = rw c.ones.ensures (and_mask c.args.a c.args.width)
