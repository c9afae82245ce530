use Rattle.std.proofs.lemmas.Nat.{shl_whole, or_shifted}
use Rattle.rare_wide.proofs.parts.join.Goals as goal

pub returns : goal.returns
returns c =
    rw
    (shl_whole c.args.a c.args.aw c.args.bw 128 c.requires.above.below c.requires.room)
    (or_shifted c.args.a c.args.bw c.args.b c.requires.below.below)
