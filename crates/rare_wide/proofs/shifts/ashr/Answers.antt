use Rattle.std.proofs.Common.{◌<◌, ◌^◌, arith}
use Rattle.std.proofs.lemmas.Nat.{shr_le}
use Rattle.rare_bits.proofs.BitsLemmas.{bvnot-below}
use Rattle.rare_wide.proofs.shifts.ashr.Goals as goal

pub lshr-requires-clause-first : goal.lshr-requires-clause-first
lshr-requires-clause-first c =
    let turned : c.not.result < 2 ^ c.args.width = rw c.not.ensures (bvnot-below c.args.width c.args.a) in
    record { low = c.requires.first.low; high = c.requires.first.high; below = turned }

pub not-requires-then-is_negative : goal.not-requires-then-is_negative
not-requires-then-is_negative c =
    let turned : c.not.result < 2 ^ c.args.width = rw c.not.ensures (bvnot-below c.args.width c.args.a) in
    let less = shr_le c.not.result c.args.b in
    record { low = c.requires.first.low; high = c.requires.first.high; below = omega arith }
