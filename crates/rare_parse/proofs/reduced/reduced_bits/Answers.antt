use Rattle.std.proofs.Common.{◌≡◌, subst, pos, true}
use lib.Signed.{le_z}
use Rattle.std.specs.Int.{w128}
use Rattle.std.proofs.lemmas.Int.{to_z-of_z}
use Rattle.rare_parse.proofs.ReducedValues.{wide_told}
use Rattle.rare_parse.proofs.reduced.reduced_bits.Goals as goal

pub returns-then-width-ge128 : goal.returns-then-width-ge128
returns-then-width-ge128 c = wide_told c.args.value c.args.width c.ranges.value.fits (subst (λ z. le_z (pos 128) z ≡ true) (to_z-of_z w128 c.args.width c.ranges.width) c.if-width-ge128.true)
