use Rattle.std.proofs.Common.{◌≡◌, sym, ap, ◌∙◌, ◌%◌, ◌^◌}
use Rattle.std.specs.Int.{w128, cast_unsigned}
use Rattle.std.proofs.lemmas.Int.{to_z-of_z}
use Rattle.rare_term.specs.Literals.{natural_of}
use Rattle.rare_parse.proofs.ReducedValues.{reduced_is}
use Rattle.rare_parse.proofs.reduced.value_reduced.Goals as goal

pub returns : goal.returns
returns c =
    reduced_is c.args.value c.args.width c.cast_unsigned.result c.reduced_bits.result c.ranges.value
    (c.cast_unsigned.ensures ∙ ap (cast_unsigned w128) (to_z-of_z w128 c.args.value c.ranges.value))
    (c.reduced_bits.ensures ∙ ap (λ z. c.cast_unsigned.result % 2 ^ natural_of z) (to_z-of_z w128 c.args.width c.ranges.width)) c.requires
