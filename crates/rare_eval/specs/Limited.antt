-- Values within the limits of evaluation, as code holds them.
use Rattle.std.specs.Prelude.{◌≤◌, unsigned_abs, ⊤}
use Rattle.rare_wide.specs.Widths.{IsBitVector}
use Rattle.rare_eval.specs.Evaluation.{GREATEST_WHOLE}
use Rattle.rare_eval.specs.declared.values.Value.{Value}
use Rattle.rare_eval.specs.declared.values.Value.TheVariants as value

-- a whole number of a magnitude up to the limit, or a bit vector of 1 to 128 bits
abbrev pub IsLimited : Value → Type 0
IsLimited (value.Truth b) = ⊤
IsLimited (value.Whole z) = unsigned_abs z ≤ GREATEST_WHOLE
IsLimited (value.Bits w n) = IsBitVector w n
