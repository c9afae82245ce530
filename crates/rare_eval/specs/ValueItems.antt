-- A value that code holds, as a value with its sort.
use Rattle.rare_meaning.specs.Settings.{Item}
use Rattle.rare_meaning.specs.Operators.{truth, whole, bits}
use Rattle.rare_eval.specs.declared.values.Value.{Value}
use Rattle.rare_eval.specs.declared.values.Value.TheVariants as value

abbrev pub value_item : Value → Item
value_item (value.Truth b) = truth b
value_item (value.Whole z) = whole z
value_item (value.Bits w n) = bits w n
