-- The place of a value in a list of all values of its sort, counted from 0. Values of one sort differ by it.
use Rattle.std.specs.Prelude.{ℕ, ◌+◌, ◌*◌, ℤ, pos, negsuc}
use Rattle.rare_meaning.specs.Values.{Value, Truth, Whole, Bits, bit_of}

-- 0, -1, 1, -2, 2, .. in turn
abbrev pub whole_ordinal : ℤ → ℕ
whole_ordinal (pos n) = 2 * n
whole_ordinal (negsuc n) = 2 * n + 1

abbrev pub value_ordinal : Value → ℕ
value_ordinal (Truth b) = bit_of b
value_ordinal (Whole z) = whole_ordinal z
value_ordinal (Bits w n) = n
value_ordinal _ = 0
