-- Which operators the functions on two values take.
use Rattle.std.specs.Prelude.{Bool, true, false, ◌||◌}
use Rattle.rare_sort.specs.declared.head.Head.{Head}
use Rattle.rare_sort.specs.declared.head.Head.TheVariants as head

abbrev pub is_on_truths : Head → Bool
is_on_truths head.And = true
is_on_truths head.Or = true
is_on_truths head.Xor = true
is_on_truths h = false

abbrev pub is_on_wholes : Head → Bool
is_on_wholes head.Minus = true
is_on_wholes head.Add = true
is_on_wholes head.Mul = true
is_on_wholes head.Div = true
is_on_wholes head.Mod = true
is_on_wholes h = false

abbrev pub is_on_words : Head → Bool
is_on_words head.BvAdd = true
is_on_words head.BvMul = true
is_on_words head.BvAnd = true
is_on_words head.BvOr = true
is_on_words head.BvXor = true
is_on_words head.BvSub = true
is_on_words head.BvUdiv = true
is_on_words head.BvUrem = true
is_on_words head.BvSdiv = true
is_on_words head.BvSrem = true
is_on_words head.BvSmod = true
is_on_words head.BvShl = true
is_on_words head.BvLshr = true
is_on_words head.BvAshr = true
is_on_words head.BvNand = true
is_on_words head.BvNor = true
is_on_words head.BvXnor = true
is_on_words h = false

abbrev pub is_word_test : Head → Bool
is_word_test head.BvUlt = true
is_word_test head.BvUle = true
is_word_test head.BvUgt = true
is_word_test head.BvUge = true
is_word_test head.BvSlt = true
is_word_test head.BvSle = true
is_word_test head.BvSgt = true
is_word_test head.BvSge = true
is_word_test h = false

abbrev pub is_on_bits : Head → Bool
is_on_bits head.BvComp = true
is_on_bits head.Concat = true
is_on_bits h = is_word_test h || is_on_words h

-- operators that are computed on two values at a time
abbrev pub is_on_two : Head → Bool
is_on_two h = is_on_truths h || (is_on_wholes h || is_on_bits h)

-- operators without arguments
abbrev pub is_constant : Head → Bool
is_constant head.True = true
is_constant head.False = true
is_constant (head.Numeral n) = true
is_constant (head.Bits v) = true
is_constant h = false

-- operators on one bit vector
abbrev pub is_on_word : Head → Bool
is_on_word head.BvNot = true
is_on_word head.BvNeg = true
is_on_word head.Extract = true
is_on_word head.ZeroExtend = true
is_on_word head.SignExtend = true
is_on_word head.RotateLeft = true
is_on_word head.RotateRight = true
is_on_word head.Repeat = true
is_on_word h = false

-- operators with one argument
abbrev pub is_single : Head → Bool
is_single head.Not = true
is_single head.Neg = true
is_single head.Abs = true
is_single h = is_on_word h

-- operators whose applications have no value
abbrev pub is_unvalued : Head → Bool
is_unvalued (head.Free k) = true
is_unvalued (head.Param k) = true
is_unvalued head.Hole = true
is_unvalued head.Select = true
is_unvalued head.Store = true
is_unvalued head.Literal = true
is_unvalued h = false
