-- Which operators have one rule of sorts (SMT-LIB 2.6, theories Core, Ints, ArraysEx and FixedSizeBitVectors, logic QF_BV).
use Rattle.rare_sort.specs.declared.head.Head.{Head}
use Rattle.rare_sort.specs.declared.head.Head.TheVariants as head
use Rattle.rare_sort.specs.declared.family.Family.{Family}
use Rattle.rare_sort.specs.declared.family.Family.TheVariants as kind
use Rattle.rare_sort.specs.declared.family.Count.TheVariants as count
use Rattle.rare_sort.specs.declared.family.Basic.TheVariants as basic
use Rattle.rare_sort.specs.declared.family.Outcome.TheVariants as outcome

abbrev pub family : Head → Family
family head.True = kind.Fixed (count.Exactly 0) basic.Bool basic.Bool
family head.False = kind.Fixed (count.Exactly 0) basic.Bool basic.Bool
family head.Not = kind.Fixed (count.Exactly 1) basic.Bool basic.Bool
family head.Implies = kind.Fixed count.Several basic.Bool basic.Bool
family head.Xor = kind.Fixed count.Several basic.Bool basic.Bool
family head.And = kind.Fixed count.Several basic.Bool basic.Bool
family head.Or = kind.Fixed count.Several basic.Bool basic.Bool
family head.Equal = kind.Alike
family head.Distinct = kind.Alike
family head.Ite = kind.Choice
family (head.Numeral n) = kind.Fixed (count.Exactly 0) basic.Int basic.Int
family head.Neg = kind.Fixed (count.Exactly 1) basic.Int basic.Int
family head.Minus = kind.Fixed count.Several basic.Int basic.Int
family head.Add = kind.Fixed count.Several basic.Int basic.Int
family head.Mul = kind.Fixed count.Several basic.Int basic.Int
family head.Div = kind.Fixed count.Several basic.Int basic.Int
family head.Mod = kind.Fixed (count.Exactly 2) basic.Int basic.Int
family head.Abs = kind.Fixed (count.Exactly 1) basic.Int basic.Int
family head.Le = kind.Fixed count.Several basic.Int basic.Bool
family head.Lt = kind.Fixed count.Several basic.Int basic.Bool
family head.Ge = kind.Fixed count.Several basic.Int basic.Bool
family head.Gt = kind.Fixed count.Several basic.Int basic.Bool
family head.Select = kind.Select
family head.Store = kind.Store
family head.BvNot = kind.BitVectors (count.Exactly 1) outcome.SameWidth
family head.BvNeg = kind.BitVectors (count.Exactly 1) outcome.SameWidth
family head.BvAdd = kind.BitVectors count.Several outcome.SameWidth
family head.BvMul = kind.BitVectors count.Several outcome.SameWidth
family head.BvAnd = kind.BitVectors count.Several outcome.SameWidth
family head.BvOr = kind.BitVectors count.Several outcome.SameWidth
family head.BvXor = kind.BitVectors count.Several outcome.SameWidth
family head.BvSub = kind.BitVectors (count.Exactly 2) outcome.SameWidth
family head.BvUdiv = kind.BitVectors (count.Exactly 2) outcome.SameWidth
family head.BvUrem = kind.BitVectors (count.Exactly 2) outcome.SameWidth
family head.BvSdiv = kind.BitVectors (count.Exactly 2) outcome.SameWidth
family head.BvSrem = kind.BitVectors (count.Exactly 2) outcome.SameWidth
family head.BvSmod = kind.BitVectors (count.Exactly 2) outcome.SameWidth
family head.BvShl = kind.BitVectors (count.Exactly 2) outcome.SameWidth
family head.BvLshr = kind.BitVectors (count.Exactly 2) outcome.SameWidth
family head.BvAshr = kind.BitVectors (count.Exactly 2) outcome.SameWidth
family head.BvNand = kind.BitVectors (count.Exactly 2) outcome.SameWidth
family head.BvNor = kind.BitVectors (count.Exactly 2) outcome.SameWidth
family head.BvXnor = kind.BitVectors (count.Exactly 2) outcome.SameWidth
family head.BvUlt = kind.BitVectors (count.Exactly 2) outcome.Bool
family head.BvUle = kind.BitVectors (count.Exactly 2) outcome.Bool
family head.BvUgt = kind.BitVectors (count.Exactly 2) outcome.Bool
family head.BvUge = kind.BitVectors (count.Exactly 2) outcome.Bool
family head.BvSlt = kind.BitVectors (count.Exactly 2) outcome.Bool
family head.BvSle = kind.BitVectors (count.Exactly 2) outcome.Bool
family head.BvSgt = kind.BitVectors (count.Exactly 2) outcome.Bool
family head.BvSge = kind.BitVectors (count.Exactly 2) outcome.Bool
family head.BvComp = kind.BitVectors (count.Exactly 2) outcome.OneBit
family head.Concat = kind.Concat
family head.Extract = kind.Extract
family head.ZeroExtend = kind.Extend
family head.SignExtend = kind.Extend
family head.RotateLeft = kind.Rotate
family head.RotateRight = kind.Rotate
family head.Repeat = kind.Repeat
family (head.Bits v) = kind.Bits
family head.Literal = kind.Literal
family (head.Free k) = kind.Symbol k
family (head.Param k) = kind.OfRules
family head.Hole = kind.OfRules
