-- What a term means: one row for each operator (SMT-LIB 2.6, section on the meaning of terms; theories Core, Ints, ArraysEx and
-- FixedSizeBitVectors; logic QF_BV).
use Rattle.std.specs.Prelude.{◌+◌, ◌-◌, ◌*◌, ◌%◌, ◌^◌, ℤ, pos, neg_ℤ, int_lt, int_le, nat_lt, nat_le, true, false, not, List, map, if◌then◌else◌}
use Rattle.rare_bits.specs.Bits.{modulo, bvadd, bvneg, bvsub, bvmul, bvudiv, bvurem, bvsdiv, bvsrem, bvsmod, bvnot, bvand, bvor, bvxor, bvnand, bvnor, bvxnor, bvcomp, bvshl, bvlshr, bvashr, rotate_left, rotate_right, extract, repeat, sign_extend}
use Rattle.rare_linear.specs.Linears.{linear_value}
use Rattle.rare_sort.specs.declared.head.Head.{Head}
use Rattle.rare_sort.specs.declared.head.Head.TheVariants as head
use Rattle.rare_sort.specs.declared.tree.Tree.{Tree, Tree-F, fold-Tree}
use Rattle.rare_meaning.specs.Values.{Value, Truth, Whole, Truths, Wholes, value_eq, truth_of, whole_of}
use Rattle.rare_meaning.specs.Settings.{Item, Group, Setting, item, one, nothing}
use Rattle.rare_meaning.specs.Splicing.{joined, values, arg, val, from_left, from_right, each_pair, all_differ, gathered}
use Rattle.rare_meaning.specs.Operators.{index, first_index, truth, whole, bits, and_value, or_value, implies_value, xor_value, add_value, mul_value, minus_value, remainder_of, div_value, absolute_value, chain, int_ge, int_gt, select, store, width_at, number_at, on_one, on_two, on_all, unsigned_test, signed_test, concat_all}

-- the value of an application, by its indices and the items of its arguments
abbrev pub applied : Setting → Head → List ℤ → Group → Item
applied e head.True ns g = truth true
applied e head.False ns g = truth false
applied e head.Not ns g = truth (not (truth_of (val 0 g.items)))
applied e head.Implies ns g = item Truths (from_right implies_value (Truth true) (values g.items))
applied e head.Xor ns g = item Truths (from_left xor_value (Truth false) (values g.items))
applied e head.And ns g = gathered Truths and_value (Truth true) g.items
applied e head.Or ns g = gathered Truths or_value (Truth false) g.items
applied e head.Equal ns g = truth (each_pair value_eq (values g.items))
applied e head.Distinct ns g = truth (all_differ (values g.items))
applied e head.Ite ns g = if truth_of (val 0 g.items) then (arg 1 g.items) else (arg 2 g.items)
applied e (head.Numeral n) ns g = whole (pos n)
applied e head.Neg ns g = whole (neg_ℤ (whole_of (val 0 g.items)))
applied e head.Minus ns g = item Wholes (from_left minus_value (Whole (pos 0)) (values g.items))
applied e head.Add ns g = gathered Wholes add_value (Whole (pos 0)) g.items
applied e head.Mul ns g = gathered Wholes mul_value (Whole (pos 1)) g.items
applied e head.Div ns g = item Wholes (from_left (div_value e.quotient_by_zero) (Whole (pos 0)) (values g.items))
applied e head.Mod ns g = whole (remainder_of e.remainder_by_zero (whole_of (val 0 g.items)) (whole_of (val 1 g.items)))
applied e head.Abs ns g = whole (absolute_value (whole_of (val 0 g.items)))
applied e head.Le ns g = chain int_le g.items
applied e head.Lt ns g = chain int_lt g.items
applied e head.Ge ns g = chain int_ge g.items
applied e head.Gt ns g = chain int_gt g.items
applied e head.Select ns g = select (arg 0 g.items) (val 1 g.items)
applied e head.Store ns g = store (arg 0 g.items) (val 1 g.items) (val 2 g.items)
applied e head.BvNot ns g = on_one bvnot g.items
applied e head.BvNeg ns g = on_one bvneg g.items
applied e head.BvAdd ns g = on_all bvadd (λ m. 0) g
applied e head.BvMul ns g = on_all bvmul (λ m. 1 % 2 ^ m) g
applied e head.BvAnd ns g = on_all bvand (λ m. 2 ^ m - 1) g
applied e head.BvOr ns g = on_all bvor (λ m. 0) g
applied e head.BvXor ns g = on_all bvxor (λ m. 0) g
applied e head.BvSub ns g = on_two bvsub g.items
applied e head.BvUdiv ns g = on_two bvudiv g.items
applied e head.BvUrem ns g = on_two bvurem g.items
applied e head.BvSdiv ns g = on_two bvsdiv g.items
applied e head.BvSrem ns g = on_two bvsrem g.items
applied e head.BvSmod ns g = on_two bvsmod g.items
applied e head.BvShl ns g = on_two bvshl g.items
applied e head.BvLshr ns g = on_two bvlshr g.items
applied e head.BvAshr ns g = on_two bvashr g.items
applied e head.BvNand ns g = on_two bvnand g.items
applied e head.BvNor ns g = on_two bvnor g.items
applied e head.BvXnor ns g = on_two bvxnor g.items
applied e head.BvUlt ns g = unsigned_test nat_lt g.items
applied e head.BvUle ns g = unsigned_test nat_le g.items
applied e head.BvUgt ns g = unsigned_test (λ a b. nat_lt b a) g.items
applied e head.BvUge ns g = unsigned_test (λ a b. nat_le b a) g.items
applied e head.BvSlt ns g = signed_test int_lt g.items
applied e head.BvSle ns g = signed_test int_le g.items
applied e head.BvSgt ns g = signed_test int_gt g.items
applied e head.BvSge ns g = signed_test int_ge g.items
applied e head.BvComp ns g = bits 1 (bvcomp (number_at 0 g.items) (number_at 1 g.items))
applied e head.Concat ns g = concat_all g.items
applied e head.Extract ns g = bits (index 0 ns - index 1 ns + 1) (extract (index 0 ns) (index 1 ns) (number_at 0 g.items))
applied e head.ZeroExtend ns g = bits (width_at g.items + index 0 ns) (number_at 0 g.items)
applied e head.SignExtend ns g = bits (width_at g.items + index 0 ns) (sign_extend (width_at g.items) (index 0 ns) (number_at 0 g.items))
applied e head.RotateLeft ns g = on_one (λ m a. rotate_left m (index 0 ns) a) g.items
applied e head.RotateRight ns g = on_one (λ m a. rotate_right m (index 0 ns) a) g.items
applied e head.Repeat ns g = bits (index 0 ns * width_at g.items) (repeat (width_at g.items) (index 0 ns) (number_at 0 g.items))
applied e (head.Bits v) ns g = bits (index 0 ns) (v % 2 ^ index 0 ns)
applied e head.Literal ns g = bits (index 1 ns) (modulo (first_index ns) (2 ^ index 1 ns))
applied e (head.Free k) ns g = item (e.symbol_sort k) (e.symbol_value k (values g.items))
applied e (head.Param k) ns g = nothing
applied e head.Hole ns g = nothing

-- a parameter, the hole, or an application
abbrev pub here : Setting → Head → List ℤ → Group → Group
here e (head.Param k) ns g = e.group k
here e head.Hole ns g = e.hole
here e h ns g = one (applied e h ns g)

abbrev pub meaning_step : Setting → Tree-F Group → Group
meaning_step e n = here e n.head (map (linear_value e.number) n.indices) (joined n.args)

-- what a tree means: one item, or those of a list variable
abbrev pub meaning : Setting → Tree → Group
meaning e = fold-Tree Group (meaning_step e)

-- the value of a term, which means one item
abbrev pub value_of : Setting → Tree → Value
value_of e t = val 0 (meaning e t).items
