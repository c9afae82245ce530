-- Values of operators over spliced lists: none, one argument and more, worked by hand. An empty `concat` has no meaning.
use Rattle.std.specs.Prelude.{true, false, pos, [], ◌∷◌}
use Rattle.rare_sort.specs.declared.head.Head.{Head}
use Rattle.rare_sort.specs.declared.head.Head.TheVariants as head
use Rattle.rare_meaning.specs.Values.{ClosedSort, Truths, Wholes, BitVectors}
use Rattle.rare_meaning.specs.Settings.{Item, Setting, group_of, one}
use Rattle.rare_meaning.specs.Operators.{truth, whole, bits}
use Rattle.rare_meaning.specs.rows.Rows.{YieldsFor}

-- an empty list of elements of this sort gives this value; so do two of them
abbrev pub EmptyGives : Setting → Head → ClosedSort → Item → Type 0
EmptyGives e h s value = YieldsFor e h [] (group_of s [] ∷ []) value × YieldsFor e h [] (group_of s [] ∷ group_of s [] ∷ []) value

-- one argument, in a list or beside an empty one, stands for itself
abbrev pub StandsForItself : Setting → Head → Item → Type 0
StandsForItself e h i = YieldsFor e h [] (group_of i.sort (i ∷ []) ∷ []) i × YieldsFor e h [] (group_of i.sort [] ∷ one i ∷ []) i

pub record CollapseRows (e : Setting) : Type 0 where
  pub and_none : EmptyGives e head.And Truths (truth true)
  pub or_none : EmptyGives e head.Or Truths (truth false)
  pub add_none : EmptyGives e head.Add Wholes (whole (pos 0))
  pub mul_none : EmptyGives e head.Mul Wholes (whole (pos 1))
  pub bvadd_none : EmptyGives e head.BvAdd (BitVectors 4) (bits 4 0)
  pub bvmul_none : EmptyGives e head.BvMul (BitVectors 4) (bits 4 1)
  pub bvand_none : EmptyGives e head.BvAnd (BitVectors 4) (bits 4 15)
  pub bvor_none : EmptyGives e head.BvOr (BitVectors 4) (bits 4 0)
  pub bvxor_none : EmptyGives e head.BvXor (BitVectors 4) (bits 4 0)
  pub and_one : StandsForItself e head.And (truth false) × StandsForItself e head.And (truth true)
  pub or_one : StandsForItself e head.Or (truth true) × StandsForItself e head.Or (truth false)
  pub add_one : StandsForItself e head.Add (whole (pos 7))
  pub mul_one : StandsForItself e head.Mul (whole (pos 7))
  pub bvadd_one : StandsForItself e head.BvAdd (bits 4 9)
  pub bvmul_one : StandsForItself e head.BvMul (bits 4 9)
  pub bvand_one : StandsForItself e head.BvAnd (bits 4 9)
  pub bvor_one : StandsForItself e head.BvOr (bits 4 9)
  pub bvxor_one : StandsForItself e head.BvXor (bits 4 9)
  pub concat_one : StandsForItself e head.Concat (bits 3 5)
  -- lists among other arguments
  pub and_list : YieldsFor e head.And [] (one (truth true) ∷ group_of Truths (truth true ∷ truth false ∷ []) ∷ one (truth true) ∷ []) (truth false)
  pub bvadd_lists : YieldsFor e head.BvAdd [] (group_of (BitVectors 4) (bits 4 3 ∷ bits 4 4 ∷ []) ∷ group_of (BitVectors 4) [] ∷ one (bits 4 10) ∷ []) (bits 4 1)
  pub concat_list : YieldsFor e head.Concat [] (one (bits 2 1) ∷ group_of (BitVectors 1) (bits 1 1 ∷ bits 2 2 ∷ []) ∷ []) (bits 5 14)
