-- What becomes of an application when lists are spliced in among its arguments (the RARE paper, FMCAD 2022, on `:list`; that an operator
-- with fewer than two arguments collapses, and its neutral values, are this project's own).
use Rattle.std.specs.Prelude.{ℤ, pos, negsuc, List, [], ◌∷◌, flat_map, if◌then◌else◌}
use Rattle.rare_linear.specs.Linears.{LinearExpression, number}
use Rattle.rare_sort.specs.Sorting.{splices}
use Rattle.rare_sort.specs.declared.head.Head.{Head}
use Rattle.rare_sort.specs.declared.head.Head.TheVariants as head
use Rattle.rare_sort.specs.declared.sort.Sort.{Sort, Bool, BitVec}
use Rattle.rare_sort.specs.declared.tree.Tree.{Tree}
use Rattle.rare_term.specs.Literals.{application}
use Rattle.rare_inst.specs.Substituting.{TreeGroup, tree_group}

abbrev pub first_sort : List TreeGroup → Sort
first_sort [] = Bool
first_sort (g ∷ gs) = g.element

-- the terms of all arguments in order
abbrev pub spliced : List TreeGroup → TreeGroup
spliced gs = tree_group (first_sort gs) (flat_map (λ g. g.trees) gs)

-- what an application becomes: its only argument, or an application
pub data Reduct : Type 0 where
  Alone : Tree → Reduct
  Applied : Head → List LinearExpression → List Tree → Reduct

abbrev pub width_or_zero : Sort → LinearExpression
width_or_zero (BitVec w) = w
width_or_zero _ = number (pos 0)

abbrev pub literal_reduct : ℤ → Sort → Reduct
literal_reduct v s = Applied head.Literal (number v ∷ width_or_zero s ∷ []) []

-- an operator without arguments, by the sort of the elements of its lists: its neutral value. `concat` has none
abbrev pub neutral : Head → Sort → Reduct
neutral head.And s = Applied head.True [] []
neutral head.Or s = Applied head.False [] []
neutral head.Add s = Applied (head.Numeral 0) [] []
neutral head.Mul s = Applied (head.Numeral 1) [] []
neutral head.BvAdd s = literal_reduct (pos 0) s
neutral head.BvMul s = literal_reduct (pos 1) s
neutral head.BvAnd s = literal_reduct (negsuc 0) s
neutral head.BvOr s = literal_reduct (pos 0) s
neutral head.BvXor s = literal_reduct (pos 0) s
neutral h s = Applied h [] []

abbrev pub collapsed : Head → List LinearExpression → Sort → List Tree → Reduct
collapsed h ix s [] = neutral h s
collapsed h ix s (t ∷ []) = Alone t
collapsed h ix s (t ∷ u ∷ us) = Applied h ix (t ∷ u ∷ us)

-- lists are spliced in among the arguments of ten operators, which collapse where fewer than two are left
abbrev pub reduct : Head → List LinearExpression → TreeGroup → Reduct
reduct h ix g = if splices h then (collapsed h ix g.element g.trees) else (Applied h ix g.trees)

abbrev pub reduct_tree : Reduct → Tree
reduct_tree (Alone t) = t
reduct_tree (Applied h ix ts) = application h ix ts
