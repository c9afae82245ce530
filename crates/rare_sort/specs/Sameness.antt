-- Tests that tell whether two expressions, sorts, operators or trees are one, for definitions that go by cases on them. Each is true
-- exactly where the two are equal (`sameness_is_decided`).
use Rattle.std.specs.Prelude.{ℕ, nat_eq, Bool, true, false, ◌&&◌, List, [], ◌∷◌}
use Rattle.std.specs.Ordering.{int_eq}
use Rattle.rare_linear.specs.Linears.{Part, LinearExpression}
use Rattle.rare_sort.specs.contracts.head.HeadPartialEq.TheImpl.{eq-value}
use Rattle.rare_sort.specs.declared.head.Head.{Head}
use Rattle.rare_sort.specs.declared.tree.Tree.{Tree}
use Rattle.rare_sort.specs.declared.tree.Tree.TheOpen.{Tree-F}
use Rattle.rare_sort.specs.declared.tree.Tree.TheFolds.{fold-Tree}
use Rattle.rare_sort.specs.Trees.{head_of, indices_of, args_of}
use Rattle.rare_sort.specs.declared.sort.Sort.{Sort}
use Rattle.rare_sort.specs.declared.sort.Sort.TheOpen.{Sort-F}
use Rattle.rare_sort.specs.declared.sort.Sort.TheOpen as shape
use Rattle.rare_sort.specs.declared.sort.Sort.TheViews.{out-Sort}
use Rattle.rare_sort.specs.declared.sort.Sort.TheFolds.{fold-Sort}

abbrev pub parts_eq : List Part → List Part → Bool
parts_eq [] [] = true
parts_eq (p ∷ ps) (q ∷ qs) = nat_eq p.0 q.0 && (int_eq p.1 q.1 && parts_eq ps qs)
parts_eq [] (q ∷ qs) = false
parts_eq (p ∷ ps) [] = false

abbrev pub linear_eq : LinearExpression → LinearExpression → Bool
linear_eq a b = int_eq a.constant b.constant && parts_eq a.parts b.parts

abbrev pub sort_eq_step : Sort-F (Sort → Bool) → Sort-F Sort → Bool
sort_eq_step shape.Bool shape.Bool = true
sort_eq_step shape.Int shape.Int = true
sort_eq_step (shape.BitVec m) (shape.BitVec n) = linear_eq m n
sort_eq_step (shape.Array a b) (shape.Array c d) = a c && b d
sort_eq_step (shape.Named j) (shape.Named k) = nat_eq j k
sort_eq_step s t = false

-- whether two sorts are one
unfoldable pub sort_eq : Sort → Sort → Bool
sort_eq = fold-Sort (Sort → Bool) (λ s t. sort_eq_step s (out-Sort t))

-- whether two operators are one: the derived comparison of `Head`
unfoldable pub head_eq : Head → Head → Bool
head_eq = eq-value.it

abbrev pub linears_eq : List LinearExpression → List LinearExpression → Bool
linears_eq [] [] = true
linears_eq (x ∷ xs) (y ∷ ys) = linear_eq x y && linears_eq xs ys
linears_eq [] (y ∷ ys) = false
linears_eq (x ∷ xs) [] = false

-- as many, and each passes its test
abbrev pub all_pass : List (Tree → Bool) → List Tree → Bool
all_pass [] [] = true
all_pass (p ∷ ps) (t ∷ ts) = p t && all_pass ps ts
all_pass [] (t ∷ ts) = false
all_pass (p ∷ ps) [] = false

abbrev pub tree_eq_step : Tree-F (Tree → Bool) → Tree → Bool
tree_eq_step n u = head_eq n.head (head_of u) && (linears_eq n.indices (indices_of u) && all_pass n.args (args_of u))

-- whether two trees are one
unfoldable pub tree_eq : Tree → Tree → Bool
tree_eq = fold-Tree (Tree → Bool) tree_eq_step
