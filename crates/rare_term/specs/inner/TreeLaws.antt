-- The laws of trees.
use Rattle.std.proofs.Common.{◌≡◌, ℕ, zero, suc, ◌+◌, ◌<◌, ◌≤◌, max, List, [], ◌∷◌, map, sum, length, get_or, refl, ap, sym, ◌∙◌, subst, arith, take}
use Rattle.std.proofs.lemmas.List.{take_all}
use Rattle.std.proofs.lemmas.List.Sums.{sum_by-cons}
use Rattle.rare_linear.specs.Linears.{LinearExpression}
use Rattle.rare_sort.specs.declared.head.Head.{Head}
use Rattle.rare_sort.specs.declared.tree.Tree.{Tree, out-Tree}
use Rattle.rare_sort.specs.declared.tree.Tree.TheViews.{out-roll-Tree, roll-out-Tree}
use Rattle.rare_sort.specs.declared.tree.Tree.TheFolds.{fold-roll-Tree, fold_out-Tree}
use Rattle.rare_sort.specs.Trees.{node, head_of, indices_of, args_of, nesting, nesting_step, size, size_step, greatest}
use Rattle.rare_sort.specs.Ids.{tree_at}

pub head_node : (h : Head) (ix : List LinearExpression) (ts : List Tree) → head_of (node h ix ts) ≡ h
head_node h ix ts = ap (λ t. t.head) (out-roll-Tree _)

pub indices_node : (h : Head) (ix : List LinearExpression) (ts : List Tree) → indices_of (node h ix ts) ≡ ix
indices_node h ix ts = ap (λ t. t.indices) (out-roll-Tree _)

pub args_node : (h : Head) (ix : List LinearExpression) (ts : List Tree) → args_of (node h ix ts) ≡ ts
args_node h ix ts = ap (λ t. t.args) (out-roll-Tree _)

-- a tree is made of its parts
pub node_of : (t : Tree) → node (head_of t) (indices_of t) (args_of t) ≡ t
node_of t = roll-out-Tree t

pub nesting_node : (h : Head) (ix : List LinearExpression) (ts : List Tree) → nesting (node h ix ts) ≡ 1 + greatest (map nesting ts)
nesting_node h ix ts = fold-roll-Tree ℕ nesting_step _

pub size_node : (h : Head) (ix : List LinearExpression) (ts : List Tree) → size (node h ix ts) ≡ 1 + sum (map size ts)
size_node h ix ts = fold-roll-Tree ℕ size_step _

pub size_of : (t : Tree) → size t ≡ 1 + sum (map size (args_of t))
size_of t = ap size (sym (node_of t)) ∙ size_node (head_of t) (indices_of t) (args_of t)

pub nesting_of : (t : Tree) → nesting t ≡ 1 + greatest (map nesting (args_of t))
nesting_of t = ap nesting (sym (node_of t)) ∙ nesting_node (head_of t) (indices_of t) (args_of t)

in_greatest : (ts : List Tree) (k : ℕ) → k < length ts → nesting (tree_at ts k) ≤ greatest (map nesting ts)
in_greatest [] k lt = omega arith
in_greatest (t ∷ ts) zero lt = omega arith
in_greatest (t ∷ ts) (suc k) lt = let h = in_greatest ts k (omega arith) in omega arith

-- an argument nests less deep
pub nesting_falls : (t : Tree) (k : ℕ) → k < length (args_of t) → nesting (tree_at (args_of t) k) < nesting t
nesting_falls t k lt = let h = in_greatest (args_of t) k lt in let e = nesting_of t in omega arith

sum_of : (n : ℕ) (ns : List ℕ) → sum (n ∷ ns) ≡ n + sum ns
sum_of n ns = sum_by-cons (λ k. k) n ns

in_sum : (ts : List Tree) (k : ℕ) → k < length ts → size (tree_at ts k) ≤ sum (map size ts)
in_sum [] k lt = omega arith
in_sum (t ∷ ts) zero lt = omega (arith, sum_of (size t) (map size ts))
in_sum (t ∷ ts) (suc k) lt = let h = in_sum ts k (omega arith) in omega (arith, sum_of (size t) (map size ts))

pub size_falls : (t : Tree) (k : ℕ) → k < length (args_of t) → size (tree_at (args_of t) k) < size t
size_falls t k lt = let h = in_sum (args_of t) k lt in let e = size_of t in omega arith
