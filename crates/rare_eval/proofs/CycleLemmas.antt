-- Arguments nest less deep.
use Rattle.std.proofs.Common.{◌≡◌, ℕ, ◌<◌, ◌≤◌, List, take, length, length-take, ap, arith}
use Rattle.rare_sort.specs.Ids.{tree_at}
use Rattle.rare_sort.specs.Trees.{args_of, nesting}
use Rattle.rare_sort.specs.declared.tree.Tree.{Tree}
use Rattle.rare_term.specs.inner.TreeLaws.{nesting_falls}

pub deeper : (t a : Tree) (k : ℕ) → a ≡ tree_at (args_of t) k → k < length (args_of t) → nesting a < nesting t
deeper t a k e lt = let h = nesting_falls t k lt in let q = ap nesting e in omega (arith, h, q)

pub below : (k n m : ℕ) → n ≡ m → k < n → k < m
below k n m e lt = omega (arith, e, lt)

pub take_length : (k : ℕ) (xs : List ℕ) → k ≤ length xs → k ≡ length (take k xs)
take_length k xs h = let e = length-take k xs in omega (arith, e, h)
