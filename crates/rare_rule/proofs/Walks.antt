-- What computes on a written rule: the nodes of a tree, and the nesting of a sort.
use Rattle.std.proofs.Common.{◌≡◌, ℕ, List, map}
use Rattle.rare_linear.specs.Linears.{LinearExpression}
use Rattle.rare_sort.specs.Trees.{node}
use Rattle.rare_sort.specs.DeclaredSorts.{sort_nesting, sort_nesting_step}
use Rattle.rare_sort.specs.declared.head.Head.{Head}
use Rattle.rare_sort.specs.declared.sort.Sort.{Bool, Int, BitVec, Named}
use Rattle.rare_sort.specs.declared.sort.Sort as sort
use Rattle.rare_sort.specs.declared.sort.Sort.TheOpen as shape
use denote.Hole.Carrier
use Rattle.rare_sort.specs.declared.sort.Sort.TheFolds.{fold-roll-Sort}
use Rattle.rare_sort.specs.declared.tree.Tree.{Tree, fold-roll-Tree}
use Rattle.rare_rule.specs.Nodes.{Walk, walk, walk_step}

pub walk-node : (h : Head) (ix : List LinearExpression) (ts : List Tree) → walk (node h ix ts) ≡ walk_step (record { head = h; indices = ix; args = map walk ts })
walk-node h ix ts = fold-roll-Tree Walk walk_step (record { head = h; indices = ix; args = ts })

pub nesting-Bool : sort_nesting Bool ≡ 1
unfolding sort.roll-Sort denote.Hole.Carrier.roll
nesting-Bool = fold-roll-Sort ℕ sort_nesting_step shape.Bool

pub nesting-Int : sort_nesting Int ≡ 1
unfolding sort.roll-Sort denote.Hole.Carrier.roll
nesting-Int = fold-roll-Sort ℕ sort_nesting_step shape.Int

pub nesting-BitVec : (w : LinearExpression) → sort_nesting (BitVec w) ≡ 1
unfolding sort.roll-Sort denote.Hole.Carrier.roll
nesting-BitVec w = fold-roll-Sort ℕ sort_nesting_step (shape.BitVec w)

pub nesting-Named : (k : ℕ) → sort_nesting (Named k) ≡ 1
unfolding sort.roll-Sort denote.Hole.Carrier.roll
nesting-Named k = fold-roll-Sort ℕ sort_nesting_step (shape.Named k)
