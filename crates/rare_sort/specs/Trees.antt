-- Terms as plain trees, and their measures.
use Rattle.std.specs.Prelude.{ℕ, ◌+◌, max, sum, List, [], ◌∷◌}
use Rattle.rare_linear.specs.Linears.{LinearExpression}
use Rattle.rare_sort.specs.declared.head.Head.{Head}
use Rattle.rare_sort.specs.declared.tree.Tree.{Tree, out-Tree}
use Rattle.rare_sort.specs.declared.tree.Tree.TheOpen.{Tree-F}
use Rattle.rare_sort.specs.declared.tree.Tree.TheViews.{roll-Tree}
use Rattle.rare_sort.specs.declared.tree.Tree.TheFolds.{fold-Tree}

-- the tree with this operator, these indices and these arguments
abbrev pub node : Head → List LinearExpression → List Tree → Tree
node h ix ts = roll-Tree (record { head = h; indices = ix; args = ts })

abbrev pub head_of : Tree → Head
head_of t = (out-Tree t).head

abbrev pub indices_of : Tree → List LinearExpression
indices_of t = (out-Tree t).indices

abbrev pub args_of : Tree → List Tree
args_of t = (out-Tree t).args

abbrev pub greatest : List ℕ → ℕ
greatest [] = 0
greatest (n ∷ ns) = max n (greatest ns)

abbrev pub nesting_step : Tree-F ℕ → ℕ
nesting_step t = 1 + greatest t.args

-- how deep a term nests; one without arguments counts as 1
abbrev pub nesting : Tree → ℕ
nesting = fold-Tree ℕ nesting_step

abbrev pub size_step : Tree-F ℕ → ℕ
size_step t = 1 + sum t.args

-- the nodes of a term, counted with repeats
abbrev pub size : Tree → ℕ
size = fold-Tree ℕ size_step
