-- What a list of nodes stands for.
use Rattle.std.specs.Prelude.{◌≡◌, ℕ, ◌≤◌, List, [], ◌∷◌, ◌++◌, map, get_or}
use Rattle.rare_linear.specs.Linears.{LinearExpression}
use Rattle.rare_sort.specs.Ids.{AreIds, tree_at, trees_at}
use Rattle.rare_sort.specs.Trees.{nesting, node, size}
use Rattle.rare_sort.specs.declared.declarations.Declarations.{Declarations}
use Rattle.rare_sort.specs.declared.head.Head.{Head}
use Rattle.rare_sort.specs.declared.head.Head.TheVariants.{True}
use Rattle.rare_sort.specs.declared.tree.TermId.{TermId}
use Rattle.rare_sort.specs.declared.tree.Tree.{Tree}
use Rattle.rare_term.specs.Limits.{MOST_NESTED, MOST_NODES}
use Rattle.rare_term.specs.State.{State}
use Rattle.rare_term.specs.declared.node.Node.{Node}

-- the tree of a node, from those before it
abbrev pub tree_of : List Tree → Node → Tree
tree_of ts n = node n.head n.indices (trees_at ts n.args)

abbrev pub built : List Tree → List Node → List Tree
built ts [] = ts
built ts (n ∷ ns) = built (ts ++ tree_of ts n ∷ []) ns

-- the trees of the nodes, in order
abbrev pub trees_of : List Node → List Tree
trees_of ns = built [] ns

-- node i is right among these trees
pub record IsNode (ts : List Tree) (i : ℕ) (n : Node) : Type 0 where
  pub below : AreIds i n.args
  pub tree : tree_at ts i ≡ tree_of ts n
  pub deep : n.nesting ≡ nesting (tree_at ts i)
  pub large : n.size ≡ size (tree_at ts i)

abbrev pub blank : Node
blank = record { head = True; indices = []; args = []; nesting = 0; size = 0 }

abbrev pub node_at : List Node → ℕ → Node
node_at ns i = get_or ns i blank

abbrev pub nestings : List Node → List TermId → List ℕ
nestings ns ids = map (λ id. (node_at ns id.0).nesting) ids

abbrev pub sizes : List Node → List TermId → List ℕ
sizes ns ids = map (λ id. (node_at ns id.0).size) ids

abbrev pub IsSmall : Node → Type 0
IsSmall n = (n.nesting ≤ MOST_NESTED) × (n.size ≤ MOST_NODES)

-- the node has this head, these indices and these arguments
pub record Is (n : Node) (h : Head) (ix : List LinearExpression) (ids : List TermId) : Type 0 where
  pub head : n.head ≡ h
  pub indices : n.indices ≡ ix
  pub args : n.args ≡ ids

abbrev pub IsAt : List Node → ℕ → Head → List LinearExpression → List TermId → Type 0
IsAt ns k h ix ids = Is (node_at ns k) h ix ids

-- what a plain keeper stands for
abbrev pub state_of : List Node → Declarations → State
state_of ns d = record { trees = trees_of ns; declared = d }
