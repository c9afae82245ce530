-- The nodes of a tree of a rule, in the order in which the left side is read: an application's arguments from left to right, then itself.
use Rattle.std.specs.Prelude.{Bool, false, List, [], ◌∷◌, ◌++◌, map, flat_map, Option, Some, None}
use Rattle.rare_linear.specs.Linears.{LinearExpression}
use Rattle.rare_sort.specs.Sorting.{splices, is_concat}
use Rattle.rare_sort.specs.declared.head.Head.{Head}
use Rattle.rare_sort.specs.declared.tree.Tree.{Tree, Tree-F, fold-Tree}

-- an operator with its indices, the operator that it is an argument of, and the operators of its arguments
pub record Node : Type 0 where
  pub head : Head
  pub indices : List LinearExpression
  pub parent : Option Head
  pub args : List Head

-- the operator at the root, those of its arguments, and the nodes below and with it, by the operator that it is an argument of
pub record Walk : Type 0 where
  pub root : Head
  pub args : List Head
  pub nodes : Option Head → List Node

abbrev pub walk_step : Tree-F Walk → Walk
walk_step n = record {
  root = n.head;
  args = map (λ w. w.root) n.args;
  nodes =
      λ parent.
      flat_map (λ w. w.nodes (Some n.head)) n.args
      ++ (record { head = n.head; indices = n.indices; parent = parent; args = map (λ w. w.root) n.args } ∷ []);
}

abbrev pub walk : Tree → Walk
walk = fold-Tree Walk walk_step

abbrev pub nodes_of : Tree → List Node
nodes_of t = (walk t).nodes None

abbrev pub nodes_in : List Tree → List Node
nodes_in ts = flat_map (λ w. w.nodes None) (map walk ts)

-- it is an argument of an operator among whose arguments lists are spliced in
abbrev pub is_spliced : Option Head → Bool
is_spliced (Some h) = splices h
is_spliced None = false

abbrev pub is_under_concat : Option Head → Bool
is_under_concat (Some h) = is_concat h
is_under_concat None = false
