-- Terms that can be written: their numbers are those of parameters.
use Rattle.std.specs.Prelude.{Option, IsTrue, List}
use Rattle.rare_sort.specs.declared.head.Head.{Head}
use Rattle.rare_sort.specs.declared.tree.Tree.{Tree}
use Rattle.rare_rule.specs.NodeForms.{all_nodes, has_indices, is_node_form}
use Rattle.rare_rule.specs.Nodes.{walk}
use Rattle.rare_rule.specs.declared.param.Param.{Param}

-- each node is in form, as an argument of some operator or as a root
abbrev pub IsPrintable : List Param → Tree → Type 0
IsPrintable ps t =
    (parent : Option Head)
    × (IsTrue (all_nodes (has_indices ps) ((walk t).nodes parent)) × IsTrue (all_nodes (is_node_form ps) ((walk t).nodes parent)))
