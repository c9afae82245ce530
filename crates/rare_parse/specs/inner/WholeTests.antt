-- What is asked of each node of a rule that is read.
use Rattle.std.specs.Prelude.{◌≡◌, Bool, not, List, [], Option, None, map, Ok}
use Rattle.rare_sort.specs.Trees.{head_of, indices_of, args_of}
use Rattle.rare_sort.specs.declared.head.Head.{Head}
use Rattle.rare_sort.specs.declared.tree.Tree.{Tree}
use Rattle.rare_base.specs.declared.answers.Reason.TheVariants as reason
use Rattle.rare_sexpr.specs.declared.tree.Sexpr.{Sexpr}
use Rattle.rare_scope.specs.Reading.{Read}
use Rattle.rare_rule.specs.Determination.{mentions, are_in_order, are_all_determined}
use Rattle.rare_parse.specs.RuleText.{refused_unless}
use Rattle.rare_rule.specs.NodeForms.{has_few_lists, is_hole, is_placed}
use Rattle.rare_rule.specs.Nodes.{Node}
use Rattle.rare_rule.specs.declared.param.Param.{Param}
use Rattle.rare_rule.specs.declared.rule.Rule.{Rule}
use Rattle.rare_parse.specs.declared.nodes.Asked.{Asked}
use Rattle.rare_parse.specs.declared.nodes.Asked.TheVariants.{FewLists, NoHole, Placed}

abbrev pub node_test : Asked → List Param → Node → Bool
node_test FewLists ps n = has_few_lists ps n
node_test NoHole ps n = not (is_hole n.head)
node_test Placed ps n = is_placed ps n

-- the node at the root of a tree
abbrev pub root_node : Option Head → Tree → Node
root_node parent t = record { head = head_of t; indices = indices_of t; parent = parent; args = map head_of (args_of t) }

-- it has neither premises nor a context
pub record HasSides (r : Rule) : Type 0 where
  pub premises : r.premises ≡ []
  pub context : r.context ≡ None

-- a rule that is small, whose holes and lists stand where they may
abbrev pub ordered : Sexpr → Rule → Read Rule
ordered e r =
    refused_unless (are_in_order [] (mentions r.params r.left)) e reason.LeftIndex (
    refused_unless (are_all_determined (mentions r.params r.left) 0 r.params) e reason.Unbound (
    Ok r))
