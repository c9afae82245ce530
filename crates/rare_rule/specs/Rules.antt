-- When a rule is in form: what its text alone says of it, before it is typed (this project's form of rules as in the RARE paper, FMCAD
-- 2022). Each condition is a test that computes on a written rule.
use Rattle.std.specs.Prelude.{ℕ, nat_eq, nat_le, Bool, true, false, not, ◌&&◌, List, [], ◌∷◌, ◌++◌, map, length, IsTrue, Option, Some, None}
use Rattle.std.specs.List.{list_any}
use Rattle.rare_sort.specs.declared.head.Head.{Head}
use Rattle.rare_sort.specs.declared.head.Head.TheVariants as head
use Rattle.rare_sort.specs.declared.tree.Tree.{Tree}
use Rattle.rare_rule.specs.Params.{is_list_head}
use Rattle.rare_rule.specs.ParamForms.{NO_NAMES, are_bounds, has_sort_over, has_shallow_sort, is_param_form, all_params, declared_names, all_differ_from, are_last, are_brought}
use Rattle.rare_rule.specs.Nodes.{Node, Walk, walk, nodes_of, nodes_in}
use Rattle.rare_rule.specs.NodeForms.{hole_nodes, is_placed, has_few_lists, is_literal_within, all_nodes, has_indices, is_node_form}
use Rattle.rare_rule.specs.Determination.{mentions, are_in_order, are_all_determined}
use Rattle.rare_rule.specs.declared.param.Param.{Param}
use Rattle.rare_rule.specs.declared.rule.Rule.{Rule}
use Rattle.rare_rule.specs.declared.rule.RuleKind.{RuleKind}
use Rattle.rare_rule.specs.declared.rule.RuleKind.TheVariants as form

-- the most nodes of a rule: those of its premises, its sides and its context
abbrev pub MOST_RULE_NODES : ℕ
MOST_RULE_NODES = 256

-- ---- parts

abbrev pub context_parts : Option Tree → List Tree
context_parts None = []
context_parts (Some t) = t ∷ []

-- premises and both sides
abbrev pub side_nodes : Rule → List Node
side_nodes r = nodes_in r.premises ++ (nodes_of r.left ++ nodes_of r.right)

abbrev pub context_nodes : Rule → List Node
context_nodes r = nodes_in (context_parts r.context)

abbrev pub rule_nodes : Rule → List Node
rule_nodes r = side_nodes r ++ context_nodes r

-- ---- the forms of rules

abbrev pub is_and : Head → Bool
is_and head.And = true
is_and _ = false

-- a premise that is split: `and` of two arguments or more, none of them a list variable
abbrev pub is_split : List Param → Walk → Bool
is_split ps w = is_and w.root && (nat_le 2 (length w.args) && not (list_any (is_list_head ps) w.args))

-- the premise of a text, split: one that is not split, or the two arguments or more of one that is
abbrev pub are_premises : List Param → List Walk → Bool
are_premises ps [] = false
are_premises ps (w ∷ []) = not (is_split ps w)
are_premises ps (w ∷ x ∷ ws) = not (list_any (λ p. is_list_head ps p.root) (w ∷ x ∷ ws))

-- a conditional rule has premises and a fixed-point rule a context; no other has
abbrev pub is_form : RuleKind → List Param → (premises : List Walk) → (context : Option Tree) → Bool
is_form form.Plain ps [] None = true
is_form form.Cond ps ts None = are_premises ps ts
is_form form.Fixed ps [] (Some c) = true
is_form k ps ts c = false

-- ---- rules in form

-- the hole stands once in a context, and nowhere else
abbrev pub has_holes : Rule → Bool
has_holes r = nat_eq (hole_nodes (side_nodes r)) 0 && nat_eq (hole_nodes (context_nodes r)) (length (context_parts r.context))

-- the rule is in form
pub record IsInForm (r : Rule) : Type 0 where
  -- the declared parameters have the form of one, other names than the constants and the hole, and names that differ
  pub params : IsTrue (all_params is_param_form r.params)
  pub names : IsTrue (all_differ_from NO_NAMES (declared_names r.params))
  -- behind them stand the fresh ones, each by the parameter that brought it, in the order of these
  pub fresh_last : IsTrue (are_last r.params)
  pub fresh_brought : IsTrue (are_brought r.params 0 0 r.params)
  -- each number in sorts, bounds and indices is that of a parameter of the kind needed there
  pub sorts : IsTrue (all_params (λ p. has_sort_over r.params p.kind) r.params)
  pub bounds : IsTrue (are_bounds r.params r.bounds)
  pub indices : IsTrue (all_nodes (has_indices r.params) (rule_nodes r))
  -- no symbol of a problem stands in it, and parameters and the hole have no arguments
  pub operators : IsTrue (all_nodes (is_node_form r.params) (rule_nodes r))
  -- premises and context are those of its kind
  pub form : IsTrue (is_form r.kind r.params (map walk r.premises) r.context)
  -- no literal and no sort passes its limit
  pub literals : IsTrue (all_nodes (λ n. is_literal_within n.head n.indices) (rule_nodes r))
  pub shallow : IsTrue (all_params (λ p. has_shallow_sort p.kind) r.params)
  -- it has few nodes, and few list variables among the arguments of one application of its left side
  pub nodes : IsTrue (nat_le (length (rule_nodes r)) MOST_RULE_NODES)
  pub lists : IsTrue (all_nodes (has_few_lists r.params) (nodes_of r.left))
  -- holes and list variables stand where they may
  pub holes : IsTrue (has_holes r)
  pub placed : IsTrue (all_nodes (is_placed r.params) (rule_nodes r))
  -- the left side uses no name before it determines it, and determines every name
  pub in_order : IsTrue (are_in_order [] (mentions r.params r.left))
  pub determined : IsTrue (are_all_determined (mentions r.params r.left) 0 r.params)
