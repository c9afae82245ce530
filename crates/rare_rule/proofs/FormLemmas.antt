-- A written rule is in form where all tests come out true over walks of its trees, which compute node by node.
use Rattle.std.proofs.Common.{List, [], ◌++◌, map, flat_map, length, Bool, true, false, ◌&&◌, IsTrue, refl, None}
use Rattle.std.specs.Prelude.{nat_le, nat_eq}
use Rattle.rare_rule.specs.Determination.{node_mentions, list_uses, are_in_order, are_all_determined}
use Rattle.rare_rule.specs.NodeForms.{all_nodes, has_indices, is_node_form, is_literal_within, has_few_lists, is_placed, hole_nodes}
use Rattle.rare_rule.specs.Nodes.{Node, Walk, walk}
use Rattle.rare_rule.specs.ParamForms.{NO_NAMES, are_bounds, has_sort_over, has_shallow_sort, is_param_form, all_params, declared_names, all_differ_from, are_last, are_brought}
use Rattle.rare_rule.specs.Rules.{IsInForm, MOST_RULE_NODES, is_form, context_parts}
use Rattle.rare_rule.specs.declared.rule.Rule.{Rule}

both : (a b : Bool) → IsTrue (a && b) → IsTrue a × IsTrue b
both true b h = (refl, h)
both false b h = absurd cc

-- the tests of the parameters, which compute by themselves
abbrev pub param_tests : Rule → Bool
param_tests r =
    all_params is_param_form r.params
    && (all_differ_from NO_NAMES (declared_names r.params)
    && (are_last r.params
    && (are_brought r.params 0 0 r.params
    && (all_params (λ p. has_sort_over r.params p.kind) r.params && are_bounds r.params r.bounds))))

-- those of all nodes
abbrev pub node_tests : Rule → List Node → Bool
node_tests r ns =
    all_nodes (has_indices r.params) ns
    && (all_nodes (is_node_form r.params) ns
    && (all_nodes (λ n. is_literal_within n.head n.indices) ns
    && (nat_le (length ns) MOST_RULE_NODES && all_nodes (is_placed r.params) ns)))

-- those of the left side
abbrev pub left_tests : Rule → List Node → Bool
left_tests r ns =
    all_nodes (has_few_lists r.params) ns
    && (are_in_order [] (flat_map (node_mentions r.params) ns ++ flat_map list_uses r.params)
    && are_all_determined (flat_map (node_mentions r.params) ns ++ flat_map list_uses r.params) 0 r.params)

-- those of holes, with the form
abbrev pub part_tests : Rule → List Walk → List Node → List Node → Bool
part_tests r premises sides context =
    is_form r.kind r.params premises r.context
    && (nat_eq (hole_nodes sides) 0 && nat_eq (hole_nodes context) (length (context_parts r.context)))

pub in_form : (r : Rule) → IsTrue (param_tests r) → IsTrue (all_params (λ p. has_shallow_sort p.kind) r.params) →
    IsTrue (node_tests r ((flat_map (λ w. w.nodes None) (map walk r.premises) ++ ((walk r.left).nodes None ++ (walk r.right).nodes None)) ++ flat_map (λ w. w.nodes None) (map walk (context_parts r.context)))) →
    IsTrue (left_tests r ((walk r.left).nodes None)) →
    IsTrue (part_tests r (map walk r.premises) (flat_map (λ w. w.nodes None) (map walk r.premises) ++ ((walk r.left).nodes None ++ (walk r.right).nodes None)) (flat_map (λ w. w.nodes None) (map walk (context_parts r.context)))) →
    IsInForm r
in_form r ps shallow ns ls parts =
    let p1 = both _ _ ps in
    let p2 = both _ _ p1.1 in
    let p3 = both _ _ p2.1 in
    let p4 = both _ _ p3.1 in
    let p5 = both _ _ p4.1 in
    let n1 = both _ _ ns in
    let n2 = both _ _ n1.1 in
    let n3 = both _ _ n2.1 in
    let n4 = both _ _ n3.1 in
    let l1 = both _ _ ls in
    let l2 = both _ _ l1.1 in
    let f1 = both _ _ parts in
    record {
      params = p1.0;
      names = p2.0;
      fresh_last = p3.0;
      fresh_brought = p4.0;
      sorts = p5.0;
      bounds = p5.1;
      indices = n1.0;
      operators = n2.0;
      form = f1.0;
      literals = n3.0;
      shallow = shallow;
      nodes = n4.0;
      lists = l1.0;
      holes = f1.1;
      placed = n4.1;
      in_order = l2.0;
      determined = l2.1;
    }
