-- Each test comes out as it is worked out.
use Rattle.std.proofs.Common.{◌≡◌, List, [], ◌++◌, flat_map, refl, true, false, None}
use Rattle.rare_sort.specs.declared.tree.Tree.{Tree}
use Rattle.rare_rule.specs.Determination.{node_mentions, list_uses, are_in_order, are_all_determined}
use Rattle.rare_rule.specs.Nodes.{Node, walk, nodes_of}
use Rattle.rare_rule.specs.OutOfForm.{OutOfForm, list_params, wide_params, truth_params}
use Rattle.rare_rule.specs.NodeForms.{all_nodes, is_placed, has_few_lists, hole_nodes}
use Rattle.rare_rule.proofs.Walks.{walk-node}

of_tree : (Q : List Node → Type 0) (t : Tree) → Q ((walk t).nodes None) → Q (nodes_of t)
of_tree Q t q = q

pub out_of_form : OutOfForm
out_of_form = record {
  list_under_concat = of_tree (λ ns. are_in_order [] (flat_map (node_mentions list_params) ns ++ flat_map list_uses list_params) ≡ false) _ (simp walk-node refl);
  list_under_sum = of_tree (λ ns. are_in_order [] (flat_map (node_mentions list_params) ns ++ flat_map list_uses list_params) ≡ true) _ (simp walk-node refl);
  total_too_early = of_tree (λ ns. are_in_order [] (flat_map (node_mentions wide_params) ns ++ flat_map list_uses wide_params) ≡ false) _ (simp walk-node refl);
  total_behind = of_tree (λ ns. are_in_order [] (flat_map (node_mentions wide_params) ns ++ flat_map list_uses wide_params) ≡ true) _ (simp walk-node refl);
  left_out = of_tree (λ ns. are_all_determined (flat_map (node_mentions truth_params) ns ++ flat_map list_uses truth_params) 0 truth_params ≡ false) _ (simp walk-node refl);
  none_left_out = of_tree (λ ns. are_all_determined (flat_map (node_mentions truth_params) ns ++ flat_map list_uses truth_params) 0 truth_params ≡ true) _ (simp walk-node refl);
  misplaced = of_tree (λ ns. all_nodes (is_placed truth_params) ns ≡ false) _ (simp walk-node refl);
  four_lists = of_tree (λ ns. all_nodes (has_few_lists truth_params) ns ≡ false) _ (simp walk-node refl);
  three_lists = of_tree (λ ns. all_nodes (has_few_lists truth_params) ns ≡ true) _ (simp walk-node refl);
  two_holes = of_tree (λ ns. hole_nodes ns ≡ 2) _ (simp walk-node refl);
  unsplit = simp walk-node refl;
  with_list = simp walk-node refl;
  twice = refl;
  constant_name = refl;
  fresh_first = refl;
  fresh_of_another = refl;
  fresh_of_x = refl;
}
