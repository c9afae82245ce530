use Rattle.std.proofs.Common.{◌≡◌, ◌+◌, ◌≤◌, drop, map}
use Rattle.rare_rule.specs.NodeForms.{lists_among}
use Rattle.rare_sort.specs.Trees.{head_of}
use Rattle.rare_parse.proofs.nodes.count_lists.Given as goal

abbrev pub invariant-loop-arg : goal.invariant-loop-arg
invariant-loop-arg l = record {
  rest : l.lists + lists_among l.params (map head_of (drop l.arg-index l.args)) ≡ lists_among l.params (map head_of l.args);
  few : l.lists ≤ l.arg-index;
}
