use Rattle.std.proofs.Common.{◌≡◌, ◌≤◌, max, drop}
use Rattle.rare_sort.specs.Trees.{greatest}
use Rattle.rare_term.specs.inner.Nodes.{nestings}
use Rattle.rare_term.proofs.scan.deepest_of.Given as goal

abbrev pub invariant-loop-id : goal.invariant-loop-id
invariant-loop-id l = record {
  bound : l.n ≤ 2000;
  same : max l.n (greatest (nestings l.nodes (drop l.id-index l.args))) ≡ greatest (nestings l.nodes l.args);
}
