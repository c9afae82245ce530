use Rattle.std.proofs.Common.{◌≡◌, ◌+◌, ◌*◌, ◌≤◌, sum, drop}
use Rattle.rare_term.specs.inner.Nodes.{sizes}
use Rattle.rare_term.proofs.scan.size_of.Given as goal

abbrev pub invariant-loop-id : goal.invariant-loop-id
invariant-loop-id l = record {
  bound : l.n ≤ l.id-index * 1048576;
  same : l.n + sum (sizes l.nodes (drop l.id-index l.args)) ≡ sum (sizes l.nodes l.args);
}
