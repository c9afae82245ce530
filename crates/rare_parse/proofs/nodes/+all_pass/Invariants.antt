use Rattle.std.proofs.Common.{◌≡◌, drop}
use Rattle.rare_sort.specs.Trees.{head_of, args_of}
use Rattle.rare_parse.specs.inner.WholeTests.{node_test}
use Rattle.rare_parse.proofs.NodeLemmas.{all_below}
use Rattle.rare_parse.proofs.nodes.+all_pass.Given as goal

abbrev pub invariant-loop-arg : goal.invariant-loop-arg
invariant-loop-arg l = all_below (node_test l.asked l.params) (head_of l.tree) (drop l.arg-index (args_of l.tree)) ≡ all_below (node_test l.asked l.params) (head_of l.tree) (args_of l.tree)
