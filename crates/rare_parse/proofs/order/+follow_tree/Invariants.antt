use Rattle.std.proofs.Common.{flat_map, take, true}
use Rattle.rare_sort.specs.Trees.{head_of, args_of}
use Rattle.rare_parse.specs.inner.Following.{Follows}
use Rattle.rare_parse.proofs.TreeMentions.{child_mentions}
use Rattle.rare_parse.proofs.order.+follow_tree.Given as goal

abbrev pub invariant-loop-arg : goal.invariant-loop-arg
invariant-loop-arg l = Follows (flat_map (child_mentions l.params (head_of l.tree)) (take l.arg-index (args_of l.tree))) l.initial.found l.found true
