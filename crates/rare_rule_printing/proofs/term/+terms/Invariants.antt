use Rattle.std.proofs.Common.{◌≡◌, ◌+◌, ◌*◌, ◌++◌, map, take}
use Rattle.std.specs.Prelude.{flat_map}
use Rattle.rare_sort.specs.Trees.{nesting, greatest}
use Rattle.rare_rule_printing.specs.inner.RulePieces.{spaced_term}
use Rattle.rare_rule_printing.proofs.term.+terms.Given as goal

abbrev pub decreases-write_term : goal.decreases-write_term
decreases-write_term l = 2 * nesting l.tree.now

abbrev pub decreases-write_terms : goal.decreases-write_terms
decreases-write_terms l = 2 * greatest (map nesting l.trees.now) + 1

abbrev pub invariant-write_terms-loop-tree : goal.invariant-write_terms-loop-tree
invariant-write_terms-loop-tree l = l.out ≡ l.fn.out ++ flat_map (spaced_term l.params) (take l.tree-index l.trees)
