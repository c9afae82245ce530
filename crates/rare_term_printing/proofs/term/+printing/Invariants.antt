use Rattle.std.proofs.Common.{◌≡◌, ◌+◌, ◌*◌, ◌++◌, take}
use Rattle.std.specs.Prelude.{flat_map}
use Rattle.rare_sort.specs.Ids.{tree_at, trees_at}
use Rattle.rare_sort.specs.Trees.{args_of, nesting}
use Rattle.rare_term_printing.specs.inner.Writing.{spaced_part}
use Rattle.rare_term_printing.proofs.term.+printing.Given as goal

abbrev pub decreases-write_part : goal.decreases-write_part
decreases-write_part g l = 2 * nesting (tree_at (g.T.Terms.state l.terms.now).trees l.id.0) + 1

abbrev pub decreases-write_term : goal.decreases-write_term
decreases-write_term g l = 2 * nesting (tree_at (g.T.Terms.state l.terms.now).trees l.id.0)

abbrev pub invariant-write_term-arguments : goal.invariant-write_term-arguments
invariant-write_term-arguments g l =
    l.out ≡ l.initial.out ++ flat_map (spaced_part l.scope (trees_at (g.T.Terms.state l.terms).trees l.shared)) (take l.k (args_of (tree_at (g.T.Terms.state l.terms).trees l.id.0)))
