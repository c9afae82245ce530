use Rattle.std.proofs.Common.{◌≡◌, ◌+◌, ◌*◌, map, take, Some, List}
use Rattle.std.specs.Prelude.{ℤ}
use Rattle.rare_sort.specs.Ids.{tree_at}
use Rattle.rare_sort.specs.Trees.{args_of, nesting}
use Rattle.rare_sort.specs.Sorting.{all_of}
use Rattle.rare_meaning.specs.Settings.{Item}
use Rattle.rare_meaning.specs.Splicing.{values, all_differ}
use Rattle.rare_eval.specs.Evaluation.{evaluation}
use Rattle.rare_eval.specs.inner.Ordinals.{value_ordinal}
use Rattle.rare_eval.specs.inner.Progress.{AreLimited, IsAfter}
use Rattle.rare_eval.proofs.evaluation.+values.Given as goal

abbrev pub decreases-value : goal.decreases-value
decreases-value g l = 2 * nesting (tree_at (g.T.Terms.state l.terms.now).trees l.id.0) + 1

abbrev pub decreases-distinct : goal.decreases-distinct
decreases-distinct g l = 2 * nesting (tree_at (g.T.Terms.state l.terms.now).trees l.id.0)

abbrev pub invariant-value-arguments : goal.invariant-value-arguments
invariant-value-arguments g l = record {
  done : (is : List Item) × (all_of (map evaluation (take l.k (args_of (tree_at (g.T.Terms.state l.terms).trees l.id.0)))) ≡ Some is) × ((ns : List ℤ) → IsAfter l.head ns is l.progress);
  limited : AreLimited l.progress;
}

abbrev pub invariant-distinct-arguments : goal.invariant-distinct-arguments
invariant-distinct-arguments g l =
    (is : List Item) × (all_of (map evaluation (take l.k (args_of (tree_at (g.T.Terms.state l.terms).trees l.id.0)))) ≡ Some is)
    × (map (λ i. value_ordinal i.value) is ≡ take l.k l.seen) × (l.differ ≡ all_differ (values is))
