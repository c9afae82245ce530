use Rattle.std.proofs.Common.{◌≡◌, ◌++◌, take}
use Rattle.std.specs.Prelude.{flat_map}
use Rattle.rare_sort.specs.Ids.{tree_at}
use Rattle.rare_sort.specs.Trees.{indices_of}
use Rattle.rare_term_printing.specs.inner.Writing.{spaced_index}
use Rattle.rare_term_printing.proofs.operator.write_indices.Given as goal

abbrev pub invariant-loop-k : goal.invariant-loop-k
invariant-loop-k g l = l.out ≡ l.fn.out ++ flat_map (spaced_index l.scope) (take l.k (indices_of (tree_at (g.T.Terms.state l.terms).trees l.id.0)))
