use Rattle.std.proofs.Common.{◌≡◌, drop}
use Rattle.rare_sort.specs.Ids.{tree_at}
use Rattle.rare_sort.specs.Sameness.{linears_eq}
use Rattle.rare_sort.specs.Trees.{indices_of}
use Rattle.rare_proof.proofs.compared.same_indices.Given as goal

abbrev pub invariant-loop-k : goal.invariant-loop-k
invariant-loop-k g l =
    let ts = (g.T.Terms.state l.terms).trees in
    linears_eq (drop l.k (indices_of (tree_at ts l.sides.left.0))) (drop l.k (indices_of (tree_at ts l.sides.right.0)))
    ≡ linears_eq (indices_of (tree_at ts l.sides.left.0)) (indices_of (tree_at ts l.sides.right.0))
