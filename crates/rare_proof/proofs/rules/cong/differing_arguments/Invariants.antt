use Rattle.std.proofs.Common.{◌≡◌, take, length}
use Rattle.rare_sort.specs.Ids.{tree_at}
use Rattle.rare_sort.specs.Trees.{args_of}
use Rattle.rare_proof.specs.Sided.{equations_of, AllAreSides}
use Rattle.rare_proof.specs.Steps.{differing}
use Rattle.rare_proof.proofs.rules.cong.differing_arguments.Given as goal

abbrev pub invariant-loop-k : goal.invariant-loop-k
invariant-loop-k g l = record {
  equations :
      equations_of (g.T.Terms.state l.terms).trees l.equations
      ≡ differing (take l.k (args_of (tree_at (g.T.Terms.state l.terms).trees l.sides.left.0))) (take l.k (args_of (tree_at (g.T.Terms.state l.terms).trees l.sides.right.0)));
  ids : AllAreSides (length (g.T.Terms.state l.terms).trees) l.equations;
}
