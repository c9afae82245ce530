use Rattle.std.proofs.Common.{◌<◌, length}
use Rattle.rare_proof.specs.Proofs.{IsProofOver}
use Rattle.rare_proof.proofs.tests.first_wrong.Given as goal

abbrev pub invariant-loop-row : goal.invariant-loop-row
invariant-loop-row g l = record {
  last : l.last.0 < length (g.T.Terms.state l.terms).trees;
  proof : IsProofOver (g.T.Terms.state l.terms) l.book l.proof;
}
