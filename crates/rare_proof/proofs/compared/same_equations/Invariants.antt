use Rattle.std.proofs.Common.{◌≡◌, drop}
use Rattle.rare_proof.specs.Sided.{equations_of}
use Rattle.rare_proof.specs.Steps.{equations_eq}
use Rattle.rare_proof.proofs.compared.same_equations.Given as goal

abbrev pub invariant-loop-k : goal.invariant-loop-k
invariant-loop-k g l =
    equations_eq (equations_of (g.T.Terms.state l.terms).trees (drop l.k l.a)) (equations_of (g.T.Terms.state l.terms).trees (drop l.k l.b))
    ≡ equations_eq (equations_of (g.T.Terms.state l.terms).trees l.a) (equations_of (g.T.Terms.state l.terms).trees l.b)
