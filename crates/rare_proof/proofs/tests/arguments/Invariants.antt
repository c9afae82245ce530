use Rattle.rare_inst.specs.Answers.{AreGiven}
use Rattle.rare_proof.proofs.tests.arguments.Given as goal

abbrev pub invariant-loop-row : goal.invariant-loop-row
invariant-loop-row g l = AreGiven (g.T.Terms.state l.terms) l.args
