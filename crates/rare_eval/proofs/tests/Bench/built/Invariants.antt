use Rattle.rare_eval.specs.inner.Ready.{IsReady}
use Rattle.rare_eval.proofs.tests.Bench.built.Given as goal

abbrev pub invariant-steps : goal.invariant-steps
invariant-steps g l = IsReady (g.T.Terms.state l.self.terms) l.self.last
