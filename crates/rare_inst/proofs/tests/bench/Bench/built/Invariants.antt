use Rattle.rare_inst.specs.inner.Ready.{IsReady}
use Rattle.rare_inst.proofs.tests.bench.Bench.built.Given as goal

abbrev pub invariant-steps : goal.invariant-steps
invariant-steps g l = IsReady (g.T.Terms.state l.self.terms) l.self.last
