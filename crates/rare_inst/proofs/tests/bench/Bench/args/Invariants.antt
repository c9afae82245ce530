use Rattle.rare_inst.specs.inner.Ready.{IsReady}
use Rattle.rare_inst.proofs.tests.bench.Bench.args.Given as goal

abbrev pub invariant-row : goal.invariant-row
invariant-row g l = IsReady (g.T.Terms.state l.self.terms) l.self.last
