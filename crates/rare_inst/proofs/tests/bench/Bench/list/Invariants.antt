use Rattle.rare_inst.specs.inner.Ready.{IsReady}
use Rattle.rare_inst.proofs.tests.bench.Bench.list.Given as goal

abbrev pub invariant-terms : goal.invariant-terms
invariant-terms g l = IsReady (g.T.Terms.state l.self.terms) l.self.last
