use Rattle.rare_sort.proofs.BasicLemmas.{bool_declared}
use Rattle.rare_inst.proofs.tests.bench.ready.Goals as goal

pub declare_symbol-requires-clause-gives : goal.declare_symbol-requires-clause-gives
declare_symbol-requires-clause-gives g c = bool_declared (g.T.Terms.state c.args.terms).declared
