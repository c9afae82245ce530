use Rattle.std.proofs.Common.{length}
use Rattle.rare_sort.specs.Ids.{AreIds}
use Rattle.rare_reread.specs.inner.Ready.{AreReady}
use Rattle.rare_reread.proofs.tests.first_wrong.Given as goal

abbrev pub invariant-rows : goal.invariant-rows
invariant-rows g l = record {
  ready : AreReady (g.T.Terms.state l.terms) l.scope;
  shared : AreIds (length (g.T.Terms.state l.terms).trees) l.shared;
}
