use Rattle.rare_scope.specs.Names.{AreMeant}
use Rattle.rare_term_text.proofs.tests.first_wrong_over.Given as goal

abbrev pub invariant-rows : goal.invariant-rows
invariant-rows g l = AreMeant (g.T.Terms.state l.terms) l.scope
