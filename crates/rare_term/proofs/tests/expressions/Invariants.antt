use Rattle.rare_sort.specs.DeclaredSorts.{AreNamed}
use Rattle.rare_term.proofs.tests.expressions.Given as goal

abbrev pub invariant-rows : goal.invariant-rows
invariant-rows l = AreNamed 2 l.all
