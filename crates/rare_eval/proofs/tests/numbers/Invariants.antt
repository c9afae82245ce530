use Rattle.rare_sort.specs.DeclaredSorts.{AreNamed}
use Rattle.rare_eval.proofs.tests.numbers.Given as goal

abbrev pub invariant-indices : goal.invariant-indices
invariant-indices l = AreNamed 0 l.all
