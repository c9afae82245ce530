use Rattle.rare_sort.specs.DeclaredSorts.{AreNamed}
use Rattle.rare_inst.proofs.tests.bench.numbers.Given as goal

abbrev pub invariant-indices : goal.invariant-indices
invariant-indices l = AreNamed 0 l.all
