use Rattle.rare_sort.proofs.BasicLemmas.{int_declared}
use Rattle.rare_proof.proofs.tests.evaluation.sides_without_values_are_refused.Goals as goal

pub declare_symbol-requires-clause-gives : goal.declare_symbol-requires-clause-gives
declare_symbol-requires-clause-gives g c = int_declared c.new-terms.result.declared
