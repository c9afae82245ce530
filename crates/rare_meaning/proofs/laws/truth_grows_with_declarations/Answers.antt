use Rattle.rare_meaning.proofs.RewriteLemmas.{more_declares_truth, declaring_is_an_order}
use Rattle.rare_meaning.proofs.laws.truth_grows_with_declarations.Goals as goal

pub returns-clause-truth : goal.returns-clause-truth
returns-clause-truth c = more_declares_truth

pub returns-clause-order : goal.returns-clause-order
returns-clause-order c = declaring_is_an_order
