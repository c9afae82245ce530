use Rattle.rare_meaning.proofs.RewriteLemmas.{steps_keep_meaning, same_is_true, true_is_same}
use Rattle.rare_meaning.proofs.laws.same_meaning_law.Goals as goal

pub returns-clause-steps : goal.returns-clause-steps
returns-clause-steps c = steps_keep_meaning

pub returns-clause-truth : goal.returns-clause-truth
returns-clause-truth c = same_is_true

pub returns-clause-sorted : goal.returns-clause-sorted
returns-clause-sorted c = true_is_same
