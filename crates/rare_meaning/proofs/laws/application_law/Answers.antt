use Rattle.rare_meaning.proofs.MeaningLemmas.{meaning-node}
use Rattle.rare_meaning.proofs.RewriteLemmas.{congruence}
use Rattle.rare_meaning.proofs.laws.application_law.Goals as goal

pub returns-clause-meaning : goal.returns-clause-meaning
returns-clause-meaning c = meaning-node

pub returns-clause-congruence : goal.returns-clause-congruence
returns-clause-congruence c = congruence
