use Rattle.rare_bits.proofs.BelowLemmas.{arithmetic-below, division-below, shifts-below, complements-below, sign_extend-below}
use Rattle.rare_bits.proofs.below_law.Goals as goal

pub returns-clause-arithmetic : goal.returns-clause-arithmetic
returns-clause-arithmetic c = arithmetic-below

pub returns-clause-division : goal.returns-clause-division
returns-clause-division c = division-below

pub returns-clause-shifts : goal.returns-clause-shifts
returns-clause-shifts c = shifts-below

pub returns-clause-complements : goal.returns-clause-complements
returns-clause-complements c = complements-below

pub returns-clause-extension : goal.returns-clause-extension
returns-clause-extension c = sign_extend-below
