use Rattle.rare_meaning.proofs.ValueLemmas.{value_eq-true, value_eq-same}
use Rattle.rare_meaning.proofs.ArrayFits.{zero_fits}
use Rattle.rare_meaning.proofs.ArrayLemmas.{array_axioms}
use Rattle.rare_meaning.proofs.laws.laws_of_values.Goals as goal

pub returns-clause-sameness : goal.returns-clause-sameness
returns-clause-sameness c v w = (value_eq-true v w, value_eq-same v w)

pub returns-clause-zeros : goal.returns-clause-zeros
returns-clause-zeros c = zero_fits

pub returns-clause-arrays : goal.returns-clause-arrays
returns-clause-arrays c = array_axioms
