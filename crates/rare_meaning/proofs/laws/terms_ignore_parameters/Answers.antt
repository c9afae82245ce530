use Rattle.rare_meaning.proofs.ParameterLemmas.{terms_ignore_parameters}
use Rattle.rare_meaning.proofs.laws.terms_ignore_parameters.Goals as goal

pub returns : goal.returns
returns c = terms_ignore_parameters
