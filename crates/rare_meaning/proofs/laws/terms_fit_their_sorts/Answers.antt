use Rattle.rare_meaning.proofs.TermsFit.{terms_fit}
use Rattle.rare_meaning.proofs.laws.terms_fit_their_sorts.Goals as goal

pub returns : goal.returns
returns c = terms_fit
