use Rattle.rare_sort.proofs.SortOfLaw.{have_their_sort}
use Rattle.rare_sort.proofs.laws.terms_have_their_sort.Goals as goal

pub returns : goal.returns
returns c = have_their_sort
