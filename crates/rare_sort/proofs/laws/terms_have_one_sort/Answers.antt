use Rattle.rare_sort.proofs.SortLawLemmas.{has_one_sort}
use Rattle.rare_sort.proofs.laws.terms_have_one_sort.Goals as goal

pub returns : goal.returns
returns c = has_one_sort
