use Rattle.rare_sort.proofs.SortLawLemmas.{stays_sorted}
use Rattle.rare_sort.proofs.laws.more_constraints_keep_sorts.Goals as goal

pub returns : goal.returns
returns c = stays_sorted
