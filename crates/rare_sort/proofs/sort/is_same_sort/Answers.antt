use Rattle.rare_sort.proofs.SamenessLemmas.{sort_eq_is}
use Rattle.rare_sort.proofs.sort.is_same_sort.Goals as goal

pub returns-clause-test : goal.returns-clause-test
returns-clause-test c = sort_eq_is _ _ _ c.are_same.ensures
