use Rattle.rare_sort.proofs.SamenessLemmas.{is_decided}
use Rattle.rare_sort.proofs.laws.sameness_is_decided.Goals as goal

pub returns : goal.returns
returns c = is_decided
