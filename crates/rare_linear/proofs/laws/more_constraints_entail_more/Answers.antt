use Rattle.rare_linear.proofs.LawLemmas.{entailed_more}
use Rattle.rare_linear.proofs.laws.more_constraints_entail_more.Goals as goal

pub returns : goal.returns
returns c = entailed_more
