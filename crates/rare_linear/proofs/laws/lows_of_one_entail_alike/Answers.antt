use Rattle.rare_linear.proofs.LawLemmas.{ones_alike}
use Rattle.rare_linear.proofs.laws.lows_of_one_entail_alike.Goals as goal

pub returns : goal.returns
returns c = ones_alike
