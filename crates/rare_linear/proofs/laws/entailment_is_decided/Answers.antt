use Rattle.rare_linear.proofs.EntailmentTestLemmas.{is_entailed-Decides}
use Rattle.rare_linear.proofs.laws.entailment_is_decided.Goals as goal

pub returns : goal.returns
returns c = is_entailed-Decides
