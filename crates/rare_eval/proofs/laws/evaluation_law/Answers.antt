use Rattle.rare_eval.proofs.EvaluationLemmas.{value_is_meaning, one_value_means_same}
use Rattle.rare_eval.proofs.laws.evaluation_law.Goals as goal

pub returns : goal.returns
returns c = record { meaning = value_is_meaning; same = one_value_means_same }
