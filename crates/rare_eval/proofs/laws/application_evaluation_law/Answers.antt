use Rattle.rare_eval.proofs.EvaluationLemmas.{evaluation-node}
use Rattle.rare_eval.proofs.laws.application_evaluation_law.Goals as goal

pub returns : goal.returns
returns c = evaluation-node
