use Rattle.rare_eval.proofs.ValueTermLemmas.{have_their_value, one_value_term}
use Rattle.rare_eval.proofs.laws.value_term_law.Goals as goal

pub returns : goal.returns
returns c = record { value = have_their_value; one = one_value_term }
