use Rattle.rare_rule.proofs.OutOfFormLemmas.{out_of_form}
use Rattle.rare_rule.proofs.laws.forms_are_refused.Goals as goal

pub returns : goal.returns
returns c = out_of_form
