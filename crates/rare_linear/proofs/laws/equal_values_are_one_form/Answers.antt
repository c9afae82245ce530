use Rattle.rare_linear.proofs.Unique.{same_expression}
use Rattle.rare_linear.proofs.laws.equal_values_are_one_form.Goals as goal

pub returns : goal.returns
returns c = same_expression
