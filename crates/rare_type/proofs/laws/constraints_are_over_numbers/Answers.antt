use Rattle.rare_type.proofs.Numbers.{over_numbers}
use Rattle.rare_type.proofs.laws.constraints_are_over_numbers.Goals as goal

pub returns : goal.returns
returns c = over_numbers
