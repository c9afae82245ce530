use Rattle.rare_shapes.proofs.OperatorsStand.{the_operators, joins_told}
use Rattle.rare_shapes.proofs.laws.operators_stand.Goals as goal

pub returns-clause-operators : goal.returns-clause-operators
returns-clause-operators c = the_operators

pub returns-clause-joins : goal.returns-clause-joins
returns-clause-joins c = joins_told
