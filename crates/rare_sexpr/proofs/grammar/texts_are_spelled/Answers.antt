use Rattle.rare_sexpr.proofs.Progressing.{commands_are_read}
use Rattle.rare_sexpr.proofs.Complete.{one_reading}
use Rattle.rare_sexpr.proofs.grammar.texts_are_spelled.Goals as goal

pub returns-clause-read : goal.returns-clause-read
returns-clause-read c = commands_are_read

pub returns-clause-one : goal.returns-clause-one
returns-clause-one c = one_reading
