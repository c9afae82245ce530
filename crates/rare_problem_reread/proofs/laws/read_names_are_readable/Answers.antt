use Rattle.rare_problem_reread.proofs.Scopes.{names_differ, names_readable}
use Rattle.rare_problem_reread.proofs.laws.read_names_are_readable.Goals as goal

pub returns-clause-readable : goal.returns-clause-readable
returns-clause-readable c = names_readable

pub returns-clause-differ : goal.returns-clause-differ
returns-clause-differ c = names_differ
