use Rattle.rare_problem_reread.proofs.Scopes.{scope_readable}
use Rattle.rare_problem_reread.proofs.laws.read_scopes_are_readable.Goals as goal

pub returns : goal.returns
returns c = λ bytes p ts held r is. scope_readable bytes p ts held is r
