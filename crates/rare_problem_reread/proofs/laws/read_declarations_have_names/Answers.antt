use Rattle.rare_problem_reread.proofs.Scopes.{each_named}
use Rattle.rare_problem_reread.proofs.laws.read_declarations_have_names.Goals as goal

pub returns : goal.returns
returns c = λ bytes p ts held read is. each_named bytes p ts held is read
