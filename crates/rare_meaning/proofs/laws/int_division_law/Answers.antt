use Rattle.rare_meaning.proofs.DivisionLemmas.{int_division_law}
use Rattle.rare_meaning.proofs.laws.int_division_law.Goals as goal

pub returns : goal.returns
returns c = int_division_law
