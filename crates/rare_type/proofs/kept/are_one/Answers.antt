use Rattle.rare_type.proofs.Keeping.{one_test}
use Rattle.rare_type.proofs.kept.are_one.Goals as goal

pub returns : goal.returns
returns c = one_test _ _ _ c.is_same.ensures
