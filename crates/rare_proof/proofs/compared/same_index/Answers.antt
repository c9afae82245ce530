use Rattle.rare_proof.proofs.Comparing.{indices_same}
use Rattle.rare_proof.proofs.compared.same_index.Goals as goal

pub returns : goal.returns
returns c = indices_same c.args.a.now c.args.b.now c.is_same.result c.is_same.ensures
