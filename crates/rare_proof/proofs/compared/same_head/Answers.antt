use Rattle.rare_proof.proofs.Comparing.{heads_same}
use Rattle.rare_proof.proofs.compared.same_head.Goals as goal

pub returns : goal.returns
returns c = heads_same c.args.a c.args.b c.is_same_head.result c.is_same_head.ensures
