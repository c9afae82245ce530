use Rattle.rare_proof.proofs.Values.{values_same}
use Rattle.rare_proof.proofs.rules.evaluate.same_value.Goals as goal

pub returns : goal.returns
returns c = values_same c.args.a c.args.b c.eq.result c.eq.ensures
