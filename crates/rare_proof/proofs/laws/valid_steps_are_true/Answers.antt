-- What valid steps conclude is true, since instances of rules that hold mean the same.
use Rattle.rare_proof.proofs.laws.valid_steps_are_true.Goals as goal
use Rattle.rare_proof.proofs.Soundness.{valid_steps}

pub returns : goal.returns
returns c = λ k d book typed. valid_steps k d c.rules_that_hold_apply.ensures.meanings book typed
