use Rattle.rare_proof.proofs.tests.added.Goals as goal

pub add_step-requires-clause-step : goal.add_step-requires-clause-step
add_step-requires-clause-step g c = record { left = c.requires.left; right = c.requires.right; by = c.requires.rule }
