use Rattle.rare_eval.proofs.slices.+copies.Given as goal

abbrev pub decreases-copies : goal.decreases-copies
decreases-copies l = l.times
