use Rattle.rare_eval.proofs.tests.Bench.+tower.Given as goal

abbrev pub decreases-tower : goal.decreases-tower
decreases-tower g l = l.times
