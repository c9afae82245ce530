use Rattle.std.proofs.Common.{◌≡◌, ◌++◌, ◌≤◌, length, drop, ◌-◌}
use Rattle.rare_sexpr.specs.inner.Words.{single}
use Rattle.rare_sexpr.proofs.text.single.Given as goal

abbrev pub invariant-pairs : goal.invariant-pairs
invariant-pairs l = record { within : l.at ≤ length l.inside; same : l.text ++ single (drop l.at l.inside) ≡ single l.inside }

abbrev pub decreases-pairs : goal.decreases-pairs
decreases-pairs l = length l.inside - l.at
