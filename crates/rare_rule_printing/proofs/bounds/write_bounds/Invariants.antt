use Rattle.std.proofs.Common.{◌≡◌, ◌++◌, take}
use Rattle.std.specs.Prelude.{flat_map}
use Rattle.rare_rule_printing.specs.inner.RulePieces.{spaced_constraint}
use Rattle.rare_rule_printing.proofs.bounds.write_bounds.Given as goal

abbrev pub invariant-loop-bound : goal.invariant-loop-bound
invariant-loop-bound l = l.out ≡ l.initial.out ++ flat_map (spaced_constraint l.params) (take l.bound-index l.rest)
