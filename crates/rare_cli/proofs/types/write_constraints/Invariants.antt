use Rattle.std.proofs.Common.{◌≡◌, ◌++◌, take}
use Rattle.std.specs.List.{flat_map}
use Rattle.rare_cli.specs.Outcomes.{spaced_constraint}
use Rattle.rare_cli.proofs.types.write_constraints.Given as goal

abbrev pub invariant-loop-constraint : goal.invariant-loop-constraint
invariant-loop-constraint l = l.out ≡ l.fn.out ++ flat_map (spaced_constraint l.rule.params) (take l.constraint-index l.constraints)
