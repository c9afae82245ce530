use Rattle.std.proofs.Common.{◌≡◌, ◌++◌, take}
use Rattle.std.specs.List.{flat_map}
use Rattle.rare_cli.specs.Outcomes.{trust_line}
use Rattle.rare_cli.proofs.report.write_trusted.Given as goal

abbrev pub invariant-loop-k : goal.invariant-loop-k
invariant-loop-k l = l.out ≡ l.fn.out ++ flat_map (trust_line l.rules) (take l.k-index l.trusted)
