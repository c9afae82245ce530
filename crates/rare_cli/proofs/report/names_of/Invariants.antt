use Rattle.std.proofs.Common.{◌≡◌, map, take}
use Rattle.rare_cli.proofs.report.names_of.Given as goal

abbrev pub invariant-loop-rewrite : goal.invariant-loop-rewrite
invariant-loop-rewrite l = l.names ≡ map (λ r. r.name) (take l.rewrite-index l.rewrites)
