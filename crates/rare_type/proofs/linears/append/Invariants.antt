use Rattle.std.proofs.Common.{◌≡◌, ◌++◌, take}
use Rattle.rare_type.proofs.linears.append.Given as goal

abbrev pub invariant-loop-e : goal.invariant-loop-e
invariant-loop-e l = l.to ≡ l.initial.to ++ take l.e-index l.from
