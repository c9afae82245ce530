use Rattle.std.proofs.Common.{◌≡◌, take}
use Rattle.rare_sort.proofs.tree.copy_linears.Given as goal

abbrev pub invariant-loop-linear : goal.invariant-loop-linear
invariant-loop-linear l = l.to ≡ take l.linear-index l.from
