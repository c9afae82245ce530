use Rattle.std.proofs.Common.{◌≡◌, drop}
use Rattle.rare_sort.specs.inner.Within.{zero_width}
use Rattle.rare_type.specs.inner.Steps.{summed_from}
use Rattle.rare_type.proofs.bare.total_width.Given as goal

-- the sum so far, with what is left, is the whole sum
abbrev pub invariant-loop-sort : goal.invariant-loop-sort
invariant-loop-sort l = summed_from zero_width l.sorts ≡ summed_from l.total (drop l.sort-index l.sorts)
