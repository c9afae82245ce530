use Rattle.std.proofs.Common.{◌≡◌, drop}
use Rattle.rare_linear.specs.Linears.{NamesBelow}
use Rattle.rare_sort.specs.DeclaredSorts.{widths}
use Rattle.rare_sort.specs.Ids.{sorts_at}
use Rattle.rare_sort.specs.inner.Within.{summed, zero_width}
use Rattle.rare_sort.proofs.joins.sum_of_widths.Given as goal

-- the sum so far, with what is left, is the whole sum
abbrev pub invariant-loop-id : goal.invariant-loop-id
invariant-loop-id l = record {
  sum : summed zero_width (sorts_at l.sorts l.args) ≡ summed l.sum (sorts_at l.sorts (drop l.id-index l.args));
  named : NamesBelow (widths l.declared) l.sum.parts;
}
