use Rattle.std.proofs.Common.{◌≡◌, drop}
use Rattle.rare_sort.specs.Ids.{sorts_at}
use Rattle.rare_sort.specs.SortRules.{each_is}
use Rattle.rare_sort.specs.Rulings.{all_one}
use Rattle.rare_sort.proofs.bare.are_all.Given as goal

-- what is left decides
abbrev pub invariant-loop-id : goal.invariant-loop-id
invariant-loop-id l = all_one (each_is l.sort (sorts_at l.sorts l.args)) ≡ all_one (each_is l.sort (sorts_at l.sorts (drop l.id-index l.args)))
