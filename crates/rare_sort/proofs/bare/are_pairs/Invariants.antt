use Rattle.std.proofs.Common.{◌≡◌, drop, zip}
use Rattle.rare_sort.specs.Ids.{sorts_at}
use Rattle.rare_sort.specs.Rulings.{all_one}
use Rattle.rare_sort.proofs.bare.are_pairs.Given as goal

-- what is left decides
abbrev pub invariant-loop-id : goal.invariant-loop-id
invariant-loop-id l = all_one (zip (sorts_at l.sorts l.args) l.wanted) ≡ all_one (zip (sorts_at l.sorts (drop l.id-index l.args)) l.rest)
