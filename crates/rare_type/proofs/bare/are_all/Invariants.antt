use Rattle.std.proofs.Common.{◌≡◌, drop}
use Rattle.rare_sort.specs.SortRules.{each_is}
use Rattle.rare_sort.specs.Rulings.{all_one}
use Rattle.rare_type.proofs.bare.are_all.Given as goal

-- what is left decides
abbrev pub invariant-loop-each : goal.invariant-loop-each
invariant-loop-each l = all_one (each_is l.sort l.sorts) ≡ all_one (each_is l.sort (drop l.each-index l.sorts))
