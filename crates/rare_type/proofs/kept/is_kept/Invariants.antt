use Rattle.std.proofs.Common.{◌≡◌, drop}
use Rattle.std.specs.List.{list_any}
use Rattle.rare_sort.specs.Sameness.{linear_eq}
use Rattle.rare_type.specs.FirstCase.{floors}
use Rattle.rare_type.proofs.kept.is_kept.Given as goal

-- what is left decides
abbrev pub invariant-loop-constraint : goal.invariant-loop-constraint
invariant-loop-constraint l = list_any (linear_eq l.need) (floors l.kept) ≡ list_any (linear_eq l.need) (floors (drop l.constraint-index l.kept))
