use Rattle.std.proofs.Common.{◌≡◌, take, drop}
use Rattle.rare_sort.specs.Rulings.{all_within}
use Rattle.rare_type.specs.FirstCase.{floors}
use Rattle.rare_type.proofs.sides.floors_of.Given as goal

abbrev pub invariant-loop-bound : goal.invariant-loop-bound
invariant-loop-bound l = record {
  copied : l.needs ≡ floors (take l.bound-index l.bounds);
  within : all_within (floors l.bounds) ≡ all_within (floors (drop l.bound-index l.bounds));
}
