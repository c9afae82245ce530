use Rattle.std.proofs.Common.{◌≡◌, ◌++◌, take}
use Rattle.rare_parse.specs.RuleText.{bounds_of}
use Rattle.rare_parse.proofs.bounds.keep.Given as goal

abbrev pub invariant-loop-floor : goal.invariant-loop-floor
invariant-loop-floor l = l.bounds ≡ l.initial.bounds ++ bounds_of (take l.floor-index l.floors)
