use Rattle.std.proofs.Common.{◌≡◌, drop}
use Rattle.rare_sort.specs.Sorting.{some_list}
use Rattle.rare_type.specs.inner.Answering.{spec_places}
use Rattle.rare_type.proofs.place.has_list.Given as goal

-- what is left decides
abbrev pub invariant-loop-place : goal.invariant-loop-place
invariant-loop-place l = some_list (spec_places l.places) ≡ some_list (spec_places (drop l.place-index l.places))
