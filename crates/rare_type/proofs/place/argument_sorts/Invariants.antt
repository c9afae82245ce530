use Rattle.std.proofs.Common.{◌≡◌, ◌++◌, map, drop, Ok}
use Rattle.rare_sort.specs.Sorting.{all_of, place_sort}
use Rattle.rare_type.specs.FirstCase.{and_then}
use Rattle.rare_type.specs.inner.Answering.{spec_places}
use Rattle.rare_type.specs.inner.Steps.{or_clash}
use Rattle.rare_type.proofs.place.argument_sorts.Given as goal

-- the sorts so far stand before those of what is left
abbrev pub invariant-loop-place : goal.invariant-loop-place
invariant-loop-place l =
    or_clash (all_of (map (place_sort l.head) (spec_places l.places)))
    ≡ and_then (or_clash (all_of (map (place_sort l.head) (spec_places (drop l.place-index l.places))))) (λ rest. Ok (l.sorts ++ rest))
