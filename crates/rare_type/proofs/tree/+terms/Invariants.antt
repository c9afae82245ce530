use Rattle.std.proofs.Common.{◌≡◌, [], map, drop, None}
use Rattle.std.specs.Option.{option_map}
use Rattle.rare_type.specs.FirstCase.{typed_tree}
use Rattle.rare_type.specs.inner.Answering.{spec_places}
use Rattle.rare_type.specs.inner.Steps.{args_from}
use Rattle.rare_type.proofs.tree.+terms.Given as goal

-- what is left goes on from the places so far
abbrev pub invariant-type_args-loop-tree : goal.invariant-type_args-loop-tree
invariant-type_args-loop-tree l =
    args_from [] [] (map (λ t. typed_tree l.params (option_map (λ s. s.now) l.hole) t None) l.trees)
    ≡ args_from (spec_places l.places) l.needs (map (λ t. typed_tree l.params (option_map (λ s. s.now) l.hole) t None) (drop l.tree-index l.trees))
