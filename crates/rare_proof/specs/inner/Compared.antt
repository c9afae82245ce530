-- Equations whose sides differ.
use Rattle.std.specs.Prelude.{List, [], ◌∷◌, if◌then◌else◌}
use Rattle.rare_sort.specs.Sameness.{tree_eq}
use Rattle.rare_proof.specs.Steps.{Equation}

-- the equation, unless both its sides are one term
abbrev pub unless_same : Equation → List Equation
unless_same e = if tree_eq e.left e.right then [] else (e ∷ [])
