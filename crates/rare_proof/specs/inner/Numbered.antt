-- The ids of the sides of steps.
use Rattle.std.specs.Prelude.{◌≡◌, ℕ, List, map}
use Rattle.rare_proof.specs.declared.step.Step.{Step}

abbrev pub sides_numbers : Step → ℕ × ℕ
sides_numbers s = (s.left.0, s.right.0)

-- these are the ids of the sides of the steps, in order, and no two are one
pub record AreNumbered (keys : List (ℕ × ℕ)) (steps : List Step) : Type 0 where
  pub same : keys ≡ map sides_numbers steps
