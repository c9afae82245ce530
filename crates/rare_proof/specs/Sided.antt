-- Sides of equations by ids, and the equations of their trees.
use Rattle.std.specs.Prelude.{ℕ, ◌<◌, List, map, All}
use Rattle.rare_sort.specs.Ids.{tree_at}
use Rattle.rare_sort.specs.declared.tree.Tree.{Tree}
use Rattle.rare_proof.specs.declared.sides.Sides.{Sides}
use Rattle.rare_proof.specs.Steps.{Equation, equation}

abbrev pub equation_of : List Tree → Sides → Equation
equation_of ts s = equation (tree_at ts s.left.0) (tree_at ts s.right.0)

abbrev pub equations_of : List Tree → List Sides → List Equation
equations_of ts ss = map (equation_of ts) ss

-- both sides are ids below a number
pub record AreSides (n : ℕ) (s : Sides) : Type 0 where
  pub left : s.left.0 < n
  pub right : s.right.0 < n

abbrev pub AllAreSides : ℕ → List Sides → Type 0
AllAreSides n ss = All (AreSides n) ss
