-- Which shapes of rules hold for each operator whose arguments may be lists.
use Rattle.std.specs.Prelude.{ℕ, ℤ, List, [], ◌++◌}
use Rattle.rare_sort.specs.declared.head.Head.{Head}
use Rattle.rare_sort.specs.declared.tree.Tree.{Tree}
use Rattle.rare_meaning.specs.Values.{ClosedSort}
use Rattle.rare_meaning.specs.ClosedSorts.{closed_sort}
use Rattle.rare_meaning.specs.Settings.{Setting}
use Rattle.rare_meaning.specs.Interpretations.{FunctionClass}
use Rattle.rare_rule.specs.Holds.{Holds, SuitAll}
use Rattle.rare_rule.specs.declared.param.Param.{Param}
use Rattle.rare_shapes.specs.Operators.{Operator}
use Rattle.rare_shapes.specs.Totals.{IsTerm}
use Rattle.rare_shapes.specs.RuleShapes.{Theme, unit_rule, flat_rule, swap_rule}

-- the sort of the terms at a valuation
abbrev pub theme_sort : Theme → (ℕ → ℤ) → (ℕ → ClosedSort) → ClosedSort
theme_sort θ number names = closed_sort number names θ.sort

-- the parameters that come before the terms may be passed over
abbrev pub Skips : Theme → Type 0
Skips θ = (names : ℕ → ClosedSort) (e : Setting) (ps : List Param) → SuitAll names e 0 (θ.before ++ ps) → SuitAll names e θ.first ps

-- an operator at each valuation
abbrev pub Operators : Theme → Head → Type 0
Operators θ h = (number : ℕ → ℤ) (names : ℕ → ClosedSort) → Operator h (theme_sort θ number names)

-- the tree means the neutral value at each valuation
abbrev pub IsNeutral : (θ : Theme) (h : Head) → Operators θ h → Tree → Type 0
IsNeutral θ h os t = (names : ℕ → ClosedSort) (e : Setting) → IsTerm e (theme_sort θ e.number names) t (os e.number names).unit

pub record ShapesHold (c : FunctionClass) (θ : Theme) (h : Head) (os : Operators θ h) : Type 0 where
  pub flat : (n : List ℕ) → Holds c (flat_rule θ n h) []
  pub swap : (n : List ℕ) → Holds c (swap_rule θ n h) []
  pub unit : (n : List ℕ) (t : Tree) → IsNeutral θ h os t → Holds c (unit_rule θ n h t) []

abbrev pub EachShapeHolds : Type 0
EachShapeHolds = (c : FunctionClass) (θ : Theme) (h : Head) (os : Operators θ h) → Skips θ → ShapesHold c θ h os
