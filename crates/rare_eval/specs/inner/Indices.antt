-- Indices as numbers.
use Rattle.std.specs.Prelude.{ℕ, zero, suc, ℤ, pos, List, [], ◌∷◌, Option, Some}
use Rattle.rare_linear.specs.Linears.{LinearExpression}
use Rattle.rare_sort.specs.SortRules.{number_in}

-- index k as a number, 0 where there is none
abbrev pub number_at : List LinearExpression → ℕ → Option ℤ
number_at [] k = Some (pos 0)
number_at (x ∷ xs) zero = number_in x
number_at (x ∷ xs) (suc k) = number_at xs k
