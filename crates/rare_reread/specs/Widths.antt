-- The widths in a sort.
use Rattle.std.specs.Prelude.{List, [], ◌∷◌, ◌++◌}
use Rattle.rare_linear.specs.Linears.{LinearExpression}
use Rattle.rare_sort.specs.declared.sort.Sort.{Sort}
use Rattle.rare_sort.specs.declared.sort.Sort.TheOpen.{Sort-F}
use Rattle.rare_sort.specs.declared.sort.Sort.TheOpen as shape
use Rattle.rare_sort.specs.declared.sort.Sort.TheFolds.{fold-Sort}

abbrev pub widths_step : Sort-F (List LinearExpression) → List LinearExpression
widths_step (shape.BitVec w) = w ∷ []
widths_step (shape.Array a b) = a ++ b
widths_step s = []

-- from the left
abbrev pub widths_in : Sort → List LinearExpression
widths_in = fold-Sort (List LinearExpression) widths_step
