-- Samples as expressions without names.
use Rattle.std.specs.Prelude.{ℕ, pos, List, map}
use Rattle.rare_linear.specs.Linears.{LinearExpression, number}

abbrev pub sample_values : List ℕ → List LinearExpression
sample_values samples = map (λ n. number (pos n)) samples
