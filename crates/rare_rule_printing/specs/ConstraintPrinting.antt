-- How the constraints of a rule are written.
use Rattle.std.specs.Prelude.{ℕ, Bool, ◌||◌, List, [], ◌∷◌, slice_get, codes, Option, Some, None, if◌then◌else◌}
use Rattle.rare_linear.specs.declared.constraint.Constraint.{Constraint}
use Rattle.rare_sexpr.specs.Written.{written_symbol}
use Rattle.rare_scope.specs.Pieces.{size_text}
use Rattle.rare_scope.specs.Printing.{joined_texts, linear_text_by}
use Rattle.rare_rule.specs.Params.{is_list_kind}
use Rattle.rare_rule.specs.declared.param.Param.{Param}

-- its number is that of a size: the total width of a list, or the fresh width of a term
abbrev pub is_size : Param → Bool
is_size p = p.fresh || is_list_kind (Some p.kind)

-- a parameter in a linear expression: its name, or the size of what has its name
abbrev pub param_text : Param → List ℕ
param_text p = if is_size p then size_text p.name else written_symbol p.name

abbrev pub param_text_or : Option Param → List ℕ
param_text_or (Some p) = param_text p
param_text_or None = []

-- name k of a linear expression
abbrev pub number_text : List Param → ℕ → List ℕ
number_text ps k = param_text_or (slice_get ps k)

-- `(>= E 0)`
abbrev pub constraint_text : List Param → Constraint → List ℕ
constraint_text ps c = joined_texts (codes "(>= " ∷ linear_text_by (number_text ps) c.floor ∷ codes " 0)" ∷ [])
