-- Rules written by hand, as they stand in rows: terms, parameters and linear expressions.
use Rattle.std.specs.Prelude.{ℕ, true, false, List, [], ◌∷◌, Some, None}
use Rattle.rare_linear.specs.Linears.{LinearExpression}
use Rattle.rare_linear.specs.declared.constraint.Constraint.{Constraint}
use Rattle.rare_sort.specs.Trees.{node}
use Rattle.rare_sort.specs.declared.head.Head.{Head}
use Rattle.rare_sort.specs.declared.head.Head.TheVariants as head
use Rattle.rare_sort.specs.declared.tree.Tree.{Tree}
use Rattle.rare_rule.specs.declared.param.Param.{Param}
use Rattle.rare_rule.specs.declared.param.ParamKind.{ParamKind}
use Rattle.rare_rule.specs.declared.rule.Rule.{Rule}
use Rattle.rare_rule.specs.declared.rule.RuleKind.TheVariants as form

-- ---- parts

abbrev pub param : ℕ → Tree
param k = node (head.Param k) [] []

abbrev pub apply : Head → List Tree → Tree
apply h ts = node h [] ts

-- `(extract j i t)`
abbrev pub extract : LinearExpression → LinearExpression → Tree → Tree
extract j i t = node head.Extract (j ∷ i ∷ []) (t ∷ [])

-- `(bv v w)`
abbrev pub literal : LinearExpression → LinearExpression → Tree
literal v w = node head.Literal (v ∷ w ∷ []) []

abbrev pub declared_param : List ℕ → ParamKind → Param
declared_param n k = record { name = n; kind = k; constant = false; fresh = false }

abbrev pub fresh_param : List ℕ → ParamKind → Param
fresh_param n k = record { name = n; kind = k; constant = false; fresh = true }

-- E >= 0
abbrev pub bound : LinearExpression → Constraint
bound e = record { floor = e }

abbrev pub plain_rule : List ℕ → List Param → List Constraint → (left right : Tree) → Rule
plain_rule n ps bs l r = record { name = n; kind = form.Plain; params = ps; bounds = bs; premises = []; left = l; right = r; context = None }

abbrev pub rule_if : List ℕ → List Param → (premise left right : Tree) → Rule
rule_if n ps p l r = record { name = n; kind = form.Cond; params = ps; bounds = []; premises = p ∷ []; left = l; right = r; context = None }

abbrev pub rule_in : List ℕ → List Param → (left right context : Tree) → Rule
rule_in n ps l r c = record { name = n; kind = form.Fixed; params = ps; bounds = []; premises = []; left = l; right = r; context = Some c }
