-- What is written of the parts of a rule, over parameters that were read, is read back as the same.
use Rattle.std.specs.Prelude.{◌≡◌, ◌+◌, List, Ok}
use Rattle.rare_linear.specs.Linears.{LinearExpression}
use Rattle.rare_scope.specs.LinearText.{linear_at}
use Rattle.rare_scope.specs.Printing.{linear_text_by}
use Rattle.rare_sexpr.specs.declared.tree.Sexpr.{Sexpr}
use Rattle.rare_sort.specs.DeclaredSorts.{sort_nesting}
use Rattle.rare_sort.specs.Trees.{nesting}
use Rattle.rare_sort.specs.declared.sort.Sort.{Sort}
use Rattle.rare_sort.specs.declared.tree.Tree.{Tree}
use Rattle.rare_rule.specs.declared.param.Param.{Param}
use Rattle.rare_parse.specs.ParamText.{params_at}
use Rattle.rare_parse.specs.RuleNames.{rule_widths}
use Rattle.rare_parse.specs.RuleSortText.{rule_sort_at}
use Rattle.rare_parse.specs.RuleTermText.{rule_term_at}
use Rattle.rare_rule_printing.specs.ConstraintPrinting.{number_text}
use Rattle.rare_rule_printing.specs.RulePrinting.{rule_term_text}
use Rattle.rare_rule_printing.specs.SortPrinting.{params_text, rule_sort_text}
use Rattle.rare_reread.specs.ReadsAs.{ReadsAs}
use Rattle.rare_rule_reread.specs.Spelled.{IsSpelled}

-- the parameters that a spelled expression declares
pub record AreDeclared (ps : List Param) : Type 0 where
  pub expression : Sexpr
  pub spelled : IsSpelled expression
  pub read : params_at expression ≡ Ok ps

-- parameters, at most 1,006 lists deep
abbrev pub RuleParamsAreReadBack : Type 0
RuleParamsAreReadBack = (ps : List Param) → AreDeclared ps → ReadsAs 1006 (params_text ps) (λ x. params_at x ≡ Ok ps)

-- a linear expression, at most 4 lists deep
abbrev pub RuleLinearIsReadBack : Type 0
RuleLinearIsReadBack =
    (e : Sexpr) (ps : List Param) (l : LinearExpression) → AreDeclared ps → linear_at (rule_widths ps) e ≡ Ok l →
    ReadsAs 4 (linear_text_by (number_text ps) l) (λ x. linear_at (rule_widths ps) x ≡ Ok l)

-- a sort; it nests no deeper than the sort and a few lists more
abbrev pub RuleSortIsReadBack : Type 0
RuleSortIsReadBack =
    (e : Sexpr) (ps : List Param) (s : Sort) → AreDeclared ps → rule_sort_at ps e ≡ Ok s →
    ReadsAs (sort_nesting s + 4) (rule_sort_text ps s) (λ x. rule_sort_at ps x ≡ Ok s)

-- a term, likewise
abbrev pub RuleTermIsReadBack : Type 0
RuleTermIsReadBack =
    (e : Sexpr) (ps : List Param) (t : Tree) → AreDeclared ps → IsSpelled e → rule_term_at ps e ≡ Ok t →
    ReadsAs (nesting t + 4) (rule_term_text ps t) (λ x. rule_term_at ps x ≡ Ok t)
