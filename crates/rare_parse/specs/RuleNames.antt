-- What the names of a rule's parameters stand for (this project's form of rules as in the RARE paper, FMCAD 2022).
use Rattle.std.specs.Prelude.{ℕ, Bool, ◌||◌, List, map, bytes_eq, position, Option, Some, None, if◌then◌else◌}
use Rattle.std.specs.Option.{option_and_then}
use Rattle.rare_linear.specs.Linears.{LinearExpression}
use Rattle.rare_sort.specs.SortRules.{width}
use Rattle.rare_sort.specs.Sorting.{name}
use Rattle.rare_scope.specs.LinearText.{WidthNames}
use Rattle.rare_scope.specs.Reserved.{is_among, is_theory_word}
use Rattle.rare_operators.specs.OperatorWords.{indexed_words}
use Rattle.rare_rule.specs.Params.{kind_at, is_alone_kind, is_sort_kind, is_term_kind}
use Rattle.rare_rule.specs.declared.param.Param.{Param}
use Rattle.rare_rule.specs.declared.param.ParamKind.{ParamKind}
use Rattle.rare_rule.specs.declared.param.ParamKind.TheVariants as kind

-- the number of the parameter of a name. A fresh parameter stands behind the declared one whose name it has
abbrev pub number_of_name : List Param → List ℕ → Option ℕ
number_of_name ps text = position (λ p. bytes_eq text p.name) ps

-- the number of the parameter of a name, where its kind is one of these
abbrev pub number_where : (Option ParamKind → Bool) → List Param → List ℕ → Option ℕ
number_where test ps text = option_and_then (λ k. if test (kind_at ps k) then (Some k) else None) (number_of_name ps text)

-- a width or an index
abbrev pub number_named : List Param → List ℕ → Option ℕ
number_named = number_where is_alone_kind

-- a term or a list of terms
abbrev pub term_named : List Param → List ℕ → Option ℕ
term_named = number_where is_term_kind

-- the width of a term, or the total width of a list
abbrev pub size_of_kind : ℕ → Option ParamKind → Option LinearExpression
size_of_kind k (Some (kind.Term s)) = width s
size_of_kind k (Some (kind.List s)) = Some (name k)
size_of_kind k (Some kind.WideList) = Some (name k)
size_of_kind k _ = None

abbrev pub size_named : List Param → List ℕ → Option LinearExpression
size_named ps text = option_and_then (λ k. size_of_kind k (kind_at ps k)) (number_of_name ps text)

-- the names of linear expressions in a rule, with the word `bvsize`
abbrev pub rule_widths : List Param → WidthNames
rule_widths ps = record { number = number_named ps; size = Some (size_named ps) }

-- words that mean themselves in the place of a sort, also where a parameter has that name
abbrev pub is_own_word : List ℕ → Bool
is_own_word text = is_theory_word text || is_among (map (λ w. w.0) indexed_words) text

-- a sort name
abbrev pub sort_named : List Param → List ℕ → Option ℕ
sort_named ps text = if is_own_word text then None else (number_where is_sort_kind ps text)
