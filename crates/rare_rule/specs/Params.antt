-- The parameters of a rule, by their numbers.
use Rattle.std.specs.Prelude.{ℕ, ℤ, pos, Bool, true, false, List, slice_get, Option, Some}
use Rattle.std.specs.Option.{option_map}
use Rattle.rare_sort.specs.declared.head.Head.{Head}
use Rattle.rare_sort.specs.declared.head.Head.TheVariants as head
use Rattle.rare_rule.specs.declared.param.Param.{Param}
use Rattle.rare_rule.specs.declared.param.ParamKind.{ParamKind}
use Rattle.rare_rule.specs.declared.param.ParamKind.TheVariants as kind

-- the kind of parameter k
abbrev pub kind_at : List Param → ℕ → Option ParamKind
kind_at ps k = option_map (λ p. p.kind) (slice_get ps k)

-- a list variable
abbrev pub is_list_kind : Option ParamKind → Bool
is_list_kind (Some (kind.List s)) = true
is_list_kind (Some kind.WideList) = true
is_list_kind _ = false

-- the operator at the root of a list variable
abbrev pub is_list_head : List Param → Head → Bool
is_list_head ps (head.Param k) = is_list_kind (kind_at ps k)
is_list_head ps _ = false

-- a parameter whose number stands for a whole number: a width, an index, or the total width of a list
abbrev pub is_number_kind : Option ParamKind → Bool
is_number_kind (Some kind.Width) = true
is_number_kind (Some kind.Index) = true
is_number_kind k = is_list_kind k

-- a parameter that one name alone determines: a width or an index
abbrev pub is_alone_kind : Option ParamKind → Bool
is_alone_kind (Some kind.Width) = true
is_alone_kind (Some kind.Index) = true
is_alone_kind _ = false

abbrev pub is_sort_kind : Option ParamKind → Bool
is_sort_kind (Some kind.SortName) = true
is_sort_kind _ = false

-- a parameter that stands in terms
abbrev pub is_term_kind : Option ParamKind → Bool
is_term_kind (Some (kind.Term s)) = true
is_term_kind k = is_list_kind k

-- the least value of a name: 1 for a width, 0 for an index and for a total
abbrev pub low_of_kind : Option ParamKind → ℤ
low_of_kind (Some kind.Width) = pos 1
low_of_kind _ = pos 0

abbrev pub rule_lows : List Param → ℕ → ℤ
rule_lows ps k = low_of_kind (kind_at ps k)
