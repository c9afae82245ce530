-- The rules of theory ArraysEx in order, none with a constraint.
use Rattle.std.specs.Prelude.{List, [], ◌∷◌, map}
use Rattle.rare_rule.specs.TypedRule.{TypedRule}
use Rattle.rare_law_parts.specs.RuleTables.{unconstrained}
use Rattle.rare_laws_array.specs.ArrayRules.{arr_select_same, arr_select_other, arr_select_ite, arr_store_same, arr_store_select, arr_store_swap}

abbrev pub array_rules : List TypedRule
array_rules =
    map unconstrained
    (arr_select_same ∷ arr_select_other ∷ arr_select_ite ∷ arr_store_same ∷ arr_store_select ∷ arr_store_swap ∷ [])
