-- Each rule of theory ArraysEx holds.
use Rattle.rare_law_parts.specs.RuleTables.{EachHolds}
use Rattle.rare_laws_array.specs.ArrayTable.{array_rules}
use Rattle.rare_laws_array.proofs.ArrayLaws.{arr_select_same_holds, arr_select_other_holds, arr_select_ite_holds, arr_store_same_holds, arr_store_select_holds, arr_store_swap_holds}

pub array_rules_hold : EachHolds array_rules
array_rules_hold =
    (arr_select_same_holds, (arr_select_other_holds, (arr_select_ite_holds, (arr_store_same_holds, (arr_store_select_holds, (arr_store_swap_holds, tt))))))
