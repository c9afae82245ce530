-- The rules of theory ArraysEx type, and ask for nothing.
use Rattle.std.proofs.Common.{[], ◌∷◌, refl}
use Rattle.rare_sort.specs.declared.sort.Sort.{Named}
use Rattle.rare_sort.specs.declared.sort.Sort.TheVariants as sort
use Rattle.rare_sort.proofs.NeedsLemmas.{boxed-hidden}
use Rattle.rare_sort.proofs.SortingLemmas.{sorting-node}
use Rattle.rare_rule.specs.RuleSorting.{Types}
use Rattle.rare_rule.proofs.TypingLemmas.{plain_types, types_if}
use Rattle.rare_laws_array.proofs.ArraySorts.{needs-hidden}
use Rattle.rare_laws_array.specs.ArrayRules.{arr_select_same, arr_select_other, arr_select_ite, arr_store_same, arr_store_select, arr_store_swap}

pub arr_select_same_types : Types arr_select_same []
arr_select_same_types =
    plain_types _ _ [] arr_select_same.left arr_select_same.right (Named 1) [] [] []
    (simp (sorting-node, boxed-hidden, needs-hidden) (refl, (refl, (refl, (refl, tt))), refl))
    (simp (sorting-node, boxed-hidden, needs-hidden) (refl, tt, refl)) refl refl

pub arr_select_other_types : Types arr_select_other []
arr_select_other_types =
    types_if _ _ _ arr_select_other.left arr_select_other.right (Named 1) [] [] [] []
    (simp (sorting-node, boxed-hidden, needs-hidden) (refl, (refl, (refl, (refl, tt))), refl))
    (simp (sorting-node, boxed-hidden, needs-hidden) (refl, (refl, (refl, tt)), refl))
    (simp (sorting-node, boxed-hidden, needs-hidden) (refl, (refl, tt), refl)) refl refl

pub arr_select_ite_types : Types arr_select_ite []
arr_select_ite_types =
    plain_types _ _ [] arr_select_ite.left arr_select_ite.right (Named 1) [] [] []
    (simp (sorting-node, boxed-hidden, needs-hidden) (refl, (refl, (refl, (refl, tt))), refl))
    (simp (sorting-node, boxed-hidden, needs-hidden) (refl, (refl, (refl, (refl, (refl, tt)))), refl)) refl refl

pub arr_store_same_types : Types arr_store_same []
arr_store_same_types =
    plain_types _ _ [] arr_store_same.left arr_store_same.right (sort.Array (Named 0) (Named 1)) [] [] []
    (simp (sorting-node, boxed-hidden, needs-hidden) (refl, (refl, (refl, (refl, (refl, tt)))), refl))
    (simp (sorting-node, boxed-hidden, needs-hidden) (refl, (refl, (refl, tt)), refl)) refl refl

pub arr_store_select_types : Types arr_store_select []
arr_store_select_types =
    plain_types _ _ [] arr_store_select.left arr_store_select.right (sort.Array (Named 0) (Named 1)) [] [] []
    (simp (sorting-node, boxed-hidden, needs-hidden) (refl, (refl, (refl, (refl, tt))), refl))
    (simp (sorting-node, boxed-hidden, needs-hidden) (refl, tt, refl)) refl refl

pub arr_store_swap_types : Types arr_store_swap []
arr_store_swap_types =
    types_if _ _ _ arr_store_swap.left arr_store_swap.right (sort.Array (Named 0) (Named 1)) [] [] [] []
    (simp (sorting-node, boxed-hidden, needs-hidden) (refl, (refl, (refl, (refl, (refl, tt)))), refl))
    (simp (sorting-node, boxed-hidden, needs-hidden) (refl, (refl, (refl, tt)), refl))
    (simp (sorting-node, boxed-hidden, needs-hidden) (refl, (refl, (refl, (refl, (refl, tt)))), refl)) refl refl
