-- The rules of theory ArraysEx (SMT-LIB 2.6), in the form of the RARE paper, FMCAD 2022. Parameters are counted from 0, as declared.
use Rattle.std.specs.Prelude.{[], ◌∷◌, codes}
use Rattle.rare_sort.specs.declared.head.Head.TheVariants as head
use Rattle.rare_rule.specs.Written.{param, apply, plain_rule, rule_if}
use Rattle.rare_rule.specs.declared.rule.Rule.{Rule}
use Rattle.rare_laws_array.specs.ArrayParams.{array_a, array_b, array_t, array_i, array_j, array_u, array_v}

-- arr-select-same  (select (store t i u) i)  u
abbrev pub arr_select_same : Rule
arr_select_same =
    plain_rule (codes "arr-select-same") (array_a ∷ array_b ∷ array_t ∷ array_i ∷ array_u ∷ []) []
    (apply head.Select (apply head.Store (param 2 ∷ param 3 ∷ param 4 ∷ []) ∷ param 3 ∷ []))
    (param 4)

-- arr-select-other  (select (store t i u) j)  (select t j)  if (not (= i j))
abbrev pub arr_select_other : Rule
arr_select_other =
    rule_if (codes "arr-select-other") (array_a ∷ array_b ∷ array_t ∷ array_i ∷ array_j ∷ array_u ∷ [])
    (apply head.Not (apply head.Equal (param 3 ∷ param 4 ∷ []) ∷ []))
    (apply head.Select (apply head.Store (param 2 ∷ param 3 ∷ param 5 ∷ []) ∷ param 4 ∷ []))
    (apply head.Select (param 2 ∷ param 4 ∷ []))

-- arr-select-ite  (select (store t i u) j)  (ite (= i j) u (select t j))
abbrev pub arr_select_ite : Rule
arr_select_ite =
    plain_rule (codes "arr-select-ite") (array_a ∷ array_b ∷ array_t ∷ array_i ∷ array_j ∷ array_u ∷ []) []
    (apply head.Select (apply head.Store (param 2 ∷ param 3 ∷ param 5 ∷ []) ∷ param 4 ∷ []))
    (apply head.Ite (apply head.Equal (param 3 ∷ param 4 ∷ []) ∷ param 5 ∷ apply head.Select (param 2 ∷ param 4 ∷ []) ∷ []))

-- arr-store-same  (store (store t i u) i v)  (store t i v)
abbrev pub arr_store_same : Rule
arr_store_same =
    plain_rule (codes "arr-store-same") (array_a ∷ array_b ∷ array_t ∷ array_i ∷ array_u ∷ array_v ∷ []) []
    (apply head.Store (apply head.Store (param 2 ∷ param 3 ∷ param 4 ∷ []) ∷ param 3 ∷ param 5 ∷ []))
    (apply head.Store (param 2 ∷ param 3 ∷ param 5 ∷ []))

-- arr-store-select  (store t i (select t i))  t
abbrev pub arr_store_select : Rule
arr_store_select =
    plain_rule (codes "arr-store-select") (array_a ∷ array_b ∷ array_t ∷ array_i ∷ []) []
    (apply head.Store (param 2 ∷ param 3 ∷ apply head.Select (param 2 ∷ param 3 ∷ []) ∷ []))
    (param 2)

-- arr-store-swap  (store (store t i u) j v)  (store (store t j v) i u)  if (not (= i j))
abbrev pub arr_store_swap : Rule
arr_store_swap =
    rule_if (codes "arr-store-swap") (array_a ∷ array_b ∷ array_t ∷ array_i ∷ array_j ∷ array_u ∷ array_v ∷ [])
    (apply head.Not (apply head.Equal (param 3 ∷ param 4 ∷ []) ∷ []))
    (apply head.Store (apply head.Store (param 2 ∷ param 3 ∷ param 5 ∷ []) ∷ param 4 ∷ param 6 ∷ []))
    (apply head.Store (apply head.Store (param 2 ∷ param 4 ∷ param 6 ∷ []) ∷ param 3 ∷ param 5 ∷ []))
