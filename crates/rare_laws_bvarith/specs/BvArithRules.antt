-- The rules of arithmetic on bit vectors (SMT-LIB 2.6, theory FixedSizeBitVectors and logic QF_BV), in the form of the RARE paper, FMCAD
-- 2022. Parameters are counted from 0, as declared.
use Rattle.std.specs.Prelude.{pos, negsuc, [], ◌∷◌, codes}
use Rattle.rare_sort.specs.declared.head.Head.TheVariants as head
use Rattle.rare_rule.specs.Written.{param, apply, plain_rule}
use Rattle.rare_rule.specs.declared.rule.Rule.{Rule}
use Rattle.rare_shapes.specs.RuleShapes.{word}
use Rattle.rare_law_parts.specs.BvParams.{bv_n, bv_xs, bv_ys, bv_zs, bv_x, bv_y}

-- bv-add-zero  (bvadd xs (bv 0 n) ys)  (bvadd xs ys)
abbrev pub bv_add_zero : Rule
bv_add_zero =
    plain_rule (codes "bv-add-zero") (bv_n ∷ bv_xs ∷ bv_ys ∷ []) []
    (apply head.BvAdd (param 1 ∷ word (pos 0) ∷ param 2 ∷ []))
    (apply head.BvAdd (param 1 ∷ param 2 ∷ []))

-- bv-add-flat  (bvadd xs (bvadd ys) zs)  (bvadd xs ys zs)
abbrev pub bv_add_flat : Rule
bv_add_flat =
    plain_rule (codes "bv-add-flat") (bv_n ∷ bv_xs ∷ bv_ys ∷ bv_zs ∷ []) []
    (apply head.BvAdd (param 1 ∷ apply head.BvAdd (param 2 ∷ []) ∷ param 3 ∷ []))
    (apply head.BvAdd (param 1 ∷ param 2 ∷ param 3 ∷ []))

-- bv-add-cancel  (bvadd xs x ys (bvneg x) zs)  (bvadd xs ys zs)
abbrev pub bv_add_cancel : Rule
bv_add_cancel =
    plain_rule (codes "bv-add-cancel") (bv_n ∷ bv_x ∷ bv_xs ∷ bv_ys ∷ bv_zs ∷ []) []
    (apply head.BvAdd (param 2 ∷ param 1 ∷ param 3 ∷ apply head.BvNeg (param 1 ∷ []) ∷ param 4 ∷ []))
    (apply head.BvAdd (param 2 ∷ param 3 ∷ param 4 ∷ []))

-- bv-mul-one  (bvmul xs (bv 1 n) ys)  (bvmul xs ys)
abbrev pub bv_mul_one : Rule
bv_mul_one =
    plain_rule (codes "bv-mul-one") (bv_n ∷ bv_xs ∷ bv_ys ∷ []) []
    (apply head.BvMul (param 1 ∷ word (pos 1) ∷ param 2 ∷ []))
    (apply head.BvMul (param 1 ∷ param 2 ∷ []))

-- bv-mul-zero  (bvmul xs (bv 0 n) ys)  (bv 0 n)
abbrev pub bv_mul_zero : Rule
bv_mul_zero =
    plain_rule (codes "bv-mul-zero") (bv_n ∷ bv_xs ∷ bv_ys ∷ []) []
    (apply head.BvMul (param 1 ∷ word (pos 0) ∷ param 2 ∷ []))
    (word (pos 0))

-- bv-neg-elim  (bvneg x)  (bvadd (bvnot x) (bv 1 n))
abbrev pub bv_neg_elim : Rule
bv_neg_elim =
    plain_rule (codes "bv-neg-elim") (bv_n ∷ bv_x ∷ []) []
    (apply head.BvNeg (param 1 ∷ []))
    (apply head.BvAdd (apply head.BvNot (param 1 ∷ []) ∷ word (pos 1) ∷ []))

-- bv-sub-elim  (bvsub x y)  (bvadd x (bvneg y))
abbrev pub bv_sub_elim : Rule
bv_sub_elim =
    plain_rule (codes "bv-sub-elim") (bv_n ∷ bv_x ∷ bv_y ∷ []) []
    (apply head.BvSub (param 1 ∷ param 2 ∷ []))
    (apply head.BvAdd (param 1 ∷ apply head.BvNeg (param 2 ∷ []) ∷ []))

-- bv-ugt-elim  (bvugt x y)  (bvult y x)
abbrev pub bv_ugt_elim : Rule
bv_ugt_elim =
    plain_rule (codes "bv-ugt-elim") (bv_n ∷ bv_x ∷ bv_y ∷ []) []
    (apply head.BvUgt (param 1 ∷ param 2 ∷ []))
    (apply head.BvUlt (param 2 ∷ param 1 ∷ []))

-- bv-uge-elim  (bvuge x y)  (not (bvult x y))
abbrev pub bv_uge_elim : Rule
bv_uge_elim =
    plain_rule (codes "bv-uge-elim") (bv_n ∷ bv_x ∷ bv_y ∷ []) []
    (apply head.BvUge (param 1 ∷ param 2 ∷ []))
    (apply head.Not (apply head.BvUlt (param 1 ∷ param 2 ∷ []) ∷ []))

-- bv-ule-elim  (bvule x y)  (not (bvult y x))
abbrev pub bv_ule_elim : Rule
bv_ule_elim =
    plain_rule (codes "bv-ule-elim") (bv_n ∷ bv_x ∷ bv_y ∷ []) []
    (apply head.BvUle (param 1 ∷ param 2 ∷ []))
    (apply head.Not (apply head.BvUlt (param 2 ∷ param 1 ∷ []) ∷ []))

-- bv-sgt-elim  (bvsgt x y)  (bvslt y x)
abbrev pub bv_sgt_elim : Rule
bv_sgt_elim =
    plain_rule (codes "bv-sgt-elim") (bv_n ∷ bv_x ∷ bv_y ∷ []) []
    (apply head.BvSgt (param 1 ∷ param 2 ∷ []))
    (apply head.BvSlt (param 2 ∷ param 1 ∷ []))

-- bv-ult-refl  (bvult x x)  false
abbrev pub bv_ult_refl : Rule
bv_ult_refl =
    plain_rule (codes "bv-ult-refl") (bv_n ∷ bv_x ∷ []) []
    (apply head.BvUlt (param 1 ∷ param 1 ∷ []))
    (apply head.False [])

-- bv-ult-zero  (bvult x (bv 0 n))  false
abbrev pub bv_ult_zero : Rule
bv_ult_zero =
    plain_rule (codes "bv-ult-zero") (bv_n ∷ bv_x ∷ []) []
    (apply head.BvUlt (param 1 ∷ word (pos 0) ∷ []))
    (apply head.False [])

-- bv-udiv-zero  (bvudiv x (bv 0 n))  (bv (- 1) n)
abbrev pub bv_udiv_zero : Rule
bv_udiv_zero =
    plain_rule (codes "bv-udiv-zero") (bv_n ∷ bv_x ∷ []) []
    (apply head.BvUdiv (param 1 ∷ word (pos 0) ∷ []))
    (word (negsuc 0))

-- bv-urem-zero  (bvurem x (bv 0 n))  x
abbrev pub bv_urem_zero : Rule
bv_urem_zero =
    plain_rule (codes "bv-urem-zero") (bv_n ∷ bv_x ∷ []) []
    (apply head.BvUrem (param 1 ∷ word (pos 0) ∷ []))
    (param 1)
