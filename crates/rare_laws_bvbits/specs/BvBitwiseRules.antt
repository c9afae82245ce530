-- The rules of operators that go bit by bit (SMT-LIB 2.6, theory FixedSizeBitVectors and logic QF_BV), in the form of the RARE paper,
-- FMCAD 2022. Parameters are counted from 0, as declared.
use Rattle.std.specs.Prelude.{pos, negsuc, [], ◌∷◌, codes}
use Rattle.rare_sort.specs.declared.head.Head.TheVariants as head
use Rattle.rare_rule.specs.Written.{param, apply, plain_rule, rule_in}
use Rattle.rare_rule.specs.declared.rule.Rule.{Rule}
use Rattle.rare_shapes.specs.RuleShapes.{word}
use Rattle.rare_law_parts.specs.BvParams.{bv_n, bv_xs, bv_ys, bv_zs, bv_x, bv_y}

-- bv-and-ones  (bvand xs (bv (- 1) n) ys)  (bvand xs ys)
abbrev pub bv_and_ones : Rule
bv_and_ones =
    plain_rule (codes "bv-and-ones") (bv_n ∷ bv_xs ∷ bv_ys ∷ []) []
    (apply head.BvAnd (param 1 ∷ word (negsuc 0) ∷ param 2 ∷ []))
    (apply head.BvAnd (param 1 ∷ param 2 ∷ []))

-- bv-and-zero  (bvand xs (bv 0 n) ys)  (bv 0 n)
abbrev pub bv_and_zero : Rule
bv_and_zero =
    plain_rule (codes "bv-and-zero") (bv_n ∷ bv_xs ∷ bv_ys ∷ []) []
    (apply head.BvAnd (param 1 ∷ word (pos 0) ∷ param 2 ∷ []))
    (word (pos 0))

-- bv-and-flat  (bvand xs (bvand ys) zs)  (bvand xs ys zs)
abbrev pub bv_and_flat : Rule
bv_and_flat =
    plain_rule (codes "bv-and-flat") (bv_n ∷ bv_xs ∷ bv_ys ∷ bv_zs ∷ []) []
    (apply head.BvAnd (param 1 ∷ apply head.BvAnd (param 2 ∷ []) ∷ param 3 ∷ []))
    (apply head.BvAnd (param 1 ∷ param 2 ∷ param 3 ∷ []))

-- bv-and-dup  (bvand xs x ys x zs)  (bvand xs x ys zs)
abbrev pub bv_and_dup : Rule
bv_and_dup =
    plain_rule (codes "bv-and-dup") (bv_n ∷ bv_x ∷ bv_xs ∷ bv_ys ∷ bv_zs ∷ []) []
    (apply head.BvAnd (param 2 ∷ param 1 ∷ param 3 ∷ param 1 ∷ param 4 ∷ []))
    (apply head.BvAnd (param 2 ∷ param 1 ∷ param 3 ∷ param 4 ∷ []))

-- bv-and-compl  (bvand xs x ys (bvnot x) zs)  (bv 0 n)
abbrev pub bv_and_compl : Rule
bv_and_compl =
    plain_rule (codes "bv-and-compl") (bv_n ∷ bv_x ∷ bv_xs ∷ bv_ys ∷ bv_zs ∷ []) []
    (apply head.BvAnd (param 2 ∷ param 1 ∷ param 3 ∷ apply head.BvNot (param 1 ∷ []) ∷ param 4 ∷ []))
    (word (pos 0))

-- bv-and-de-morgan  (bvnot (bvand x y xs))  (bvnot (bvand y xs))  context (bvor (bvnot x) _)
abbrev pub bv_and_de_morgan : Rule
bv_and_de_morgan =
    rule_in (codes "bv-and-de-morgan") (bv_n ∷ bv_x ∷ bv_y ∷ bv_xs ∷ [])
    (apply head.BvNot (apply head.BvAnd (param 1 ∷ param 2 ∷ param 3 ∷ []) ∷ []))
    (apply head.BvNot (apply head.BvAnd (param 2 ∷ param 3 ∷ []) ∷ []))
    (apply head.BvOr (apply head.BvNot (param 1 ∷ []) ∷ apply head.Hole [] ∷ []))

-- bv-or-zero  (bvor xs (bv 0 n) ys)  (bvor xs ys)
abbrev pub bv_or_zero : Rule
bv_or_zero =
    plain_rule (codes "bv-or-zero") (bv_n ∷ bv_xs ∷ bv_ys ∷ []) []
    (apply head.BvOr (param 1 ∷ word (pos 0) ∷ param 2 ∷ []))
    (apply head.BvOr (param 1 ∷ param 2 ∷ []))

-- bv-or-ones  (bvor xs (bv (- 1) n) ys)  (bv (- 1) n)
abbrev pub bv_or_ones : Rule
bv_or_ones =
    plain_rule (codes "bv-or-ones") (bv_n ∷ bv_xs ∷ bv_ys ∷ []) []
    (apply head.BvOr (param 1 ∷ word (negsuc 0) ∷ param 2 ∷ []))
    (word (negsuc 0))

-- bv-or-flat  (bvor xs (bvor ys) zs)  (bvor xs ys zs)
abbrev pub bv_or_flat : Rule
bv_or_flat =
    plain_rule (codes "bv-or-flat") (bv_n ∷ bv_xs ∷ bv_ys ∷ bv_zs ∷ []) []
    (apply head.BvOr (param 1 ∷ apply head.BvOr (param 2 ∷ []) ∷ param 3 ∷ []))
    (apply head.BvOr (param 1 ∷ param 2 ∷ param 3 ∷ []))

-- bv-or-compl  (bvor xs x ys (bvnot x) zs)  (bv (- 1) n)
abbrev pub bv_or_compl : Rule
bv_or_compl =
    plain_rule (codes "bv-or-compl") (bv_n ∷ bv_x ∷ bv_xs ∷ bv_ys ∷ bv_zs ∷ []) []
    (apply head.BvOr (param 2 ∷ param 1 ∷ param 3 ∷ apply head.BvNot (param 1 ∷ []) ∷ param 4 ∷ []))
    (word (negsuc 0))

-- bv-xor-zero  (bvxor xs (bv 0 n) ys)  (bvxor xs ys)
abbrev pub bv_xor_zero : Rule
bv_xor_zero =
    plain_rule (codes "bv-xor-zero") (bv_n ∷ bv_xs ∷ bv_ys ∷ []) []
    (apply head.BvXor (param 1 ∷ word (pos 0) ∷ param 2 ∷ []))
    (apply head.BvXor (param 1 ∷ param 2 ∷ []))

-- bv-xor-ones  (bvxor xs (bv (- 1) n) ys)  (bvnot (bvxor xs ys))
abbrev pub bv_xor_ones : Rule
bv_xor_ones =
    plain_rule (codes "bv-xor-ones") (bv_n ∷ bv_xs ∷ bv_ys ∷ []) []
    (apply head.BvXor (param 1 ∷ word (negsuc 0) ∷ param 2 ∷ []))
    (apply head.BvNot (apply head.BvXor (param 1 ∷ param 2 ∷ []) ∷ []))

-- bv-xor-dup  (bvxor xs x ys x zs)  (bvxor xs ys zs)
abbrev pub bv_xor_dup : Rule
bv_xor_dup =
    plain_rule (codes "bv-xor-dup") (bv_n ∷ bv_x ∷ bv_xs ∷ bv_ys ∷ bv_zs ∷ []) []
    (apply head.BvXor (param 2 ∷ param 1 ∷ param 3 ∷ param 1 ∷ param 4 ∷ []))
    (apply head.BvXor (param 2 ∷ param 3 ∷ param 4 ∷ []))

-- bv-not-not  (bvnot (bvnot x))  x
abbrev pub bv_not_not : Rule
bv_not_not =
    plain_rule (codes "bv-not-not") (bv_n ∷ bv_x ∷ []) []
    (apply head.BvNot (apply head.BvNot (param 1 ∷ []) ∷ []))
    (param 1)
