-- The rules of comparisons, shifts, slices and joins (SMT-LIB 2.6, theory FixedSizeBitVectors and logic QF_BV), in the form of the RARE
-- paper, FMCAD 2022, with the constraints that their typing gives. Parameters are counted from 0, as declared.
use Rattle.std.specs.Prelude.{pos, negsuc, List, [], ◌∷◌, codes}
use Rattle.rare_linear.specs.Linears.{linear, number}
use Rattle.rare_linear.specs.declared.constraint.Constraint.{Constraint}
use Rattle.rare_sort.specs.Sorting.{name}
use Rattle.rare_sort.specs.Trees.{node}
use Rattle.rare_sort.specs.declared.head.Head.TheVariants as head
use Rattle.rare_rule.specs.Written.{param, apply, extract, literal, bound, plain_rule}
use Rattle.rare_rule.specs.declared.rule.Rule.{Rule}
use Rattle.rare_law_parts.specs.BvParams.{bv_n, bv_x, bv_y, bv_k, bv_i, bv_j, bv_l, bv_us, bv_w, bv_vs, bv_w_width}

-- bv-comp-elim  (bvcomp x y)  (ite (= x y) (bv 1 1) (bv 0 1))
abbrev pub bv_comp_elim : Rule
bv_comp_elim =
    plain_rule (codes "bv-comp-elim") (bv_n ∷ bv_x ∷ bv_y ∷ []) []
    (apply head.BvComp (param 1 ∷ param 2 ∷ []))
    (apply head.Ite (apply head.Equal (param 1 ∷ param 2 ∷ []) ∷ node (head.Bits 1) (number (pos 1) ∷ []) [] ∷ node (head.Bits 0) (number (pos 1) ∷ []) [] ∷ []))

-- bv-shl-const  (bvshl x (bv k n))  (concat (extract (- n 1 k) 0 x) (bv 0 k))  where (>= k 1) (>= (- n 1) k)
abbrev pub bv_shl_const : Rule
bv_shl_const =
    plain_rule (codes "bv-shl-const") (bv_n ∷ bv_k ∷ bv_x ∷ []) (bound (linear (negsuc 0) ((1, pos 1) ∷ [])) ∷ bound (linear (negsuc 0) ((0, pos 1) ∷ (1, negsuc 0) ∷ [])) ∷ [])
    (apply head.BvShl (param 2 ∷ literal (name 1) (name 0) ∷ []))
    (apply head.Concat (extract (linear (negsuc 0) ((0, pos 1) ∷ (1, negsuc 0) ∷ [])) (number (pos 0)) (param 2) ∷ literal (number (pos 0)) (name 1) ∷ []))

abbrev pub bv_shl_const_constraints : List Constraint
bv_shl_const_constraints =
    bound (linear (negsuc 0) ((1, pos 1) ∷ []))
    ∷ bound (linear (negsuc 0) ((0, pos 1) ∷ (1, negsuc 0) ∷ []))
    ∷ []

-- bv-lshr-const  (bvlshr x (bv k n))  (concat (bv 0 k) (extract (- n 1) k x))  where (>= k 1) (>= (- n 1) k)
abbrev pub bv_lshr_const : Rule
bv_lshr_const =
    plain_rule (codes "bv-lshr-const") (bv_n ∷ bv_k ∷ bv_x ∷ []) (bound (linear (negsuc 0) ((1, pos 1) ∷ [])) ∷ bound (linear (negsuc 0) ((0, pos 1) ∷ (1, negsuc 0) ∷ [])) ∷ [])
    (apply head.BvLshr (param 2 ∷ literal (name 1) (name 0) ∷ []))
    (apply head.Concat (literal (number (pos 0)) (name 1) ∷ extract (linear (negsuc 0) ((0, pos 1) ∷ [])) (name 1) (param 2) ∷ []))

abbrev pub bv_lshr_const_constraints : List Constraint
bv_lshr_const_constraints =
    bound (linear (negsuc 0) ((1, pos 1) ∷ []))
    ∷ bound (linear (negsuc 0) ((0, pos 1) ∷ (1, negsuc 0) ∷ []))
    ∷ []

-- bv-extract-whole  (extract (- n 1) 0 x)  x
abbrev pub bv_extract_whole : Rule
bv_extract_whole =
    plain_rule (codes "bv-extract-whole") (bv_n ∷ bv_x ∷ []) []
    (extract (linear (negsuc 0) ((0, pos 1) ∷ [])) (number (pos 0)) (param 1))
    (param 1)

-- bv-extract-extract  (extract j i (extract l k x))  (extract (+ k j) (+ k i) x)
abbrev pub bv_extract_extract : Rule
bv_extract_extract =
    plain_rule (codes "bv-extract-extract") (bv_n ∷ bv_i ∷ bv_j ∷ bv_k ∷ bv_l ∷ bv_x ∷ []) []
    (extract (name 2) (name 1) (extract (name 4) (name 3) (param 5)))
    (extract (linear (pos 0) ((2, pos 1) ∷ (3, pos 1) ∷ [])) (linear (pos 0) ((1, pos 1) ∷ (3, pos 1) ∷ [])) (param 5))

abbrev pub bv_extract_extract_constraints : List Constraint
bv_extract_extract_constraints =
    bound (linear (pos 0) ((3, negsuc 0) ∷ (4, pos 1) ∷ []))
    ∷ bound (linear (negsuc 0) ((0, pos 1) ∷ (4, negsuc 0) ∷ []))
    ∷ bound (linear (pos 0) ((1, negsuc 0) ∷ (2, pos 1) ∷ []))
    ∷ bound (linear (pos 0) ((2, negsuc 0) ∷ (3, negsuc 0) ∷ (4, pos 1) ∷ []))
    ∷ bound (linear (negsuc 0) ((0, pos 1) ∷ (2, negsuc 0) ∷ (3, negsuc 0) ∷ []))
    ∷ []

-- bv-extract-concat-low  (extract j i (concat us w))  (extract j i w)  where (< j (bvsize w))
abbrev pub bv_extract_concat_low : Rule
bv_extract_concat_low =
    plain_rule (codes "bv-extract-concat-low") (bv_i ∷ bv_j ∷ bv_us ∷ bv_w ∷ bv_w_width ∷ []) (bound (linear (negsuc 0) ((1, negsuc 0) ∷ (4, pos 1) ∷ [])) ∷ [])
    (extract (name 1) (name 0) (apply head.Concat (param 2 ∷ param 3 ∷ [])))
    (extract (name 1) (name 0) (param 3))

abbrev pub bv_extract_concat_low_constraints : List Constraint
bv_extract_concat_low_constraints =
    bound (linear (negsuc 0) ((1, negsuc 0) ∷ (4, pos 1) ∷ []))
    ∷ bound (linear (pos 0) ((0, negsuc 0) ∷ (1, pos 1) ∷ []))
    ∷ bound (linear (negsuc 0) ((1, negsuc 0) ∷ (2, pos 1) ∷ (4, pos 1) ∷ []))
    ∷ []

-- bv-extract-concat-high  (extract j i (concat w us))  (extract (- j (bvsize us)) (- i (bvsize us)) w)  where (>= i (bvsize us))
abbrev pub bv_extract_concat_high : Rule
bv_extract_concat_high =
    plain_rule (codes "bv-extract-concat-high") (bv_i ∷ bv_j ∷ bv_us ∷ bv_w ∷ bv_w_width ∷ []) (bound (linear (pos 0) ((0, pos 1) ∷ (2, negsuc 0) ∷ [])) ∷ [])
    (extract (name 1) (name 0) (apply head.Concat (param 3 ∷ param 2 ∷ [])))
    (extract (linear (pos 0) ((1, pos 1) ∷ (2, negsuc 0) ∷ [])) (linear (pos 0) ((0, pos 1) ∷ (2, negsuc 0) ∷ [])) (param 3))

abbrev pub bv_extract_concat_high_constraints : List Constraint
bv_extract_concat_high_constraints =
    bound (linear (pos 0) ((0, pos 1) ∷ (2, negsuc 0) ∷ []))
    ∷ bound (linear (pos 0) ((0, negsuc 0) ∷ (1, pos 1) ∷ []))
    ∷ bound (linear (negsuc 0) ((1, negsuc 0) ∷ (2, pos 1) ∷ (4, pos 1) ∷ []))
    ∷ []

-- bv-concat-extract  (concat us (extract k j x) (extract (- j 1) i x) vs)  (concat us (extract k i x) vs)
abbrev pub bv_concat_extract : Rule
bv_concat_extract =
    plain_rule (codes "bv-concat-extract") (bv_n ∷ bv_i ∷ bv_j ∷ bv_k ∷ bv_x ∷ bv_us ∷ bv_vs ∷ []) []
    (apply head.Concat (param 5 ∷ extract (name 3) (name 2) (param 4) ∷ extract (linear (negsuc 0) ((2, pos 1) ∷ [])) (name 1) (param 4) ∷ param 6 ∷ []))
    (apply head.Concat (param 5 ∷ extract (name 3) (name 1) (param 4) ∷ param 6 ∷ []))

abbrev pub bv_concat_extract_constraints : List Constraint
bv_concat_extract_constraints =
    bound (linear (pos 0) ((2, negsuc 0) ∷ (3, pos 1) ∷ []))
    ∷ bound (linear (negsuc 0) ((0, pos 1) ∷ (3, negsuc 0) ∷ []))
    ∷ bound (linear (negsuc 0) ((1, negsuc 0) ∷ (2, pos 1) ∷ []))
    ∷ bound (linear (pos 0) ((0, pos 1) ∷ (2, negsuc 0) ∷ []))
    ∷ bound (linear (pos 0) ((1, negsuc 0) ∷ (3, pos 1) ∷ []))
    ∷ []

-- bv-zero-extend  (zero_extend k x)  (concat (bv 0 k) x)  where (>= k 1)
abbrev pub bv_zero_extend : Rule
bv_zero_extend =
    plain_rule (codes "bv-zero-extend") (bv_n ∷ bv_k ∷ bv_x ∷ []) (bound (linear (negsuc 0) ((1, pos 1) ∷ [])) ∷ [])
    (node head.ZeroExtend (name 1 ∷ []) (param 2 ∷ []))
    (apply head.Concat (literal (number (pos 0)) (name 1) ∷ param 2 ∷ []))

abbrev pub bv_zero_extend_constraints : List Constraint
bv_zero_extend_constraints =
    bound (linear (negsuc 0) ((1, pos 1) ∷ []))
    ∷ []
