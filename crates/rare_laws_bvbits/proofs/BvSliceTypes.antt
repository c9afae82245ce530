-- The rules of comparisons, shifts, slices and joins type, and ask for these constraints.
use Rattle.std.proofs.Common.{[], ◌∷◌, refl}
use Rattle.std.specs.Prelude.{pos, negsuc}
use Rattle.rare_linear.specs.Linears.{linear, number}
use Rattle.rare_linear.specs.EntailmentTest.{is_entailed, is_within}
use Rattle.rare_sort.specs.Sorting.{name}
use Rattle.rare_sort.specs.declared.sort.Sort.{BitVec}
use Rattle.rare_sort.proofs.SortingLemmas.{sorting-node}
use Rattle.rare_rule.specs.RuleSorting.{Types}
use Rattle.rare_rule.specs.Written.{bound}
use Rattle.rare_rule.proofs.TypingLemmas.{plain_types}
use Rattle.rare_laws_bvbits.specs.BvSliceRules.{bv_comp_elim, bv_shl_const, bv_lshr_const, bv_extract_whole, bv_extract_extract, bv_extract_concat_low, bv_extract_concat_high, bv_concat_extract, bv_zero_extend, bv_shl_const_constraints, bv_lshr_const_constraints, bv_extract_extract_constraints, bv_extract_concat_low_constraints, bv_extract_concat_high_constraints, bv_concat_extract_constraints, bv_zero_extend_constraints}

pub bv_comp_elim_types : Types bv_comp_elim []
unfolding is_entailed is_within
bv_comp_elim_types =
    plain_types _ _ [] bv_comp_elim.left bv_comp_elim.right (BitVec (number (pos 1))) (linear (negsuc 0) ((0, pos 1) ∷ []) ∷ linear (negsuc 0) ((0, pos 1) ∷ []) ∷ []) (linear (negsuc 0) ((0, pos 1) ∷ []) ∷ linear (negsuc 0) ((0, pos 1) ∷ []) ∷ number (pos 0) ∷ number (pos 0) ∷ []) []
    (simp sorting-node (refl, (refl, tt), refl))
    (simp sorting-node (refl, (refl, (refl, (refl, tt))), refl)) refl refl

pub bv_shl_const_types : Types bv_shl_const bv_shl_const_constraints
unfolding is_entailed is_within
bv_shl_const_types =
    plain_types _ _ (bound (linear (negsuc 0) ((1, pos 1) ∷ [])) ∷ bound (linear (negsuc 0) ((0, pos 1) ∷ (1, negsuc 0) ∷ [])) ∷ []) bv_shl_const.left bv_shl_const.right (BitVec (name 0)) (linear (negsuc 0) ((0, pos 1) ∷ []) ∷ linear (negsuc 0) ((0, pos 1) ∷ []) ∷ []) (linear (negsuc 0) ((0, pos 1) ∷ []) ∷ number (pos 0) ∷ linear (negsuc 0) ((0, pos 1) ∷ (1, negsuc 0) ∷ []) ∷ name 1 ∷ linear (negsuc 0) ((1, pos 1) ∷ []) ∷ []) bv_shl_const_constraints
    (simp sorting-node (refl, (refl, tt), refl))
    (simp sorting-node (refl, tt, refl)) refl refl

pub bv_lshr_const_types : Types bv_lshr_const bv_lshr_const_constraints
unfolding is_entailed is_within
bv_lshr_const_types =
    plain_types _ _ (bound (linear (negsuc 0) ((1, pos 1) ∷ [])) ∷ bound (linear (negsuc 0) ((0, pos 1) ∷ (1, negsuc 0) ∷ [])) ∷ []) bv_lshr_const.left bv_lshr_const.right (BitVec (name 0)) (linear (negsuc 0) ((0, pos 1) ∷ []) ∷ linear (negsuc 0) ((0, pos 1) ∷ []) ∷ []) (linear (negsuc 0) ((1, pos 1) ∷ []) ∷ linear (negsuc 0) ((0, pos 1) ∷ []) ∷ name 1 ∷ linear (negsuc 0) ((0, pos 1) ∷ (1, negsuc 0) ∷ []) ∷ number (pos 0) ∷ []) bv_lshr_const_constraints
    (simp sorting-node (refl, (refl, tt), refl))
    (simp sorting-node (refl, tt, refl)) refl refl

pub bv_extract_whole_types : Types bv_extract_whole []
unfolding is_entailed is_within
bv_extract_whole_types =
    plain_types _ _ [] bv_extract_whole.left bv_extract_whole.right (BitVec (name 0)) (linear (negsuc 0) ((0, pos 1) ∷ []) ∷ number (pos 0) ∷ linear (negsuc 0) ((0, pos 1) ∷ []) ∷ number (pos 0) ∷ []) (linear (negsuc 0) ((0, pos 1) ∷ []) ∷ []) []
    (simp sorting-node (refl, tt, refl))
    (simp sorting-node (refl, tt, refl)) refl refl

pub bv_extract_extract_types : Types bv_extract_extract bv_extract_extract_constraints
unfolding is_entailed is_within
bv_extract_extract_types =
    plain_types _ _ [] bv_extract_extract.left bv_extract_extract.right (BitVec (linear (pos 1) ((1, negsuc 0) ∷ (2, pos 1) ∷ []))) (linear (negsuc 0) ((0, pos 1) ∷ []) ∷ name 3 ∷ linear (pos 0) ((3, negsuc 0) ∷ (4, pos 1) ∷ []) ∷ linear (negsuc 0) ((0, pos 1) ∷ (4, negsuc 0) ∷ []) ∷ name 1 ∷ linear (pos 0) ((1, negsuc 0) ∷ (2, pos 1) ∷ []) ∷ linear (pos 0) ((2, negsuc 0) ∷ (3, negsuc 0) ∷ (4, pos 1) ∷ []) ∷ []) (linear (negsuc 0) ((0, pos 1) ∷ []) ∷ linear (pos 0) ((1, pos 1) ∷ (3, pos 1) ∷ []) ∷ linear (pos 0) ((1, negsuc 0) ∷ (2, pos 1) ∷ []) ∷ linear (negsuc 0) ((0, pos 1) ∷ (2, negsuc 0) ∷ (3, negsuc 0) ∷ []) ∷ []) bv_extract_extract_constraints
    (simp sorting-node (refl, tt, refl))
    (simp sorting-node (refl, tt, refl)) refl refl

pub bv_extract_concat_low_types : Types bv_extract_concat_low bv_extract_concat_low_constraints
unfolding is_entailed is_within
bv_extract_concat_low_types =
    plain_types _ _ (bound (linear (negsuc 0) ((1, negsuc 0) ∷ (4, pos 1) ∷ [])) ∷ []) bv_extract_concat_low.left bv_extract_concat_low.right (BitVec (linear (pos 1) ((0, negsuc 0) ∷ (1, pos 1) ∷ []))) (linear (negsuc 0) ((4, pos 1) ∷ []) ∷ name 0 ∷ linear (pos 0) ((0, negsuc 0) ∷ (1, pos 1) ∷ []) ∷ linear (negsuc 0) ((1, negsuc 0) ∷ (2, pos 1) ∷ (4, pos 1) ∷ []) ∷ []) (linear (negsuc 0) ((4, pos 1) ∷ []) ∷ name 0 ∷ linear (pos 0) ((0, negsuc 0) ∷ (1, pos 1) ∷ []) ∷ linear (negsuc 0) ((1, negsuc 0) ∷ (4, pos 1) ∷ []) ∷ []) bv_extract_concat_low_constraints
    (simp sorting-node (refl, tt, refl))
    (simp sorting-node (refl, tt, refl)) refl refl

pub bv_extract_concat_high_types : Types bv_extract_concat_high bv_extract_concat_high_constraints
unfolding is_entailed is_within
bv_extract_concat_high_types =
    plain_types _ _ (bound (linear (pos 0) ((0, pos 1) ∷ (2, negsuc 0) ∷ [])) ∷ []) bv_extract_concat_high.left bv_extract_concat_high.right (BitVec (linear (pos 1) ((0, negsuc 0) ∷ (1, pos 1) ∷ []))) (linear (negsuc 0) ((4, pos 1) ∷ []) ∷ name 0 ∷ linear (pos 0) ((0, negsuc 0) ∷ (1, pos 1) ∷ []) ∷ linear (negsuc 0) ((1, negsuc 0) ∷ (2, pos 1) ∷ (4, pos 1) ∷ []) ∷ []) (linear (negsuc 0) ((4, pos 1) ∷ []) ∷ linear (pos 0) ((0, pos 1) ∷ (2, negsuc 0) ∷ []) ∷ linear (pos 0) ((0, negsuc 0) ∷ (1, pos 1) ∷ []) ∷ linear (negsuc 0) ((1, negsuc 0) ∷ (2, pos 1) ∷ (4, pos 1) ∷ []) ∷ []) bv_extract_concat_high_constraints
    (simp sorting-node (refl, tt, refl))
    (simp sorting-node (refl, tt, refl)) refl refl

pub bv_concat_extract_types : Types bv_concat_extract bv_concat_extract_constraints
unfolding is_entailed is_within
bv_concat_extract_types =
    plain_types _ _ [] bv_concat_extract.left bv_concat_extract.right (BitVec (linear (pos 1) ((1, negsuc 0) ∷ (3, pos 1) ∷ (5, pos 1) ∷ (6, pos 1) ∷ []))) (linear (negsuc 0) ((0, pos 1) ∷ []) ∷ name 2 ∷ linear (pos 0) ((2, negsuc 0) ∷ (3, pos 1) ∷ []) ∷ linear (negsuc 0) ((0, pos 1) ∷ (3, negsuc 0) ∷ []) ∷ linear (negsuc 0) ((0, pos 1) ∷ []) ∷ name 1 ∷ linear (negsuc 0) ((1, negsuc 0) ∷ (2, pos 1) ∷ []) ∷ linear (pos 0) ((0, pos 1) ∷ (2, negsuc 0) ∷ []) ∷ []) (linear (negsuc 0) ((0, pos 1) ∷ []) ∷ name 1 ∷ linear (pos 0) ((1, negsuc 0) ∷ (3, pos 1) ∷ []) ∷ linear (negsuc 0) ((0, pos 1) ∷ (3, negsuc 0) ∷ []) ∷ []) bv_concat_extract_constraints
    (simp sorting-node (refl, tt, refl))
    (simp sorting-node (refl, tt, refl)) refl refl

pub bv_zero_extend_types : Types bv_zero_extend bv_zero_extend_constraints
unfolding is_entailed is_within
bv_zero_extend_types =
    plain_types _ _ (bound (linear (negsuc 0) ((1, pos 1) ∷ [])) ∷ []) bv_zero_extend.left bv_zero_extend.right (BitVec (linear (pos 0) ((0, pos 1) ∷ (1, pos 1) ∷ []))) (linear (negsuc 0) ((0, pos 1) ∷ []) ∷ name 1 ∷ []) (linear (negsuc 0) ((1, pos 1) ∷ []) ∷ linear (negsuc 0) ((0, pos 1) ∷ []) ∷ []) bv_zero_extend_constraints
    (simp sorting-node (refl, tt, refl))
    (simp sorting-node (refl, tt, refl)) refl refl
