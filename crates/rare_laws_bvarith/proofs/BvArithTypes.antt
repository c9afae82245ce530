-- The rules of arithmetic on bit vectors type, and ask for nothing that does not hold of every width.
use Rattle.std.proofs.Common.{[], ◌∷◌, refl}
use Rattle.std.specs.Prelude.{pos, negsuc}
use Rattle.rare_linear.specs.Linears.{linear}
use Rattle.rare_linear.specs.EntailmentTest.{is_entailed, is_within}
use Rattle.rare_sort.specs.Sorting.{name}
use Rattle.rare_sort.specs.declared.sort.Sort.{Bool, BitVec}
use Rattle.rare_sort.proofs.SortingLemmas.{sorting-node}
use Rattle.rare_rule.specs.RuleSorting.{Types}
use Rattle.rare_rule.proofs.TypingLemmas.{plain_types}
use Rattle.rare_laws_bvarith.specs.BvArithRules.{bv_add_zero, bv_add_flat, bv_add_cancel, bv_mul_one, bv_mul_zero, bv_neg_elim, bv_sub_elim, bv_ugt_elim, bv_uge_elim, bv_ule_elim, bv_sgt_elim, bv_ult_refl, bv_ult_zero, bv_udiv_zero, bv_urem_zero}

pub bv_add_zero_types : Types bv_add_zero []
unfolding is_entailed is_within
bv_add_zero_types =
    plain_types _ _ [] bv_add_zero.left bv_add_zero.right (BitVec (name 0)) (linear (negsuc 0) ((0, pos 1) ∷ []) ∷ linear (negsuc 0) ((0, pos 1) ∷ []) ∷ linear (negsuc 0) ((0, pos 1) ∷ []) ∷ []) (linear (negsuc 0) ((0, pos 1) ∷ []) ∷ linear (negsuc 0) ((0, pos 1) ∷ []) ∷ []) []
    (simp sorting-node (refl, (refl, (refl, tt)), refl))
    (simp sorting-node (refl, (refl, tt), refl)) refl refl

pub bv_add_flat_types : Types bv_add_flat []
unfolding is_entailed is_within
bv_add_flat_types =
    plain_types _ _ [] bv_add_flat.left bv_add_flat.right (BitVec (name 0)) (linear (negsuc 0) ((0, pos 1) ∷ []) ∷ linear (negsuc 0) ((0, pos 1) ∷ []) ∷ linear (negsuc 0) ((0, pos 1) ∷ []) ∷ []) (linear (negsuc 0) ((0, pos 1) ∷ []) ∷ linear (negsuc 0) ((0, pos 1) ∷ []) ∷ linear (negsuc 0) ((0, pos 1) ∷ []) ∷ []) []
    (simp sorting-node (refl, (refl, (refl, tt)), refl))
    (simp sorting-node (refl, (refl, (refl, tt)), refl)) refl refl

pub bv_add_cancel_types : Types bv_add_cancel []
unfolding is_entailed is_within
bv_add_cancel_types =
    plain_types _ _ [] bv_add_cancel.left bv_add_cancel.right (BitVec (name 0)) (linear (negsuc 0) ((0, pos 1) ∷ []) ∷ linear (negsuc 0) ((0, pos 1) ∷ []) ∷ linear (negsuc 0) ((0, pos 1) ∷ []) ∷ linear (negsuc 0) ((0, pos 1) ∷ []) ∷ linear (negsuc 0) ((0, pos 1) ∷ []) ∷ []) (linear (negsuc 0) ((0, pos 1) ∷ []) ∷ linear (negsuc 0) ((0, pos 1) ∷ []) ∷ linear (negsuc 0) ((0, pos 1) ∷ []) ∷ []) []
    (simp sorting-node (refl, (refl, (refl, (refl, (refl, tt)))), refl))
    (simp sorting-node (refl, (refl, (refl, tt)), refl)) refl refl

pub bv_mul_one_types : Types bv_mul_one []
unfolding is_entailed is_within
bv_mul_one_types =
    plain_types _ _ [] bv_mul_one.left bv_mul_one.right (BitVec (name 0)) (linear (negsuc 0) ((0, pos 1) ∷ []) ∷ linear (negsuc 0) ((0, pos 1) ∷ []) ∷ linear (negsuc 0) ((0, pos 1) ∷ []) ∷ []) (linear (negsuc 0) ((0, pos 1) ∷ []) ∷ linear (negsuc 0) ((0, pos 1) ∷ []) ∷ []) []
    (simp sorting-node (refl, (refl, (refl, tt)), refl))
    (simp sorting-node (refl, (refl, tt), refl)) refl refl

pub bv_mul_zero_types : Types bv_mul_zero []
unfolding is_entailed is_within
bv_mul_zero_types =
    plain_types _ _ [] bv_mul_zero.left bv_mul_zero.right (BitVec (name 0)) (linear (negsuc 0) ((0, pos 1) ∷ []) ∷ linear (negsuc 0) ((0, pos 1) ∷ []) ∷ linear (negsuc 0) ((0, pos 1) ∷ []) ∷ []) (linear (negsuc 0) ((0, pos 1) ∷ []) ∷ []) []
    (simp sorting-node (refl, (refl, (refl, tt)), refl))
    (simp sorting-node (refl, tt, refl)) refl refl

pub bv_neg_elim_types : Types bv_neg_elim []
unfolding is_entailed is_within
bv_neg_elim_types =
    plain_types _ _ [] bv_neg_elim.left bv_neg_elim.right (BitVec (name 0)) (linear (negsuc 0) ((0, pos 1) ∷ []) ∷ []) (linear (negsuc 0) ((0, pos 1) ∷ []) ∷ linear (negsuc 0) ((0, pos 1) ∷ []) ∷ []) []
    (simp sorting-node (refl, tt, refl))
    (simp sorting-node (refl, (refl, tt), refl)) refl refl

pub bv_sub_elim_types : Types bv_sub_elim []
unfolding is_entailed is_within
bv_sub_elim_types =
    plain_types _ _ [] bv_sub_elim.left bv_sub_elim.right (BitVec (name 0)) (linear (negsuc 0) ((0, pos 1) ∷ []) ∷ linear (negsuc 0) ((0, pos 1) ∷ []) ∷ []) (linear (negsuc 0) ((0, pos 1) ∷ []) ∷ linear (negsuc 0) ((0, pos 1) ∷ []) ∷ []) []
    (simp sorting-node (refl, (refl, tt), refl))
    (simp sorting-node (refl, (refl, tt), refl)) refl refl

pub bv_ugt_elim_types : Types bv_ugt_elim []
unfolding is_entailed is_within
bv_ugt_elim_types =
    plain_types _ _ [] bv_ugt_elim.left bv_ugt_elim.right Bool (linear (negsuc 0) ((0, pos 1) ∷ []) ∷ linear (negsuc 0) ((0, pos 1) ∷ []) ∷ []) (linear (negsuc 0) ((0, pos 1) ∷ []) ∷ linear (negsuc 0) ((0, pos 1) ∷ []) ∷ []) []
    (simp sorting-node (refl, (refl, tt), refl))
    (simp sorting-node (refl, (refl, tt), refl)) refl refl

pub bv_uge_elim_types : Types bv_uge_elim []
unfolding is_entailed is_within
bv_uge_elim_types =
    plain_types _ _ [] bv_uge_elim.left bv_uge_elim.right Bool (linear (negsuc 0) ((0, pos 1) ∷ []) ∷ linear (negsuc 0) ((0, pos 1) ∷ []) ∷ []) (linear (negsuc 0) ((0, pos 1) ∷ []) ∷ linear (negsuc 0) ((0, pos 1) ∷ []) ∷ []) []
    (simp sorting-node (refl, (refl, tt), refl))
    (simp sorting-node (refl, (refl, (refl, tt)), refl)) refl refl

pub bv_ule_elim_types : Types bv_ule_elim []
unfolding is_entailed is_within
bv_ule_elim_types =
    plain_types _ _ [] bv_ule_elim.left bv_ule_elim.right Bool (linear (negsuc 0) ((0, pos 1) ∷ []) ∷ linear (negsuc 0) ((0, pos 1) ∷ []) ∷ []) (linear (negsuc 0) ((0, pos 1) ∷ []) ∷ linear (negsuc 0) ((0, pos 1) ∷ []) ∷ []) []
    (simp sorting-node (refl, (refl, tt), refl))
    (simp sorting-node (refl, (refl, (refl, tt)), refl)) refl refl

pub bv_sgt_elim_types : Types bv_sgt_elim []
unfolding is_entailed is_within
bv_sgt_elim_types =
    plain_types _ _ [] bv_sgt_elim.left bv_sgt_elim.right Bool (linear (negsuc 0) ((0, pos 1) ∷ []) ∷ linear (negsuc 0) ((0, pos 1) ∷ []) ∷ []) (linear (negsuc 0) ((0, pos 1) ∷ []) ∷ linear (negsuc 0) ((0, pos 1) ∷ []) ∷ []) []
    (simp sorting-node (refl, (refl, tt), refl))
    (simp sorting-node (refl, (refl, tt), refl)) refl refl

pub bv_ult_refl_types : Types bv_ult_refl []
unfolding is_entailed is_within
bv_ult_refl_types =
    plain_types _ _ [] bv_ult_refl.left bv_ult_refl.right Bool (linear (negsuc 0) ((0, pos 1) ∷ []) ∷ linear (negsuc 0) ((0, pos 1) ∷ []) ∷ []) [] []
    (simp sorting-node (refl, (refl, tt), refl))
    (simp sorting-node (refl, tt, refl)) refl refl

pub bv_ult_zero_types : Types bv_ult_zero []
unfolding is_entailed is_within
bv_ult_zero_types =
    plain_types _ _ [] bv_ult_zero.left bv_ult_zero.right Bool (linear (negsuc 0) ((0, pos 1) ∷ []) ∷ linear (negsuc 0) ((0, pos 1) ∷ []) ∷ []) [] []
    (simp sorting-node (refl, (refl, tt), refl))
    (simp sorting-node (refl, tt, refl)) refl refl

pub bv_udiv_zero_types : Types bv_udiv_zero []
unfolding is_entailed is_within
bv_udiv_zero_types =
    plain_types _ _ [] bv_udiv_zero.left bv_udiv_zero.right (BitVec (name 0)) (linear (negsuc 0) ((0, pos 1) ∷ []) ∷ linear (negsuc 0) ((0, pos 1) ∷ []) ∷ []) (linear (negsuc 0) ((0, pos 1) ∷ []) ∷ []) []
    (simp sorting-node (refl, (refl, tt), refl))
    (simp sorting-node (refl, tt, refl)) refl refl

pub bv_urem_zero_types : Types bv_urem_zero []
unfolding is_entailed is_within
bv_urem_zero_types =
    plain_types _ _ [] bv_urem_zero.left bv_urem_zero.right (BitVec (name 0)) (linear (negsuc 0) ((0, pos 1) ∷ []) ∷ linear (negsuc 0) ((0, pos 1) ∷ []) ∷ []) (linear (negsuc 0) ((0, pos 1) ∷ []) ∷ []) []
    (simp sorting-node (refl, (refl, tt), refl))
    (simp sorting-node (refl, tt, refl)) refl refl
