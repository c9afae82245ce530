-- The rules of operators that go bit by bit type, and ask for nothing that does not hold of every width.
use Rattle.std.proofs.Common.{[], ◌∷◌, refl}
use Rattle.std.specs.Prelude.{pos, negsuc}
use Rattle.rare_linear.specs.Linears.{linear}
use Rattle.rare_linear.specs.EntailmentTest.{is_entailed, is_within}
use Rattle.rare_sort.specs.Sorting.{name}
use Rattle.rare_sort.specs.declared.sort.Sort.{BitVec}
use Rattle.rare_sort.proofs.SortingLemmas.{sorting-node}
use Rattle.rare_rule.specs.RuleSorting.{Types}
use Rattle.rare_rule.proofs.TypingLemmas.{plain_types, types_in}
use Rattle.rare_laws_bvbits.specs.BvBitwiseRules.{bv_and_ones, bv_and_zero, bv_and_flat, bv_and_dup, bv_and_compl, bv_and_de_morgan, bv_or_zero, bv_or_ones, bv_or_flat, bv_or_compl, bv_xor_zero, bv_xor_ones, bv_xor_dup, bv_not_not}

pub bv_and_ones_types : Types bv_and_ones []
unfolding is_entailed is_within
bv_and_ones_types =
    plain_types _ _ [] bv_and_ones.left bv_and_ones.right (BitVec (name 0)) (linear (negsuc 0) ((0, pos 1) ∷ []) ∷ linear (negsuc 0) ((0, pos 1) ∷ []) ∷ linear (negsuc 0) ((0, pos 1) ∷ []) ∷ []) (linear (negsuc 0) ((0, pos 1) ∷ []) ∷ linear (negsuc 0) ((0, pos 1) ∷ []) ∷ []) []
    (simp sorting-node (refl, (refl, (refl, tt)), refl))
    (simp sorting-node (refl, (refl, tt), refl)) refl refl

pub bv_and_zero_types : Types bv_and_zero []
unfolding is_entailed is_within
bv_and_zero_types =
    plain_types _ _ [] bv_and_zero.left bv_and_zero.right (BitVec (name 0)) (linear (negsuc 0) ((0, pos 1) ∷ []) ∷ linear (negsuc 0) ((0, pos 1) ∷ []) ∷ linear (negsuc 0) ((0, pos 1) ∷ []) ∷ []) (linear (negsuc 0) ((0, pos 1) ∷ []) ∷ []) []
    (simp sorting-node (refl, (refl, (refl, tt)), refl))
    (simp sorting-node (refl, tt, refl)) refl refl

pub bv_and_flat_types : Types bv_and_flat []
unfolding is_entailed is_within
bv_and_flat_types =
    plain_types _ _ [] bv_and_flat.left bv_and_flat.right (BitVec (name 0)) (linear (negsuc 0) ((0, pos 1) ∷ []) ∷ linear (negsuc 0) ((0, pos 1) ∷ []) ∷ linear (negsuc 0) ((0, pos 1) ∷ []) ∷ []) (linear (negsuc 0) ((0, pos 1) ∷ []) ∷ linear (negsuc 0) ((0, pos 1) ∷ []) ∷ linear (negsuc 0) ((0, pos 1) ∷ []) ∷ []) []
    (simp sorting-node (refl, (refl, (refl, tt)), refl))
    (simp sorting-node (refl, (refl, (refl, tt)), refl)) refl refl

pub bv_and_dup_types : Types bv_and_dup []
unfolding is_entailed is_within
bv_and_dup_types =
    plain_types _ _ [] bv_and_dup.left bv_and_dup.right (BitVec (name 0)) (linear (negsuc 0) ((0, pos 1) ∷ []) ∷ linear (negsuc 0) ((0, pos 1) ∷ []) ∷ linear (negsuc 0) ((0, pos 1) ∷ []) ∷ linear (negsuc 0) ((0, pos 1) ∷ []) ∷ linear (negsuc 0) ((0, pos 1) ∷ []) ∷ []) (linear (negsuc 0) ((0, pos 1) ∷ []) ∷ linear (negsuc 0) ((0, pos 1) ∷ []) ∷ linear (negsuc 0) ((0, pos 1) ∷ []) ∷ linear (negsuc 0) ((0, pos 1) ∷ []) ∷ []) []
    (simp sorting-node (refl, (refl, (refl, (refl, (refl, tt)))), refl))
    (simp sorting-node (refl, (refl, (refl, (refl, tt))), refl)) refl refl

pub bv_and_compl_types : Types bv_and_compl []
unfolding is_entailed is_within
bv_and_compl_types =
    plain_types _ _ [] bv_and_compl.left bv_and_compl.right (BitVec (name 0)) (linear (negsuc 0) ((0, pos 1) ∷ []) ∷ linear (negsuc 0) ((0, pos 1) ∷ []) ∷ linear (negsuc 0) ((0, pos 1) ∷ []) ∷ linear (negsuc 0) ((0, pos 1) ∷ []) ∷ linear (negsuc 0) ((0, pos 1) ∷ []) ∷ []) (linear (negsuc 0) ((0, pos 1) ∷ []) ∷ []) []
    (simp sorting-node (refl, (refl, (refl, (refl, (refl, tt)))), refl))
    (simp sorting-node (refl, tt, refl)) refl refl

pub bv_and_de_morgan_types : Types bv_and_de_morgan []
unfolding is_entailed is_within
bv_and_de_morgan_types =
    types_in _ _ bv_and_de_morgan.left bv_and_de_morgan.right _ (BitVec (name 0)) (linear (negsuc 0) ((0, pos 1) ∷ []) ∷ linear (negsuc 0) ((0, pos 1) ∷ []) ∷ linear (negsuc 0) ((0, pos 1) ∷ []) ∷ []) (linear (negsuc 0) ((0, pos 1) ∷ []) ∷ linear (negsuc 0) ((0, pos 1) ∷ []) ∷ []) (linear (negsuc 0) ((0, pos 1) ∷ []) ∷ []) []
    (simp sorting-node (refl, (refl, (refl, tt)), refl))
    (simp sorting-node (refl, (refl, tt), refl))
    (simp sorting-node (refl, (refl, tt), refl)) refl refl

pub bv_or_zero_types : Types bv_or_zero []
unfolding is_entailed is_within
bv_or_zero_types =
    plain_types _ _ [] bv_or_zero.left bv_or_zero.right (BitVec (name 0)) (linear (negsuc 0) ((0, pos 1) ∷ []) ∷ linear (negsuc 0) ((0, pos 1) ∷ []) ∷ linear (negsuc 0) ((0, pos 1) ∷ []) ∷ []) (linear (negsuc 0) ((0, pos 1) ∷ []) ∷ linear (negsuc 0) ((0, pos 1) ∷ []) ∷ []) []
    (simp sorting-node (refl, (refl, (refl, tt)), refl))
    (simp sorting-node (refl, (refl, tt), refl)) refl refl

pub bv_or_ones_types : Types bv_or_ones []
unfolding is_entailed is_within
bv_or_ones_types =
    plain_types _ _ [] bv_or_ones.left bv_or_ones.right (BitVec (name 0)) (linear (negsuc 0) ((0, pos 1) ∷ []) ∷ linear (negsuc 0) ((0, pos 1) ∷ []) ∷ linear (negsuc 0) ((0, pos 1) ∷ []) ∷ []) (linear (negsuc 0) ((0, pos 1) ∷ []) ∷ []) []
    (simp sorting-node (refl, (refl, (refl, tt)), refl))
    (simp sorting-node (refl, tt, refl)) refl refl

pub bv_or_flat_types : Types bv_or_flat []
unfolding is_entailed is_within
bv_or_flat_types =
    plain_types _ _ [] bv_or_flat.left bv_or_flat.right (BitVec (name 0)) (linear (negsuc 0) ((0, pos 1) ∷ []) ∷ linear (negsuc 0) ((0, pos 1) ∷ []) ∷ linear (negsuc 0) ((0, pos 1) ∷ []) ∷ []) (linear (negsuc 0) ((0, pos 1) ∷ []) ∷ linear (negsuc 0) ((0, pos 1) ∷ []) ∷ linear (negsuc 0) ((0, pos 1) ∷ []) ∷ []) []
    (simp sorting-node (refl, (refl, (refl, tt)), refl))
    (simp sorting-node (refl, (refl, (refl, tt)), refl)) refl refl

pub bv_or_compl_types : Types bv_or_compl []
unfolding is_entailed is_within
bv_or_compl_types =
    plain_types _ _ [] bv_or_compl.left bv_or_compl.right (BitVec (name 0)) (linear (negsuc 0) ((0, pos 1) ∷ []) ∷ linear (negsuc 0) ((0, pos 1) ∷ []) ∷ linear (negsuc 0) ((0, pos 1) ∷ []) ∷ linear (negsuc 0) ((0, pos 1) ∷ []) ∷ linear (negsuc 0) ((0, pos 1) ∷ []) ∷ []) (linear (negsuc 0) ((0, pos 1) ∷ []) ∷ []) []
    (simp sorting-node (refl, (refl, (refl, (refl, (refl, tt)))), refl))
    (simp sorting-node (refl, tt, refl)) refl refl

pub bv_xor_zero_types : Types bv_xor_zero []
unfolding is_entailed is_within
bv_xor_zero_types =
    plain_types _ _ [] bv_xor_zero.left bv_xor_zero.right (BitVec (name 0)) (linear (negsuc 0) ((0, pos 1) ∷ []) ∷ linear (negsuc 0) ((0, pos 1) ∷ []) ∷ linear (negsuc 0) ((0, pos 1) ∷ []) ∷ []) (linear (negsuc 0) ((0, pos 1) ∷ []) ∷ linear (negsuc 0) ((0, pos 1) ∷ []) ∷ []) []
    (simp sorting-node (refl, (refl, (refl, tt)), refl))
    (simp sorting-node (refl, (refl, tt), refl)) refl refl

pub bv_xor_ones_types : Types bv_xor_ones []
unfolding is_entailed is_within
bv_xor_ones_types =
    plain_types _ _ [] bv_xor_ones.left bv_xor_ones.right (BitVec (name 0)) (linear (negsuc 0) ((0, pos 1) ∷ []) ∷ linear (negsuc 0) ((0, pos 1) ∷ []) ∷ linear (negsuc 0) ((0, pos 1) ∷ []) ∷ []) (linear (negsuc 0) ((0, pos 1) ∷ []) ∷ linear (negsuc 0) ((0, pos 1) ∷ []) ∷ []) []
    (simp sorting-node (refl, (refl, (refl, tt)), refl))
    (simp sorting-node (refl, (refl, tt), refl)) refl refl

pub bv_xor_dup_types : Types bv_xor_dup []
unfolding is_entailed is_within
bv_xor_dup_types =
    plain_types _ _ [] bv_xor_dup.left bv_xor_dup.right (BitVec (name 0)) (linear (negsuc 0) ((0, pos 1) ∷ []) ∷ linear (negsuc 0) ((0, pos 1) ∷ []) ∷ linear (negsuc 0) ((0, pos 1) ∷ []) ∷ linear (negsuc 0) ((0, pos 1) ∷ []) ∷ linear (negsuc 0) ((0, pos 1) ∷ []) ∷ []) (linear (negsuc 0) ((0, pos 1) ∷ []) ∷ linear (negsuc 0) ((0, pos 1) ∷ []) ∷ linear (negsuc 0) ((0, pos 1) ∷ []) ∷ []) []
    (simp sorting-node (refl, (refl, (refl, (refl, (refl, tt)))), refl))
    (simp sorting-node (refl, (refl, (refl, tt)), refl)) refl refl

pub bv_not_not_types : Types bv_not_not []
unfolding is_entailed is_within
bv_not_not_types =
    plain_types _ _ [] bv_not_not.left bv_not_not.right (BitVec (name 0)) (linear (negsuc 0) ((0, pos 1) ∷ []) ∷ []) (linear (negsuc 0) ((0, pos 1) ∷ []) ∷ []) []
    (simp sorting-node (refl, tt, refl))
    (simp sorting-node (refl, tt, refl)) refl refl
