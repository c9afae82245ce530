-- Written rules type.
use Rattle.std.proofs.Common.{List, [], ◌∷◌, refl}
use Rattle.std.specs.Prelude.{pos, negsuc}
use Rattle.rare_linear.specs.Linears.{LinearExpression, linear, number}
use Rattle.rare_linear.specs.EntailmentTest.{is_entailed, is_within}
use Rattle.rare_sort.specs.Sorting.{name}
use Rattle.rare_sort.specs.declared.sort.Sort.{Sort, Bool, BitVec, Named}
use Rattle.rare_sort.proofs.SortingLemmas.{sorting-node}
use Rattle.rare_rule.specs.RuleSorting.{Types}
use Rattle.rare_rule.specs.RuleRows.{and_true, ite_cond, and_de_morgan, shift_left, shift_constraints, low_slice, low_slice_constraints, concat_low, concat_low_constraints}
use Rattle.rare_rule.proofs.TypingLemmas.{plain_types, types_if, types_in}

pub and_true_types : Types and_true []
and_true_types =
    plain_types _ _ _ and_true.left and_true.right Bool [] [] [] (simp sorting-node (refl, (refl, (refl, (refl, tt))), refl)) (simp sorting-node (refl, (refl, (refl, tt)), refl)) refl refl

pub ite_cond_types : Types ite_cond []
ite_cond_types =
    types_if _ _ _ ite_cond.left ite_cond.right (Named 0) [] [] [] [] (simp sorting-node (refl, (refl, (refl, tt)), refl)) (simp sorting-node (refl, tt, refl)) (simp sorting-node (refl, tt, refl)) refl refl

pub and_de_morgan_types : Types and_de_morgan []
and_de_morgan_types =
    types_in _ _ and_de_morgan.left and_de_morgan.right _ Bool [] [] [] [] (simp sorting-node (refl, (refl, (refl, (refl, (refl, tt)))), refl))
    (simp sorting-node (refl, (refl, (refl, (refl, tt))), refl)) (simp sorting-node (refl, (refl, (refl, (refl, tt))), refl)) refl refl

-- n - 1, and n - k - 1
abbrev less : LinearExpression
less = linear (negsuc 0) ((0, pos 1) ∷ [])

abbrev rest : LinearExpression
rest = linear (negsuc 0) ((0, pos 1) ∷ (1, negsuc 0) ∷ [])

pub shift_left_types : Types shift_left shift_constraints
unfolding is_entailed is_within
shift_left_types =
    plain_types _ _ shift_constraints shift_left.left shift_left.right (BitVec (name 0)) (less ∷ less ∷ []) (less ∷ number (pos 0) ∷ rest ∷ name 1 ∷ linear (negsuc 0) ((1, pos 1) ∷ []) ∷ [])
    shift_constraints (simp sorting-node (refl, (refl, tt), refl)) (simp sorting-node (refl, tt, refl)) refl refl

-- j + 1
abbrev low_sort : Sort
low_sort = BitVec (linear (pos 1) ((1, pos 1) ∷ []))

abbrev low_needs : List LinearExpression
low_needs = less ∷ number (pos 0) ∷ name 1 ∷ rest ∷ []

pub low_slice_types : Types low_slice low_slice_constraints
unfolding is_entailed is_within
low_slice_types =
    plain_types _ _ [] low_slice.left low_slice.right low_sort low_needs low_needs low_slice_constraints (simp sorting-node (refl, tt, refl)) (simp sorting-node (refl, tt, refl)) refl refl

-- j - i + 1
abbrev slice_sort : Sort
slice_sort = BitVec (linear (pos 1) ((0, pos 1) ∷ (1, negsuc 0) ∷ []))

-- what a slice of a word of this width less j less 1 asks for, with the width of w
abbrev slice_needs : LinearExpression → List LinearExpression
slice_needs above = linear (negsuc 0) ((4, pos 1) ∷ []) ∷ name 1 ∷ linear (pos 0) ((0, pos 1) ∷ (1, negsuc 0) ∷ []) ∷ above ∷ []

pub concat_low_types : Types concat_low concat_low_constraints
unfolding is_entailed is_within
concat_low_types =
    plain_types _ _ concat_low.bounds concat_low.left concat_low.right slice_sort
    (slice_needs (linear (negsuc 0) ((0, negsuc 0) ∷ (2, pos 1) ∷ (4, pos 1) ∷ []))) (slice_needs (linear (negsuc 0) ((0, negsuc 0) ∷ (4, pos 1) ∷ [])))
    concat_low_constraints (simp sorting-node (refl, tt, refl)) (simp sorting-node (refl, tt, refl)) refl refl
