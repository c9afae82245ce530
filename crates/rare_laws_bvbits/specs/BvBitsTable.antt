-- The rules of operators that go bit by bit, and of slices and joins, in order, with their constraints.
use Rattle.std.specs.Prelude.{List, [], ◌∷◌}
use Rattle.rare_rule.specs.TypedRule.{TypedRule}
use Rattle.rare_law_parts.specs.RuleTables.{constrained, unconstrained}
use Rattle.rare_laws_bvbits.specs.BvBitwiseRules.{bv_and_ones, bv_and_zero, bv_and_flat, bv_and_dup, bv_and_compl, bv_and_de_morgan, bv_or_zero, bv_or_ones, bv_or_flat, bv_or_compl, bv_xor_zero, bv_xor_ones, bv_xor_dup, bv_not_not}
use Rattle.rare_laws_bvbits.specs.BvSliceRules.{bv_comp_elim, bv_shl_const, bv_lshr_const, bv_extract_whole, bv_extract_extract, bv_extract_concat_low, bv_extract_concat_high, bv_concat_extract, bv_zero_extend, bv_shl_const_constraints, bv_lshr_const_constraints, bv_extract_extract_constraints, bv_extract_concat_low_constraints, bv_extract_concat_high_constraints, bv_concat_extract_constraints, bv_zero_extend_constraints}

abbrev pub bv_bits_rules : List TypedRule
bv_bits_rules =
    unconstrained bv_and_ones
    ∷ unconstrained bv_and_zero
    ∷ unconstrained bv_and_flat
    ∷ unconstrained bv_and_dup
    ∷ unconstrained bv_and_compl
    ∷ unconstrained bv_and_de_morgan
    ∷ unconstrained bv_or_zero
    ∷ unconstrained bv_or_ones
    ∷ unconstrained bv_or_flat
    ∷ unconstrained bv_or_compl
    ∷ unconstrained bv_xor_zero
    ∷ unconstrained bv_xor_ones
    ∷ unconstrained bv_xor_dup
    ∷ unconstrained bv_not_not
    ∷ unconstrained bv_comp_elim
    ∷ constrained bv_shl_const bv_shl_const_constraints
    ∷ constrained bv_lshr_const bv_lshr_const_constraints
    ∷ unconstrained bv_extract_whole
    ∷ constrained bv_extract_extract bv_extract_extract_constraints
    ∷ constrained bv_extract_concat_low bv_extract_concat_low_constraints
    ∷ constrained bv_extract_concat_high bv_extract_concat_high_constraints
    ∷ constrained bv_concat_extract bv_concat_extract_constraints
    ∷ constrained bv_zero_extend bv_zero_extend_constraints
    ∷ []
