-- The rules of comparisons, shifts, slices and joins are in form.
use Rattle.std.proofs.Common.{refl}
use Rattle.rare_rule.specs.Rules.{IsInForm}
use Rattle.rare_rule.proofs.Walks.{walk-node, nesting-BitVec}
use Rattle.rare_rule.proofs.FormLemmas.{in_form}
use Rattle.rare_laws_bvbits.specs.BvSliceRules.{bv_comp_elim, bv_shl_const, bv_lshr_const, bv_extract_whole, bv_extract_extract, bv_extract_concat_low, bv_extract_concat_high, bv_concat_extract, bv_zero_extend}

pub bv_comp_elim_form : IsInForm bv_comp_elim
bv_comp_elim_form = in_form bv_comp_elim refl (simp nesting-BitVec refl) (simp walk-node refl) (simp walk-node refl) (simp walk-node refl)

pub bv_shl_const_form : IsInForm bv_shl_const
bv_shl_const_form = in_form bv_shl_const refl (simp nesting-BitVec refl) (simp walk-node refl) (simp walk-node refl) (simp walk-node refl)

pub bv_lshr_const_form : IsInForm bv_lshr_const
bv_lshr_const_form = in_form bv_lshr_const refl (simp nesting-BitVec refl) (simp walk-node refl) (simp walk-node refl) (simp walk-node refl)

pub bv_extract_whole_form : IsInForm bv_extract_whole
bv_extract_whole_form = in_form bv_extract_whole refl (simp nesting-BitVec refl) (simp walk-node refl) (simp walk-node refl) (simp walk-node refl)

pub bv_extract_extract_form : IsInForm bv_extract_extract
bv_extract_extract_form = in_form bv_extract_extract refl (simp nesting-BitVec refl) (simp walk-node refl) (simp walk-node refl) (simp walk-node refl)

pub bv_extract_concat_low_form : IsInForm bv_extract_concat_low
bv_extract_concat_low_form = in_form bv_extract_concat_low refl (simp nesting-BitVec refl) (simp walk-node refl) (simp walk-node refl) (simp walk-node refl)

pub bv_extract_concat_high_form : IsInForm bv_extract_concat_high
bv_extract_concat_high_form = in_form bv_extract_concat_high refl (simp nesting-BitVec refl) (simp walk-node refl) (simp walk-node refl) (simp walk-node refl)

pub bv_concat_extract_form : IsInForm bv_concat_extract
bv_concat_extract_form = in_form bv_concat_extract refl (simp nesting-BitVec refl) (simp walk-node refl) (simp walk-node refl) (simp walk-node refl)

pub bv_zero_extend_form : IsInForm bv_zero_extend
bv_zero_extend_form = in_form bv_zero_extend refl (simp nesting-BitVec refl) (simp walk-node refl) (simp walk-node refl) (simp walk-node refl)
