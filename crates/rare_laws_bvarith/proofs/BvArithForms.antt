-- The rules of arithmetic on bit vectors are in form.
use Rattle.std.proofs.Common.{refl}
use Rattle.rare_rule.specs.Rules.{IsInForm}
use Rattle.rare_rule.proofs.Walks.{walk-node, nesting-BitVec}
use Rattle.rare_rule.proofs.FormLemmas.{in_form}
use Rattle.rare_laws_bvarith.specs.BvArithRules.{bv_add_zero, bv_add_flat, bv_add_cancel, bv_mul_one, bv_mul_zero, bv_neg_elim, bv_sub_elim, bv_ugt_elim, bv_uge_elim, bv_ule_elim, bv_sgt_elim, bv_ult_refl, bv_ult_zero, bv_udiv_zero, bv_urem_zero}

pub bv_add_zero_form : IsInForm bv_add_zero
bv_add_zero_form = in_form bv_add_zero refl (simp nesting-BitVec refl) (simp walk-node refl) (simp walk-node refl) (simp walk-node refl)

pub bv_add_flat_form : IsInForm bv_add_flat
bv_add_flat_form = in_form bv_add_flat refl (simp nesting-BitVec refl) (simp walk-node refl) (simp walk-node refl) (simp walk-node refl)

pub bv_add_cancel_form : IsInForm bv_add_cancel
bv_add_cancel_form = in_form bv_add_cancel refl (simp nesting-BitVec refl) (simp walk-node refl) (simp walk-node refl) (simp walk-node refl)

pub bv_mul_one_form : IsInForm bv_mul_one
bv_mul_one_form = in_form bv_mul_one refl (simp nesting-BitVec refl) (simp walk-node refl) (simp walk-node refl) (simp walk-node refl)

pub bv_mul_zero_form : IsInForm bv_mul_zero
bv_mul_zero_form = in_form bv_mul_zero refl (simp nesting-BitVec refl) (simp walk-node refl) (simp walk-node refl) (simp walk-node refl)

pub bv_neg_elim_form : IsInForm bv_neg_elim
bv_neg_elim_form = in_form bv_neg_elim refl (simp nesting-BitVec refl) (simp walk-node refl) (simp walk-node refl) (simp walk-node refl)

pub bv_sub_elim_form : IsInForm bv_sub_elim
bv_sub_elim_form = in_form bv_sub_elim refl (simp nesting-BitVec refl) (simp walk-node refl) (simp walk-node refl) (simp walk-node refl)

pub bv_ugt_elim_form : IsInForm bv_ugt_elim
bv_ugt_elim_form = in_form bv_ugt_elim refl (simp nesting-BitVec refl) (simp walk-node refl) (simp walk-node refl) (simp walk-node refl)

pub bv_uge_elim_form : IsInForm bv_uge_elim
bv_uge_elim_form = in_form bv_uge_elim refl (simp nesting-BitVec refl) (simp walk-node refl) (simp walk-node refl) (simp walk-node refl)

pub bv_ule_elim_form : IsInForm bv_ule_elim
bv_ule_elim_form = in_form bv_ule_elim refl (simp nesting-BitVec refl) (simp walk-node refl) (simp walk-node refl) (simp walk-node refl)

pub bv_sgt_elim_form : IsInForm bv_sgt_elim
bv_sgt_elim_form = in_form bv_sgt_elim refl (simp nesting-BitVec refl) (simp walk-node refl) (simp walk-node refl) (simp walk-node refl)

pub bv_ult_refl_form : IsInForm bv_ult_refl
bv_ult_refl_form = in_form bv_ult_refl refl (simp nesting-BitVec refl) (simp walk-node refl) (simp walk-node refl) (simp walk-node refl)

pub bv_ult_zero_form : IsInForm bv_ult_zero
bv_ult_zero_form = in_form bv_ult_zero refl (simp nesting-BitVec refl) (simp walk-node refl) (simp walk-node refl) (simp walk-node refl)

pub bv_udiv_zero_form : IsInForm bv_udiv_zero
bv_udiv_zero_form = in_form bv_udiv_zero refl (simp nesting-BitVec refl) (simp walk-node refl) (simp walk-node refl) (simp walk-node refl)

pub bv_urem_zero_form : IsInForm bv_urem_zero
bv_urem_zero_form = in_form bv_urem_zero refl (simp nesting-BitVec refl) (simp walk-node refl) (simp walk-node refl) (simp walk-node refl)
