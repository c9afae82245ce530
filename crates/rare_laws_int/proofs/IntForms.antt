-- The rules of theory Ints are in form.
use Rattle.std.proofs.Common.{refl}
use Rattle.rare_rule.specs.Rules.{IsInForm}
use Rattle.rare_rule.proofs.Walks.{walk-node, nesting-Int}
use Rattle.rare_rule.proofs.FormLemmas.{in_form}
use Rattle.rare_laws_int.specs.IntRules.{int_add_zero, int_add_flat, int_add_comm, int_add_cancel, int_mul_one, int_mul_zero, int_minus_self, int_sub_elim, int_neg_neg, int_distrib, int_gt_elim, int_lt_elim, int_ge_elim, int_le_refl, int_div_one, int_mod_one, int_mod_small, int_div_self, int_mod_mod, int_abs_elim}

pub int_add_zero_form : IsInForm int_add_zero
int_add_zero_form = in_form int_add_zero refl (simp nesting-Int refl) (simp walk-node refl) (simp walk-node refl) (simp walk-node refl)

pub int_add_flat_form : IsInForm int_add_flat
int_add_flat_form = in_form int_add_flat refl (simp nesting-Int refl) (simp walk-node refl) (simp walk-node refl) (simp walk-node refl)

pub int_add_comm_form : IsInForm int_add_comm
int_add_comm_form = in_form int_add_comm refl (simp nesting-Int refl) (simp walk-node refl) (simp walk-node refl) (simp walk-node refl)

pub int_add_cancel_form : IsInForm int_add_cancel
int_add_cancel_form = in_form int_add_cancel refl (simp nesting-Int refl) (simp walk-node refl) (simp walk-node refl) (simp walk-node refl)

pub int_mul_one_form : IsInForm int_mul_one
int_mul_one_form = in_form int_mul_one refl (simp nesting-Int refl) (simp walk-node refl) (simp walk-node refl) (simp walk-node refl)

pub int_mul_zero_form : IsInForm int_mul_zero
int_mul_zero_form = in_form int_mul_zero refl (simp nesting-Int refl) (simp walk-node refl) (simp walk-node refl) (simp walk-node refl)

pub int_minus_self_form : IsInForm int_minus_self
int_minus_self_form = in_form int_minus_self refl (simp nesting-Int refl) (simp walk-node refl) (simp walk-node refl) (simp walk-node refl)

pub int_sub_elim_form : IsInForm int_sub_elim
int_sub_elim_form = in_form int_sub_elim refl (simp nesting-Int refl) (simp walk-node refl) (simp walk-node refl) (simp walk-node refl)

pub int_neg_neg_form : IsInForm int_neg_neg
int_neg_neg_form = in_form int_neg_neg refl (simp nesting-Int refl) (simp walk-node refl) (simp walk-node refl) (simp walk-node refl)

pub int_distrib_form : IsInForm int_distrib
int_distrib_form = in_form int_distrib refl (simp nesting-Int refl) (simp walk-node refl) (simp walk-node refl) (simp walk-node refl)

pub int_gt_elim_form : IsInForm int_gt_elim
int_gt_elim_form = in_form int_gt_elim refl (simp nesting-Int refl) (simp walk-node refl) (simp walk-node refl) (simp walk-node refl)

pub int_lt_elim_form : IsInForm int_lt_elim
int_lt_elim_form = in_form int_lt_elim refl (simp nesting-Int refl) (simp walk-node refl) (simp walk-node refl) (simp walk-node refl)

pub int_ge_elim_form : IsInForm int_ge_elim
int_ge_elim_form = in_form int_ge_elim refl (simp nesting-Int refl) (simp walk-node refl) (simp walk-node refl) (simp walk-node refl)

pub int_le_refl_form : IsInForm int_le_refl
int_le_refl_form = in_form int_le_refl refl (simp nesting-Int refl) (simp walk-node refl) (simp walk-node refl) (simp walk-node refl)

pub int_div_one_form : IsInForm int_div_one
int_div_one_form = in_form int_div_one refl (simp nesting-Int refl) (simp walk-node refl) (simp walk-node refl) (simp walk-node refl)

pub int_mod_one_form : IsInForm int_mod_one
int_mod_one_form = in_form int_mod_one refl (simp nesting-Int refl) (simp walk-node refl) (simp walk-node refl) (simp walk-node refl)

pub int_mod_small_form : IsInForm int_mod_small
int_mod_small_form = in_form int_mod_small refl (simp nesting-Int refl) (simp walk-node refl) (simp walk-node refl) (simp walk-node refl)

pub int_div_self_form : IsInForm int_div_self
int_div_self_form = in_form int_div_self refl (simp nesting-Int refl) (simp walk-node refl) (simp walk-node refl) (simp walk-node refl)

pub int_mod_mod_form : IsInForm int_mod_mod
int_mod_mod_form = in_form int_mod_mod refl (simp nesting-Int refl) (simp walk-node refl) (simp walk-node refl) (simp walk-node refl)

pub int_abs_elim_form : IsInForm int_abs_elim
int_abs_elim_form = in_form int_abs_elim refl (simp nesting-Int refl) (simp walk-node refl) (simp walk-node refl) (simp walk-node refl)
