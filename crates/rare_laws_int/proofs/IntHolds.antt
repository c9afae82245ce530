-- Each rule of theory Ints holds.
use Rattle.rare_law_parts.specs.RuleTables.{EachHolds}
use Rattle.rare_laws_int.specs.IntTable.{int_rules}
use Rattle.rare_laws_int.proofs.IntLaws.{int_add_zero_holds, int_add_flat_holds, int_add_comm_holds, int_add_cancel_holds, int_mul_one_holds, int_mul_zero_holds, int_minus_self_holds, int_sub_elim_holds, int_neg_neg_holds, int_distrib_holds, int_gt_elim_holds, int_lt_elim_holds, int_ge_elim_holds, int_le_refl_holds, int_div_one_holds, int_mod_one_holds, int_mod_small_holds, int_div_self_holds, int_mod_mod_holds, int_abs_elim_holds}

pub int_rules_hold : EachHolds int_rules
int_rules_hold =
    (int_add_zero_holds, (int_add_flat_holds, (int_add_comm_holds, (int_add_cancel_holds, (int_mul_one_holds, (int_mul_zero_holds, (int_minus_self_holds, (int_sub_elim_holds, (int_neg_neg_holds, (int_distrib_holds, (int_gt_elim_holds, (int_lt_elim_holds, (int_ge_elim_holds, (int_le_refl_holds, (int_div_one_holds, (int_mod_one_holds, (int_mod_small_holds, (int_div_self_holds, (int_mod_mod_holds, (int_abs_elim_holds, tt))))))))))))))))))))
