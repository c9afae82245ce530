-- Each rule of arithmetic on bit vectors holds.
use Rattle.rare_law_parts.specs.RuleTables.{EachHolds}
use Rattle.rare_laws_bvarith.specs.BvArithTable.{bv_arith_rules}
use Rattle.rare_laws_bvarith.proofs.BvArithLaws.{bv_add_zero_holds, bv_add_flat_holds, bv_add_cancel_holds, bv_mul_one_holds, bv_mul_zero_holds, bv_neg_elim_holds, bv_sub_elim_holds, bv_ugt_elim_holds, bv_uge_elim_holds, bv_ule_elim_holds, bv_sgt_elim_holds, bv_ult_refl_holds, bv_ult_zero_holds, bv_udiv_zero_holds, bv_urem_zero_holds}

pub bv_arith_rules_hold : EachHolds bv_arith_rules
bv_arith_rules_hold =
    (bv_add_zero_holds, (bv_add_flat_holds, (bv_add_cancel_holds, (bv_mul_one_holds, (bv_mul_zero_holds, (bv_neg_elim_holds, (bv_sub_elim_holds, (bv_ugt_elim_holds, (bv_uge_elim_holds, (bv_ule_elim_holds, (bv_sgt_elim_holds, (bv_ult_refl_holds, (bv_ult_zero_holds, (bv_udiv_zero_holds, (bv_urem_zero_holds, tt)))))))))))))))
