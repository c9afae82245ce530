-- Each rule of operators that go bit by bit, and of slices and joins, holds.
use Rattle.rare_law_parts.specs.RuleTables.{EachHolds}
use Rattle.rare_laws_bvbits.specs.BvBitsTable.{bv_bits_rules}
use Rattle.rare_laws_bvbits.proofs.BvBitwiseLaws.{bv_and_ones_holds, bv_and_zero_holds, bv_and_flat_holds, bv_and_dup_holds, bv_and_compl_holds, bv_and_de_morgan_holds, bv_or_zero_holds, bv_or_ones_holds, bv_or_flat_holds, bv_or_compl_holds, bv_xor_zero_holds, bv_xor_ones_holds, bv_xor_dup_holds, bv_not_not_holds}
use Rattle.rare_laws_bvbits.proofs.BvSliceLaws.{bv_comp_elim_holds, bv_shl_const_holds, bv_lshr_const_holds, bv_extract_whole_holds, bv_extract_extract_holds, bv_extract_concat_low_holds, bv_extract_concat_high_holds, bv_concat_extract_holds, bv_zero_extend_holds}

pub bv_bits_rules_hold : EachHolds bv_bits_rules
bv_bits_rules_hold =
    (bv_and_ones_holds, (bv_and_zero_holds, (bv_and_flat_holds, (bv_and_dup_holds, (bv_and_compl_holds, (bv_and_de_morgan_holds, (bv_or_zero_holds, (bv_or_ones_holds, (bv_or_flat_holds, (bv_or_compl_holds, (bv_xor_zero_holds, (bv_xor_ones_holds, (bv_xor_dup_holds, (bv_not_not_holds, (bv_comp_elim_holds, (bv_shl_const_holds, (bv_lshr_const_holds, (bv_extract_whole_holds, (bv_extract_extract_holds, (bv_extract_concat_low_holds, (bv_extract_concat_high_holds, (bv_concat_extract_holds, (bv_zero_extend_holds, tt)))))))))))))))))))))))
