-- Each rule of theory Core holds.
use Rattle.rare_law_parts.specs.RuleTables.{EachHolds}
use Rattle.rare_laws_core.specs.CoreTable.{core_rules}
use Rattle.rare_laws_core.proofs.CoreLaws.{bool_not_not_holds, bool_and_true_holds, bool_and_false_holds, bool_and_flat_holds, bool_and_dup_holds, bool_and_conf_holds, bool_or_false_holds, bool_or_true_holds, bool_or_flat_holds, bool_or_dup_holds, bool_or_taut_holds, bool_and_comm_holds, bool_or_comm_holds, bool_and_de_morgan_holds, bool_or_de_morgan_holds, bool_impl_elim_holds, bool_xor_false_holds, bool_xor_true_holds, bool_xor_refl_holds, ite_true_holds, ite_false_holds, ite_same_holds, ite_not_holds, ite_bool_holds, ite_then_holds, ite_else_holds, ite_cond_holds, eq_refl_holds, eq_symm_holds, eq_true_holds, eq_false_holds, distinct_elim_holds}

pub core_rules_hold : EachHolds core_rules
core_rules_hold =
    (bool_not_not_holds, (bool_and_true_holds, (bool_and_false_holds, (bool_and_flat_holds, (bool_and_dup_holds, (bool_and_conf_holds, (bool_or_false_holds, (bool_or_true_holds, (bool_or_flat_holds, (bool_or_dup_holds, (bool_or_taut_holds, (bool_and_comm_holds, (bool_or_comm_holds, (bool_and_de_morgan_holds, (bool_or_de_morgan_holds, (bool_impl_elim_holds, (bool_xor_false_holds, (bool_xor_true_holds, (bool_xor_refl_holds, (ite_true_holds, (ite_false_holds, (ite_same_holds, (ite_not_holds, (ite_bool_holds, (ite_then_holds, (ite_else_holds, (ite_cond_holds, (eq_refl_holds, (eq_symm_holds, (eq_true_holds, (eq_false_holds, (distinct_elim_holds, tt))))))))))))))))))))))))))))))))
