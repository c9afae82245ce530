-- The rules of theory Core type, and ask for nothing.
use Rattle.std.proofs.Common.{[], ◌∷◌, refl}
use Rattle.rare_sort.specs.declared.sort.Sort.{Bool, Named}
use Rattle.rare_sort.proofs.SortingLemmas.{sorting-node}
use Rattle.rare_rule.specs.RuleSorting.{Types}
use Rattle.rare_rule.proofs.TypingLemmas.{plain_types, types_if, types_in}
use Rattle.rare_laws_core.specs.CoreRules.{bool_not_not, bool_and_true, bool_and_false, bool_and_flat, bool_and_dup, bool_and_conf, bool_or_false, bool_or_true, bool_or_flat, bool_or_dup, bool_or_taut, bool_and_comm, bool_or_comm, bool_and_de_morgan, bool_or_de_morgan, bool_impl_elim, bool_xor_false, bool_xor_true, bool_xor_refl, ite_true, ite_false, ite_same, ite_not, ite_bool, ite_then, ite_else, ite_cond, eq_refl, eq_symm, eq_true, eq_false, distinct_elim}

pub bool_not_not_types : Types bool_not_not []
bool_not_not_types =
    plain_types _ _ [] bool_not_not.left bool_not_not.right Bool [] [] []
    (simp sorting-node (refl, (refl, (refl, tt)), refl))
    (simp sorting-node (refl, tt, refl)) refl refl

pub bool_and_true_types : Types bool_and_true []
bool_and_true_types =
    plain_types _ _ [] bool_and_true.left bool_and_true.right Bool [] [] []
    (simp sorting-node (refl, (refl, (refl, (refl, tt))), refl))
    (simp sorting-node (refl, (refl, (refl, tt)), refl)) refl refl

pub bool_and_false_types : Types bool_and_false []
bool_and_false_types =
    plain_types _ _ [] bool_and_false.left bool_and_false.right Bool [] [] []
    (simp sorting-node (refl, (refl, (refl, (refl, tt))), refl))
    (simp sorting-node (refl, tt, refl)) refl refl

pub bool_and_flat_types : Types bool_and_flat []
bool_and_flat_types =
    plain_types _ _ [] bool_and_flat.left bool_and_flat.right Bool [] [] []
    (simp sorting-node (refl, (refl, (refl, (refl, (refl, tt)))), refl))
    (simp sorting-node (refl, (refl, (refl, (refl, tt))), refl)) refl refl

pub bool_and_dup_types : Types bool_and_dup []
bool_and_dup_types =
    plain_types _ _ [] bool_and_dup.left bool_and_dup.right Bool [] [] []
    (simp sorting-node (refl, (refl, (refl, (refl, (refl, (refl, tt))))), refl))
    (simp sorting-node (refl, (refl, (refl, (refl, (refl, tt)))), refl)) refl refl

pub bool_and_conf_types : Types bool_and_conf []
bool_and_conf_types =
    plain_types _ _ [] bool_and_conf.left bool_and_conf.right Bool [] [] []
    (simp sorting-node (refl, (refl, (refl, (refl, (refl, (refl, (refl, tt)))))), refl))
    (simp sorting-node (refl, tt, refl)) refl refl

pub bool_or_false_types : Types bool_or_false []
bool_or_false_types =
    plain_types _ _ [] bool_or_false.left bool_or_false.right Bool [] [] []
    (simp sorting-node (refl, (refl, (refl, (refl, tt))), refl))
    (simp sorting-node (refl, (refl, (refl, tt)), refl)) refl refl

pub bool_or_true_types : Types bool_or_true []
bool_or_true_types =
    plain_types _ _ [] bool_or_true.left bool_or_true.right Bool [] [] []
    (simp sorting-node (refl, (refl, (refl, (refl, tt))), refl))
    (simp sorting-node (refl, tt, refl)) refl refl

pub bool_or_flat_types : Types bool_or_flat []
bool_or_flat_types =
    plain_types _ _ [] bool_or_flat.left bool_or_flat.right Bool [] [] []
    (simp sorting-node (refl, (refl, (refl, (refl, (refl, tt)))), refl))
    (simp sorting-node (refl, (refl, (refl, (refl, tt))), refl)) refl refl

pub bool_or_dup_types : Types bool_or_dup []
bool_or_dup_types =
    plain_types _ _ [] bool_or_dup.left bool_or_dup.right Bool [] [] []
    (simp sorting-node (refl, (refl, (refl, (refl, (refl, (refl, tt))))), refl))
    (simp sorting-node (refl, (refl, (refl, (refl, (refl, tt)))), refl)) refl refl

pub bool_or_taut_types : Types bool_or_taut []
bool_or_taut_types =
    plain_types _ _ [] bool_or_taut.left bool_or_taut.right Bool [] [] []
    (simp sorting-node (refl, (refl, (refl, (refl, (refl, (refl, (refl, tt)))))), refl))
    (simp sorting-node (refl, tt, refl)) refl refl

pub bool_and_comm_types : Types bool_and_comm []
bool_and_comm_types =
    plain_types _ _ [] bool_and_comm.left bool_and_comm.right Bool [] [] []
    (simp sorting-node (refl, (refl, (refl, tt)), refl))
    (simp sorting-node (refl, (refl, (refl, tt)), refl)) refl refl

pub bool_or_comm_types : Types bool_or_comm []
bool_or_comm_types =
    plain_types _ _ [] bool_or_comm.left bool_or_comm.right Bool [] [] []
    (simp sorting-node (refl, (refl, (refl, tt)), refl))
    (simp sorting-node (refl, (refl, (refl, tt)), refl)) refl refl

pub bool_and_de_morgan_types : Types bool_and_de_morgan []
bool_and_de_morgan_types =
    types_in _ _ bool_and_de_morgan.left bool_and_de_morgan.right _ Bool [] [] [] []
    (simp sorting-node (refl, (refl, (refl, (refl, (refl, tt)))), refl))
    (simp sorting-node (refl, (refl, (refl, (refl, tt))), refl))
    (simp sorting-node (refl, (refl, (refl, (refl, tt))), refl)) refl refl

pub bool_or_de_morgan_types : Types bool_or_de_morgan []
bool_or_de_morgan_types =
    types_in _ _ bool_or_de_morgan.left bool_or_de_morgan.right _ Bool [] [] [] []
    (simp sorting-node (refl, (refl, (refl, (refl, (refl, tt)))), refl))
    (simp sorting-node (refl, (refl, (refl, (refl, tt))), refl))
    (simp sorting-node (refl, (refl, (refl, (refl, tt))), refl)) refl refl

pub bool_impl_elim_types : Types bool_impl_elim []
bool_impl_elim_types =
    plain_types _ _ [] bool_impl_elim.left bool_impl_elim.right Bool [] [] []
    (simp sorting-node (refl, (refl, (refl, tt)), refl))
    (simp sorting-node (refl, (refl, (refl, (refl, tt))), refl)) refl refl

pub bool_xor_false_types : Types bool_xor_false []
bool_xor_false_types =
    plain_types _ _ [] bool_xor_false.left bool_xor_false.right Bool [] [] []
    (simp sorting-node (refl, (refl, (refl, tt)), refl))
    (simp sorting-node (refl, tt, refl)) refl refl

pub bool_xor_true_types : Types bool_xor_true []
bool_xor_true_types =
    plain_types _ _ [] bool_xor_true.left bool_xor_true.right Bool [] [] []
    (simp sorting-node (refl, (refl, (refl, tt)), refl))
    (simp sorting-node (refl, (refl, tt), refl)) refl refl

pub bool_xor_refl_types : Types bool_xor_refl []
bool_xor_refl_types =
    plain_types _ _ [] bool_xor_refl.left bool_xor_refl.right Bool [] [] []
    (simp sorting-node (refl, (refl, (refl, tt)), refl))
    (simp sorting-node (refl, tt, refl)) refl refl

pub ite_true_types : Types ite_true []
ite_true_types =
    plain_types _ _ [] ite_true.left ite_true.right (Named 0) [] [] []
    (simp sorting-node (refl, (refl, (refl, tt)), refl))
    (simp sorting-node (refl, tt, refl)) refl refl

pub ite_false_types : Types ite_false []
ite_false_types =
    plain_types _ _ [] ite_false.left ite_false.right (Named 0) [] [] []
    (simp sorting-node (refl, (refl, (refl, tt)), refl))
    (simp sorting-node (refl, tt, refl)) refl refl

pub ite_same_types : Types ite_same []
ite_same_types =
    plain_types _ _ [] ite_same.left ite_same.right (Named 0) [] [] []
    (simp sorting-node (refl, (refl, (refl, tt)), refl))
    (simp sorting-node (refl, tt, refl)) refl refl

pub ite_not_types : Types ite_not []
ite_not_types =
    plain_types _ _ [] ite_not.left ite_not.right (Named 0) [] [] []
    (simp sorting-node (refl, (refl, (refl, (refl, tt))), refl))
    (simp sorting-node (refl, (refl, (refl, tt)), refl)) refl refl

pub ite_bool_types : Types ite_bool []
ite_bool_types =
    plain_types _ _ [] ite_bool.left ite_bool.right Bool [] [] []
    (simp sorting-node (refl, (refl, (refl, tt)), refl))
    (simp sorting-node (refl, tt, refl)) refl refl

pub ite_then_types : Types ite_then []
ite_then_types =
    plain_types _ _ [] ite_then.left ite_then.right (Named 0) [] [] []
    (simp sorting-node (refl, (refl, (refl, (refl, (refl, tt)))), refl))
    (simp sorting-node (refl, (refl, (refl, tt)), refl)) refl refl

pub ite_else_types : Types ite_else []
ite_else_types =
    plain_types _ _ [] ite_else.left ite_else.right (Named 0) [] [] []
    (simp sorting-node (refl, (refl, (refl, (refl, (refl, tt)))), refl))
    (simp sorting-node (refl, (refl, (refl, tt)), refl)) refl refl

pub ite_cond_types : Types ite_cond []
ite_cond_types =
    types_if _ _ _ ite_cond.left ite_cond.right (Named 0) [] [] [] []
    (simp sorting-node (refl, (refl, (refl, tt)), refl))
    (simp sorting-node (refl, tt, refl))
    (simp sorting-node (refl, tt, refl)) refl refl

pub eq_refl_types : Types eq_refl []
eq_refl_types =
    plain_types _ _ [] eq_refl.left eq_refl.right Bool [] [] []
    (simp sorting-node (refl, (refl, tt), refl))
    (simp sorting-node (refl, tt, refl)) refl refl

pub eq_symm_types : Types eq_symm []
eq_symm_types =
    plain_types _ _ [] eq_symm.left eq_symm.right Bool [] [] []
    (simp sorting-node (refl, (refl, tt), refl))
    (simp sorting-node (refl, (refl, tt), refl)) refl refl

pub eq_true_types : Types eq_true []
eq_true_types =
    plain_types _ _ [] eq_true.left eq_true.right Bool [] [] []
    (simp sorting-node (refl, (refl, tt), refl))
    (simp sorting-node (refl, tt, refl)) refl refl

pub eq_false_types : Types eq_false []
eq_false_types =
    plain_types _ _ [] eq_false.left eq_false.right Bool [] [] []
    (simp sorting-node (refl, (refl, tt), refl))
    (simp sorting-node (refl, (refl, tt), refl)) refl refl

pub distinct_elim_types : Types distinct_elim []
distinct_elim_types =
    plain_types _ _ [] distinct_elim.left distinct_elim.right Bool [] [] []
    (simp sorting-node (refl, (refl, tt), refl))
    (simp sorting-node (refl, (refl, (refl, tt)), refl)) refl refl
