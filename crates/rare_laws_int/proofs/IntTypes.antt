-- The rules of theory Ints type, and ask for nothing.
use Rattle.std.proofs.Common.{ℕ, List, [], ◌∷◌, ◌++◌, refl, IsTrue, ◌≡◌}
use Rattle.std.specs.Prelude.{None}
use Rattle.rare_sort.specs.Sorting.{sorting}
use Rattle.rare_sort.specs.declared.sort.Sort.{Sort, Bool, Int}
use Rattle.rare_sort.specs.declared.tree.Tree.{Tree}
use Rattle.rare_sort.proofs.SortingLemmas.{sorting-node}
use Rattle.rare_rule.specs.RuleSorting.{Types, rule_scope}
use Rattle.rare_rule.specs.declared.param.Param.{Param}
use Rattle.rare_rule.proofs.TypingLemmas.{Finds, shaped, plain_types, types_if}
use Rattle.rare_laws_int.specs.IntRules.{rule_if_both, int_add_zero, int_add_flat, int_add_comm, int_add_cancel, int_mul_one, int_mul_zero, int_minus_self, int_sub_elim, int_neg_neg, int_distrib, int_gt_elim, int_lt_elim, int_ge_elim, int_le_refl, int_div_one, int_mod_one, int_mod_small, int_div_self, int_mod_mod, int_abs_elim}

types_if_both : (n : List ℕ) (ps : List Param) (p q l r : Tree) (s : Sort) →
    Finds (sorting (rule_scope ps None) l) s [] → Finds (sorting (rule_scope ps None) p) Bool [] → Finds (sorting (rule_scope ps None) q) Bool [] →
    Finds (sorting (rule_scope ps None) r) s [] → Types (rule_if_both n ps p q l r) []
types_if_both n ps p q l r s left first second right = record {
  typed = record { sort = s; left = shaped _ l s [] left; right = shaped _ r s [] right; context = tt; premises = (shaped _ p Bool [] first, (shaped _ q Bool [] second, tt)) };
  same = refl;
  possible = refl;
}

pub int_add_zero_types : Types int_add_zero []
int_add_zero_types =
    plain_types _ _ [] int_add_zero.left int_add_zero.right Int [] [] []
    (simp sorting-node (refl, (refl, (refl, (refl, tt))), refl))
    (simp sorting-node (refl, (refl, (refl, tt)), refl)) refl refl

pub int_add_flat_types : Types int_add_flat []
int_add_flat_types =
    plain_types _ _ [] int_add_flat.left int_add_flat.right Int [] [] []
    (simp sorting-node (refl, (refl, (refl, (refl, (refl, tt)))), refl))
    (simp sorting-node (refl, (refl, (refl, (refl, tt))), refl)) refl refl

pub int_add_comm_types : Types int_add_comm []
int_add_comm_types =
    plain_types _ _ [] int_add_comm.left int_add_comm.right Int [] [] []
    (simp sorting-node (refl, (refl, (refl, tt)), refl))
    (simp sorting-node (refl, (refl, (refl, tt)), refl)) refl refl

pub int_add_cancel_types : Types int_add_cancel []
int_add_cancel_types =
    plain_types _ _ [] int_add_cancel.left int_add_cancel.right Int [] [] []
    (simp sorting-node (refl, (refl, (refl, (refl, (refl, (refl, (refl, tt)))))), refl))
    (simp sorting-node (refl, (refl, (refl, (refl, tt))), refl)) refl refl

pub int_mul_one_types : Types int_mul_one []
int_mul_one_types =
    plain_types _ _ [] int_mul_one.left int_mul_one.right Int [] [] []
    (simp sorting-node (refl, (refl, (refl, (refl, tt))), refl))
    (simp sorting-node (refl, (refl, (refl, tt)), refl)) refl refl

pub int_mul_zero_types : Types int_mul_zero []
int_mul_zero_types =
    plain_types _ _ [] int_mul_zero.left int_mul_zero.right Int [] [] []
    (simp sorting-node (refl, (refl, (refl, (refl, tt))), refl))
    (simp sorting-node (refl, tt, refl)) refl refl

pub int_minus_self_types : Types int_minus_self []
int_minus_self_types =
    plain_types _ _ [] int_minus_self.left int_minus_self.right Int [] [] []
    (simp sorting-node (refl, (refl, (refl, tt)), refl))
    (simp sorting-node (refl, tt, refl)) refl refl

pub int_sub_elim_types : Types int_sub_elim []
int_sub_elim_types =
    plain_types _ _ [] int_sub_elim.left int_sub_elim.right Int [] [] []
    (simp sorting-node (refl, (refl, (refl, tt)), refl))
    (simp sorting-node (refl, (refl, (refl, (refl, tt))), refl)) refl refl

pub int_neg_neg_types : Types int_neg_neg []
int_neg_neg_types =
    plain_types _ _ [] int_neg_neg.left int_neg_neg.right Int [] [] []
    (simp sorting-node (refl, (refl, (refl, tt)), refl))
    (simp sorting-node (refl, tt, refl)) refl refl

pub int_distrib_types : Types int_distrib []
int_distrib_types =
    plain_types _ _ [] int_distrib.left int_distrib.right Int [] [] []
    (simp sorting-node (refl, (refl, (refl, (refl, (refl, tt)))), refl))
    (simp sorting-node (refl, (refl, (refl, (refl, (refl, (refl, (refl, tt)))))), refl)) refl refl

pub int_gt_elim_types : Types int_gt_elim []
int_gt_elim_types =
    plain_types _ _ [] int_gt_elim.left int_gt_elim.right Bool [] [] []
    (simp sorting-node (refl, (refl, (refl, tt)), refl))
    (simp sorting-node (refl, (refl, (refl, (refl, tt))), refl)) refl refl

pub int_lt_elim_types : Types int_lt_elim []
int_lt_elim_types =
    plain_types _ _ [] int_lt_elim.left int_lt_elim.right Bool [] [] []
    (simp sorting-node (refl, (refl, (refl, tt)), refl))
    (simp sorting-node (refl, (refl, (refl, (refl, tt))), refl)) refl refl

pub int_ge_elim_types : Types int_ge_elim []
int_ge_elim_types =
    plain_types _ _ [] int_ge_elim.left int_ge_elim.right Bool [] [] []
    (simp sorting-node (refl, (refl, (refl, tt)), refl))
    (simp sorting-node (refl, (refl, (refl, tt)), refl)) refl refl

pub int_le_refl_types : Types int_le_refl []
int_le_refl_types =
    plain_types _ _ [] int_le_refl.left int_le_refl.right Bool [] [] []
    (simp sorting-node (refl, (refl, (refl, tt)), refl))
    (simp sorting-node (refl, tt, refl)) refl refl

pub int_div_one_types : Types int_div_one []
int_div_one_types =
    plain_types _ _ [] int_div_one.left int_div_one.right Int [] [] []
    (simp sorting-node (refl, (refl, (refl, tt)), refl))
    (simp sorting-node (refl, tt, refl)) refl refl

pub int_mod_one_types : Types int_mod_one []
int_mod_one_types =
    plain_types _ _ [] int_mod_one.left int_mod_one.right Int [] [] []
    (simp sorting-node (refl, (refl, (refl, tt)), refl))
    (simp sorting-node (refl, tt, refl)) refl refl

pub int_mod_small_types : Types int_mod_small []
int_mod_small_types =
    types_if_both _ _ _ _ int_mod_small.left int_mod_small.right Int
    (simp sorting-node (refl, (refl, (refl, tt)), refl))
    (simp sorting-node (refl, (refl, (refl, tt)), refl))
    (simp sorting-node (refl, (refl, (refl, tt)), refl))
    (simp sorting-node (refl, tt, refl))

pub int_div_self_types : Types int_div_self []
int_div_self_types =
    types_if _ _ _ int_div_self.left int_div_self.right Int [] [] [] []
    (simp sorting-node (refl, (refl, (refl, tt)), refl))
    (simp sorting-node (refl, (refl, (refl, tt)), refl))
    (simp sorting-node (refl, tt, refl)) refl refl

pub int_mod_mod_types : Types int_mod_mod []
int_mod_mod_types =
    types_if _ _ _ int_mod_mod.left int_mod_mod.right Int [] [] [] []
    (simp sorting-node (refl, (refl, (refl, (refl, (refl, tt)))), refl))
    (simp sorting-node (refl, (refl, (refl, tt)), refl))
    (simp sorting-node (refl, (refl, (refl, tt)), refl)) refl refl

pub int_abs_elim_types : Types int_abs_elim []
int_abs_elim_types =
    plain_types _ _ [] int_abs_elim.left int_abs_elim.right Int [] [] []
    (simp sorting-node (refl, (refl, tt), refl))
    (simp sorting-node (refl, (refl, (refl, (refl, (refl, (refl, tt))))), refl)) refl refl
