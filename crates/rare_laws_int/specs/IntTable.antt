-- The rules of theory Ints in order, none with a constraint.
use Rattle.std.specs.Prelude.{List, [], ◌∷◌, map}
use Rattle.rare_rule.specs.TypedRule.{TypedRule}
use Rattle.rare_law_parts.specs.RuleTables.{unconstrained}
use Rattle.rare_laws_int.specs.IntRules.{int_add_zero, int_add_flat, int_add_comm, int_add_cancel, int_mul_one, int_mul_zero, int_minus_self, int_sub_elim, int_neg_neg, int_distrib, int_gt_elim, int_lt_elim, int_ge_elim, int_le_refl, int_div_one, int_mod_one, int_mod_small, int_div_self, int_mod_mod, int_abs_elim}

abbrev pub int_rules : List TypedRule
int_rules =
    map unconstrained
    (int_add_zero ∷ int_add_flat ∷ int_add_comm ∷ int_add_cancel ∷ int_mul_one ∷ int_mul_zero ∷ int_minus_self ∷ int_sub_elim ∷ int_neg_neg ∷ int_distrib ∷ int_gt_elim ∷ int_lt_elim ∷ int_ge_elim ∷ int_le_refl ∷ int_div_one ∷ int_mod_one ∷ int_mod_small ∷ int_div_self ∷ int_mod_mod ∷ int_abs_elim ∷ [])
