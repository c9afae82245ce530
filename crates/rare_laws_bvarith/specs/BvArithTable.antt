-- The rules of arithmetic on bit vectors in order, none with a constraint.
use Rattle.std.specs.Prelude.{List, [], ◌∷◌, map}
use Rattle.rare_rule.specs.TypedRule.{TypedRule}
use Rattle.rare_law_parts.specs.RuleTables.{unconstrained}
use Rattle.rare_laws_bvarith.specs.BvArithRules.{bv_add_zero, bv_add_flat, bv_add_cancel, bv_mul_one, bv_mul_zero, bv_neg_elim, bv_sub_elim, bv_ugt_elim, bv_uge_elim, bv_ule_elim, bv_sgt_elim, bv_ult_refl, bv_ult_zero, bv_udiv_zero, bv_urem_zero}

abbrev pub bv_arith_rules : List TypedRule
bv_arith_rules =
    map unconstrained (bv_add_zero ∷ bv_add_flat ∷ bv_add_cancel ∷ bv_mul_one ∷ bv_mul_zero ∷ bv_neg_elim ∷ bv_sub_elim ∷ bv_ugt_elim ∷ bv_uge_elim ∷ bv_ule_elim ∷ bv_sgt_elim ∷ bv_ult_refl ∷ bv_ult_zero ∷ bv_udiv_zero ∷ bv_urem_zero ∷ [])
