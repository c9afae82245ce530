-- The rules of theory Core in order, none with a constraint, and that each holds.
use Rattle.std.specs.Prelude.{List, [], ◌∷◌, map}
use Rattle.rare_rule.specs.TypedRule.{TypedRule}
use Rattle.rare_rule.specs.declared.rule.Rule.{Rule}
use Rattle.rare_law_parts.specs.RuleTables.{unconstrained}
use Rattle.rare_laws_core.specs.CoreRules.{bool_not_not, bool_and_true, bool_and_false, bool_and_flat, bool_and_dup, bool_and_conf, bool_or_false, bool_or_true, bool_or_flat, bool_or_dup, bool_or_taut, bool_and_comm, bool_or_comm, bool_and_de_morgan, bool_or_de_morgan, bool_impl_elim, bool_xor_false, bool_xor_true, bool_xor_refl, ite_true, ite_false, ite_same, ite_not, ite_bool, ite_then, ite_else, ite_cond, eq_refl, eq_symm, eq_true, eq_false, distinct_elim}

abbrev pub core_rules : List TypedRule
core_rules =
    map unconstrained
    (bool_not_not ∷ bool_and_true ∷ bool_and_false ∷ bool_and_flat ∷ bool_and_dup ∷ bool_and_conf ∷ bool_or_false ∷ bool_or_true ∷ bool_or_flat ∷ bool_or_dup ∷ bool_or_taut ∷ bool_and_comm ∷ bool_or_comm ∷ bool_and_de_morgan ∷ bool_or_de_morgan ∷ bool_impl_elim ∷ bool_xor_false ∷ bool_xor_true ∷ bool_xor_refl ∷ ite_true ∷ ite_false ∷ ite_same ∷ ite_not ∷ ite_bool ∷ ite_then ∷ ite_else ∷ ite_cond ∷ eq_refl ∷ eq_symm ∷ eq_true ∷ eq_false ∷ distinct_elim ∷ [])
