-- The rules of theory Core (SMT-LIB 2.6), in the form of the RARE paper, FMCAD 2022. Parameters are counted from 0, as declared.
use Rattle.std.specs.Prelude.{[], ◌∷◌, codes}
use Rattle.rare_sort.specs.declared.head.Head.TheVariants as head
use Rattle.rare_rule.specs.Written.{param, apply, plain_rule, rule_if, rule_in}
use Rattle.rare_rule.specs.declared.rule.Rule.{Rule}
use Rattle.rare_laws_core.specs.CoreParams.{core_a, core_p, core_q, core_x, core_y, core_z, core_ps, core_qs, core_rs}

-- bool-not-not  (not (not p))  p
abbrev pub bool_not_not : Rule
bool_not_not =
    plain_rule (codes "bool-not-not") (core_p ∷ []) []
    (apply head.Not (apply head.Not (param 0 ∷ []) ∷ []))
    (param 0)

-- bool-and-true  (and ps true qs)  (and ps qs)
abbrev pub bool_and_true : Rule
bool_and_true =
    plain_rule (codes "bool-and-true") (core_ps ∷ core_qs ∷ []) []
    (apply head.And (param 0 ∷ apply head.True [] ∷ param 1 ∷ []))
    (apply head.And (param 0 ∷ param 1 ∷ []))

-- bool-and-false  (and ps false qs)  false
abbrev pub bool_and_false : Rule
bool_and_false =
    plain_rule (codes "bool-and-false") (core_ps ∷ core_qs ∷ []) []
    (apply head.And (param 0 ∷ apply head.False [] ∷ param 1 ∷ []))
    (apply head.False [])

-- bool-and-flat  (and ps (and qs) rs)  (and ps qs rs)
abbrev pub bool_and_flat : Rule
bool_and_flat =
    plain_rule (codes "bool-and-flat") (core_ps ∷ core_qs ∷ core_rs ∷ []) []
    (apply head.And (param 0 ∷ apply head.And (param 1 ∷ []) ∷ param 2 ∷ []))
    (apply head.And (param 0 ∷ param 1 ∷ param 2 ∷ []))

-- bool-and-dup  (and ps p qs p rs)  (and ps p qs rs)
abbrev pub bool_and_dup : Rule
bool_and_dup =
    plain_rule (codes "bool-and-dup") (core_p ∷ core_ps ∷ core_qs ∷ core_rs ∷ []) []
    (apply head.And (param 1 ∷ param 0 ∷ param 2 ∷ param 0 ∷ param 3 ∷ []))
    (apply head.And (param 1 ∷ param 0 ∷ param 2 ∷ param 3 ∷ []))

-- bool-and-conf  (and ps p qs (not p) rs)  false
abbrev pub bool_and_conf : Rule
bool_and_conf =
    plain_rule (codes "bool-and-conf") (core_p ∷ core_ps ∷ core_qs ∷ core_rs ∷ []) []
    (apply head.And (param 1 ∷ param 0 ∷ param 2 ∷ apply head.Not (param 0 ∷ []) ∷ param 3 ∷ []))
    (apply head.False [])

-- bool-or-false  (or ps false qs)  (or ps qs)
abbrev pub bool_or_false : Rule
bool_or_false =
    plain_rule (codes "bool-or-false") (core_ps ∷ core_qs ∷ []) []
    (apply head.Or (param 0 ∷ apply head.False [] ∷ param 1 ∷ []))
    (apply head.Or (param 0 ∷ param 1 ∷ []))

-- bool-or-true  (or ps true qs)  true
abbrev pub bool_or_true : Rule
bool_or_true =
    plain_rule (codes "bool-or-true") (core_ps ∷ core_qs ∷ []) []
    (apply head.Or (param 0 ∷ apply head.True [] ∷ param 1 ∷ []))
    (apply head.True [])

-- bool-or-flat  (or ps (or qs) rs)  (or ps qs rs)
abbrev pub bool_or_flat : Rule
bool_or_flat =
    plain_rule (codes "bool-or-flat") (core_ps ∷ core_qs ∷ core_rs ∷ []) []
    (apply head.Or (param 0 ∷ apply head.Or (param 1 ∷ []) ∷ param 2 ∷ []))
    (apply head.Or (param 0 ∷ param 1 ∷ param 2 ∷ []))

-- bool-or-dup  (or ps p qs p rs)  (or ps p qs rs)
abbrev pub bool_or_dup : Rule
bool_or_dup =
    plain_rule (codes "bool-or-dup") (core_p ∷ core_ps ∷ core_qs ∷ core_rs ∷ []) []
    (apply head.Or (param 1 ∷ param 0 ∷ param 2 ∷ param 0 ∷ param 3 ∷ []))
    (apply head.Or (param 1 ∷ param 0 ∷ param 2 ∷ param 3 ∷ []))

-- bool-or-taut  (or ps p qs (not p) rs)  true
abbrev pub bool_or_taut : Rule
bool_or_taut =
    plain_rule (codes "bool-or-taut") (core_p ∷ core_ps ∷ core_qs ∷ core_rs ∷ []) []
    (apply head.Or (param 1 ∷ param 0 ∷ param 2 ∷ apply head.Not (param 0 ∷ []) ∷ param 3 ∷ []))
    (apply head.True [])

-- bool-and-comm  (and p q)  (and q p)
abbrev pub bool_and_comm : Rule
bool_and_comm =
    plain_rule (codes "bool-and-comm") (core_p ∷ core_q ∷ []) []
    (apply head.And (param 0 ∷ param 1 ∷ []))
    (apply head.And (param 1 ∷ param 0 ∷ []))

-- bool-or-comm  (or p q)  (or q p)
abbrev pub bool_or_comm : Rule
bool_or_comm =
    plain_rule (codes "bool-or-comm") (core_p ∷ core_q ∷ []) []
    (apply head.Or (param 0 ∷ param 1 ∷ []))
    (apply head.Or (param 1 ∷ param 0 ∷ []))

-- bool-and-de-morgan  (not (and p q ps))  (not (and q ps))  context (or (not p) _)
abbrev pub bool_and_de_morgan : Rule
bool_and_de_morgan =
    rule_in (codes "bool-and-de-morgan") (core_p ∷ core_q ∷ core_ps ∷ [])
    (apply head.Not (apply head.And (param 0 ∷ param 1 ∷ param 2 ∷ []) ∷ []))
    (apply head.Not (apply head.And (param 1 ∷ param 2 ∷ []) ∷ []))
    (apply head.Or (apply head.Not (param 0 ∷ []) ∷ apply head.Hole [] ∷ []))

-- bool-or-de-morgan  (not (or p q ps))  (not (or q ps))  context (and (not p) _)
abbrev pub bool_or_de_morgan : Rule
bool_or_de_morgan =
    rule_in (codes "bool-or-de-morgan") (core_p ∷ core_q ∷ core_ps ∷ [])
    (apply head.Not (apply head.Or (param 0 ∷ param 1 ∷ param 2 ∷ []) ∷ []))
    (apply head.Not (apply head.Or (param 1 ∷ param 2 ∷ []) ∷ []))
    (apply head.And (apply head.Not (param 0 ∷ []) ∷ apply head.Hole [] ∷ []))

-- bool-impl-elim  (=> p q)  (or (not p) q)
abbrev pub bool_impl_elim : Rule
bool_impl_elim =
    plain_rule (codes "bool-impl-elim") (core_p ∷ core_q ∷ []) []
    (apply head.Implies (param 0 ∷ param 1 ∷ []))
    (apply head.Or (apply head.Not (param 0 ∷ []) ∷ param 1 ∷ []))

-- bool-xor-false  (xor p false)  p
abbrev pub bool_xor_false : Rule
bool_xor_false =
    plain_rule (codes "bool-xor-false") (core_p ∷ []) []
    (apply head.Xor (param 0 ∷ apply head.False [] ∷ []))
    (param 0)

-- bool-xor-true  (xor p true)  (not p)
abbrev pub bool_xor_true : Rule
bool_xor_true =
    plain_rule (codes "bool-xor-true") (core_p ∷ []) []
    (apply head.Xor (param 0 ∷ apply head.True [] ∷ []))
    (apply head.Not (param 0 ∷ []))

-- bool-xor-refl  (xor p p)  false
abbrev pub bool_xor_refl : Rule
bool_xor_refl =
    plain_rule (codes "bool-xor-refl") (core_p ∷ []) []
    (apply head.Xor (param 0 ∷ param 0 ∷ []))
    (apply head.False [])

-- ite-true  (ite true x y)  x
abbrev pub ite_true : Rule
ite_true =
    plain_rule (codes "ite-true") (core_a ∷ core_x ∷ core_y ∷ []) []
    (apply head.Ite (apply head.True [] ∷ param 1 ∷ param 2 ∷ []))
    (param 1)

-- ite-false  (ite false x y)  y
abbrev pub ite_false : Rule
ite_false =
    plain_rule (codes "ite-false") (core_a ∷ core_x ∷ core_y ∷ []) []
    (apply head.Ite (apply head.False [] ∷ param 1 ∷ param 2 ∷ []))
    (param 2)

-- ite-same  (ite p x x)  x
abbrev pub ite_same : Rule
ite_same =
    plain_rule (codes "ite-same") (core_a ∷ core_p ∷ core_x ∷ []) []
    (apply head.Ite (param 1 ∷ param 2 ∷ param 2 ∷ []))
    (param 2)

-- ite-not  (ite (not p) x y)  (ite p y x)
abbrev pub ite_not : Rule
ite_not =
    plain_rule (codes "ite-not") (core_a ∷ core_p ∷ core_x ∷ core_y ∷ []) []
    (apply head.Ite (apply head.Not (param 1 ∷ []) ∷ param 2 ∷ param 3 ∷ []))
    (apply head.Ite (param 1 ∷ param 3 ∷ param 2 ∷ []))

-- ite-bool  (ite p true false)  p
abbrev pub ite_bool : Rule
ite_bool =
    plain_rule (codes "ite-bool") (core_p ∷ []) []
    (apply head.Ite (param 0 ∷ apply head.True [] ∷ apply head.False [] ∷ []))
    (param 0)

-- ite-then  (ite p (ite p x y) z)  (ite p x z)
abbrev pub ite_then : Rule
ite_then =
    plain_rule (codes "ite-then") (core_a ∷ core_p ∷ core_x ∷ core_y ∷ core_z ∷ []) []
    (apply head.Ite (param 1 ∷ apply head.Ite (param 1 ∷ param 2 ∷ param 3 ∷ []) ∷ param 4 ∷ []))
    (apply head.Ite (param 1 ∷ param 2 ∷ param 4 ∷ []))

-- ite-else  (ite p x (ite p y z))  (ite p x z)
abbrev pub ite_else : Rule
ite_else =
    plain_rule (codes "ite-else") (core_a ∷ core_p ∷ core_x ∷ core_y ∷ core_z ∷ []) []
    (apply head.Ite (param 1 ∷ param 2 ∷ apply head.Ite (param 1 ∷ param 3 ∷ param 4 ∷ []) ∷ []))
    (apply head.Ite (param 1 ∷ param 2 ∷ param 4 ∷ []))

-- ite-cond  (ite p x y)  x  if p
abbrev pub ite_cond : Rule
ite_cond =
    rule_if (codes "ite-cond") (core_a ∷ core_p ∷ core_x ∷ core_y ∷ [])
    (param 1)
    (apply head.Ite (param 1 ∷ param 2 ∷ param 3 ∷ []))
    (param 2)

-- eq-refl  (= x x)  true
abbrev pub eq_refl : Rule
eq_refl =
    plain_rule (codes "eq-refl") (core_a ∷ core_x ∷ []) []
    (apply head.Equal (param 1 ∷ param 1 ∷ []))
    (apply head.True [])

-- eq-symm  (= x y)  (= y x)
abbrev pub eq_symm : Rule
eq_symm =
    plain_rule (codes "eq-symm") (core_a ∷ core_x ∷ core_y ∷ []) []
    (apply head.Equal (param 1 ∷ param 2 ∷ []))
    (apply head.Equal (param 2 ∷ param 1 ∷ []))

-- eq-true  (= p true)  p
abbrev pub eq_true : Rule
eq_true =
    plain_rule (codes "eq-true") (core_p ∷ []) []
    (apply head.Equal (param 0 ∷ apply head.True [] ∷ []))
    (param 0)

-- eq-false  (= p false)  (not p)
abbrev pub eq_false : Rule
eq_false =
    plain_rule (codes "eq-false") (core_p ∷ []) []
    (apply head.Equal (param 0 ∷ apply head.False [] ∷ []))
    (apply head.Not (param 0 ∷ []))

-- distinct-elim  (distinct x y)  (not (= x y))
abbrev pub distinct_elim : Rule
distinct_elim =
    plain_rule (codes "distinct-elim") (core_a ∷ core_x ∷ core_y ∷ []) []
    (apply head.Distinct (param 1 ∷ param 2 ∷ []))
    (apply head.Not (apply head.Equal (param 1 ∷ param 2 ∷ []) ∷ []))
