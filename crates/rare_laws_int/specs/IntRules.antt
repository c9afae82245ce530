-- The rules of theory Ints (SMT-LIB 2.6), in the form of the RARE paper, FMCAD 2022. Parameters are counted from 0, as declared.
use Rattle.std.specs.Prelude.{ℕ, List, [], ◌∷◌, codes}
use Rattle.rare_sort.specs.declared.head.Head.TheVariants as head
use Rattle.rare_sort.specs.declared.tree.Tree.{Tree}
use Rattle.rare_rule.specs.Written.{param, apply, plain_rule, rule_if}
use Rattle.rare_rule.specs.declared.param.Param.{Param}
use Rattle.rare_rule.specs.declared.rule.Rule.{Rule}
use Rattle.rare_laws_int.specs.IntParams.{int_i, int_j, int_k, int_is, int_js, int_ks}

-- a rule with two premises
abbrev pub rule_if_both : List ℕ → List Param → (first second left right : Tree) → Rule
rule_if_both n ps p q l r = record (rule_if n ps p l r) { premises = p ∷ q ∷ [] }

-- int-add-zero  (+ is 0 js)  (+ is js)
abbrev pub int_add_zero : Rule
int_add_zero =
    plain_rule (codes "int-add-zero") (int_is ∷ int_js ∷ []) []
    (apply head.Add (param 0 ∷ apply (head.Numeral 0) [] ∷ param 1 ∷ []))
    (apply head.Add (param 0 ∷ param 1 ∷ []))

-- int-add-flat  (+ is (+ js) ks)  (+ is js ks)
abbrev pub int_add_flat : Rule
int_add_flat =
    plain_rule (codes "int-add-flat") (int_is ∷ int_js ∷ int_ks ∷ []) []
    (apply head.Add (param 0 ∷ apply head.Add (param 1 ∷ []) ∷ param 2 ∷ []))
    (apply head.Add (param 0 ∷ param 1 ∷ param 2 ∷ []))

-- int-add-comm  (+ i j)  (+ j i)
abbrev pub int_add_comm : Rule
int_add_comm =
    plain_rule (codes "int-add-comm") (int_i ∷ int_j ∷ []) []
    (apply head.Add (param 0 ∷ param 1 ∷ []))
    (apply head.Add (param 1 ∷ param 0 ∷ []))

-- int-add-cancel  (+ is i js (- i) ks)  (+ is js ks)
abbrev pub int_add_cancel : Rule
int_add_cancel =
    plain_rule (codes "int-add-cancel") (int_i ∷ int_is ∷ int_js ∷ int_ks ∷ []) []
    (apply head.Add (param 1 ∷ param 0 ∷ param 2 ∷ apply head.Neg (param 0 ∷ []) ∷ param 3 ∷ []))
    (apply head.Add (param 1 ∷ param 2 ∷ param 3 ∷ []))

-- int-mul-one  (* is 1 js)  (* is js)
abbrev pub int_mul_one : Rule
int_mul_one =
    plain_rule (codes "int-mul-one") (int_is ∷ int_js ∷ []) []
    (apply head.Mul (param 0 ∷ apply (head.Numeral 1) [] ∷ param 1 ∷ []))
    (apply head.Mul (param 0 ∷ param 1 ∷ []))

-- int-mul-zero  (* is 0 js)  0
abbrev pub int_mul_zero : Rule
int_mul_zero =
    plain_rule (codes "int-mul-zero") (int_is ∷ int_js ∷ []) []
    (apply head.Mul (param 0 ∷ apply (head.Numeral 0) [] ∷ param 1 ∷ []))
    (apply (head.Numeral 0) [])

-- int-minus-self  (- i i)  0
abbrev pub int_minus_self : Rule
int_minus_self =
    plain_rule (codes "int-minus-self") (int_i ∷ []) []
    (apply head.Minus (param 0 ∷ param 0 ∷ []))
    (apply (head.Numeral 0) [])

-- int-sub-elim  (- i j)  (+ i (- j))
abbrev pub int_sub_elim : Rule
int_sub_elim =
    plain_rule (codes "int-sub-elim") (int_i ∷ int_j ∷ []) []
    (apply head.Minus (param 0 ∷ param 1 ∷ []))
    (apply head.Add (param 0 ∷ apply head.Neg (param 1 ∷ []) ∷ []))

-- int-neg-neg  (- (- i))  i
abbrev pub int_neg_neg : Rule
int_neg_neg =
    plain_rule (codes "int-neg-neg") (int_i ∷ []) []
    (apply head.Neg (apply head.Neg (param 0 ∷ []) ∷ []))
    (param 0)

-- int-distrib  (* i (+ j k))  (+ (* i j) (* i k))
abbrev pub int_distrib : Rule
int_distrib =
    plain_rule (codes "int-distrib") (int_i ∷ int_j ∷ int_k ∷ []) []
    (apply head.Mul (param 0 ∷ apply head.Add (param 1 ∷ param 2 ∷ []) ∷ []))
    (apply head.Add (apply head.Mul (param 0 ∷ param 1 ∷ []) ∷ apply head.Mul (param 0 ∷ param 2 ∷ []) ∷ []))

-- int-gt-elim  (> i j)  (not (<= i j))
abbrev pub int_gt_elim : Rule
int_gt_elim =
    plain_rule (codes "int-gt-elim") (int_i ∷ int_j ∷ []) []
    (apply head.Gt (param 0 ∷ param 1 ∷ []))
    (apply head.Not (apply head.Le (param 0 ∷ param 1 ∷ []) ∷ []))

-- int-lt-elim  (< i j)  (not (<= j i))
abbrev pub int_lt_elim : Rule
int_lt_elim =
    plain_rule (codes "int-lt-elim") (int_i ∷ int_j ∷ []) []
    (apply head.Lt (param 0 ∷ param 1 ∷ []))
    (apply head.Not (apply head.Le (param 1 ∷ param 0 ∷ []) ∷ []))

-- int-ge-elim  (>= i j)  (<= j i)
abbrev pub int_ge_elim : Rule
int_ge_elim =
    plain_rule (codes "int-ge-elim") (int_i ∷ int_j ∷ []) []
    (apply head.Ge (param 0 ∷ param 1 ∷ []))
    (apply head.Le (param 1 ∷ param 0 ∷ []))

-- int-le-refl  (<= i i)  true
abbrev pub int_le_refl : Rule
int_le_refl =
    plain_rule (codes "int-le-refl") (int_i ∷ []) []
    (apply head.Le (param 0 ∷ param 0 ∷ []))
    (apply head.True [])

-- int-div-one  (div i 1)  i
abbrev pub int_div_one : Rule
int_div_one =
    plain_rule (codes "int-div-one") (int_i ∷ []) []
    (apply head.Div (param 0 ∷ apply (head.Numeral 1) [] ∷ []))
    (param 0)

-- int-mod-one  (mod i 1)  0
abbrev pub int_mod_one : Rule
int_mod_one =
    plain_rule (codes "int-mod-one") (int_i ∷ []) []
    (apply head.Mod (param 0 ∷ apply (head.Numeral 1) [] ∷ []))
    (apply (head.Numeral 0) [])

-- int-mod-small  (mod i j)  i  if (and (<= 0 i) (< i j))
abbrev pub int_mod_small : Rule
int_mod_small =
    rule_if_both (codes "int-mod-small") (int_i ∷ int_j ∷ [])
    (apply head.Le (apply (head.Numeral 0) [] ∷ param 0 ∷ []))
    (apply head.Lt (param 0 ∷ param 1 ∷ []))
    (apply head.Mod (param 0 ∷ param 1 ∷ []))
    (param 0)

-- int-div-self  (div i i)  1  if (not (= i 0))
abbrev pub int_div_self : Rule
int_div_self =
    rule_if (codes "int-div-self") (int_i ∷ [])
    (apply head.Not (apply head.Equal (param 0 ∷ apply (head.Numeral 0) [] ∷ []) ∷ []))
    (apply head.Div (param 0 ∷ param 0 ∷ []))
    (apply (head.Numeral 1) [])

-- int-mod-mod  (mod (mod i j) j)  (mod i j)  if (not (= j 0))
abbrev pub int_mod_mod : Rule
int_mod_mod =
    rule_if (codes "int-mod-mod") (int_i ∷ int_j ∷ [])
    (apply head.Not (apply head.Equal (param 1 ∷ apply (head.Numeral 0) [] ∷ []) ∷ []))
    (apply head.Mod (apply head.Mod (param 0 ∷ param 1 ∷ []) ∷ param 1 ∷ []))
    (apply head.Mod (param 0 ∷ param 1 ∷ []))

-- int-abs-elim  (abs i)  (ite (<= 0 i) i (- i))
abbrev pub int_abs_elim : Rule
int_abs_elim =
    plain_rule (codes "int-abs-elim") (int_i ∷ []) []
    (apply head.Abs (param 0 ∷ []))
    (apply head.Ite (apply head.Le (apply (head.Numeral 0) [] ∷ param 0 ∷ []) ∷ param 0 ∷ apply head.Neg (param 0 ∷ []) ∷ []))
