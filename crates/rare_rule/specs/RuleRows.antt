-- Rules of each form, and the constraints that their typing gives.
use Rattle.std.specs.Prelude.{pos, negsuc, List, [], ◌∷◌, codes}
use Rattle.rare_linear.specs.Linears.{linear, number}
use Rattle.rare_linear.specs.declared.constraint.Constraint.{Constraint}
use Rattle.rare_sort.specs.Sorting.{name}
use Rattle.rare_sort.specs.declared.head.Head.TheVariants as head
use Rattle.rare_sort.specs.declared.sort.Sort.{Bool, BitVec, Named}
use Rattle.rare_rule.specs.RuleSorting.{Types}
use Rattle.rare_rule.specs.Written.{param, apply, extract, literal, declared_param, fresh_param, bound, plain_rule, rule_if, rule_in}
use Rattle.rare_rule.specs.declared.param.Param.{Param}
use Rattle.rare_rule.specs.declared.param.ParamKind.TheVariants as kind
use Rattle.rare_rule.specs.declared.rule.Rule.{Rule}

-- `(define-rule bool-and-true ((ps Bool :list) (qs Bool :list)) (and ps true qs) (and ps qs))`
abbrev pub and_true : Rule
and_true =
    plain_rule (codes "bool-and-true") (declared_param (codes "ps") (kind.List Bool) ∷ declared_param (codes "qs") (kind.List Bool) ∷ [])
    [] (apply head.And (param 0 ∷ apply head.True [] ∷ param 1 ∷ [])) (apply head.And (param 0 ∷ param 1 ∷ []))

-- `(define-cond-rule ite-cond ((a Sort) (p Bool) (x a) (y a)) p (ite p x y) x)`
abbrev pub ite_cond : Rule
ite_cond =
    rule_if (codes "ite-cond") (declared_param (codes "a") kind.SortName ∷ declared_param (codes "p") (kind.Term Bool)
    ∷ declared_param (codes "x") (kind.Term (Named 0)) ∷ declared_param (codes "y") (kind.Term (Named 0)) ∷ [])
    (param 1) (apply head.Ite (param 1 ∷ param 2 ∷ param 3 ∷ [])) (param 2)

-- `(define-rule* bool-and-de-morgan ((p Bool) (q Bool) (ps Bool :list)) (not (and p q ps)) (not (and q ps)) (or (not p) _))`
abbrev pub and_de_morgan : Rule
and_de_morgan =
    rule_in (codes "bool-and-de-morgan") (declared_param (codes "p") (kind.Term Bool) ∷ declared_param (codes "q") (kind.Term Bool) ∷ declared_param (codes "ps") (kind.List Bool) ∷ [])
    (apply head.Not (apply head.And (param 0 ∷ param 1 ∷ param 2 ∷ []) ∷ [])) (apply head.Not (apply head.And (param 1 ∷ param 2 ∷ []) ∷ []))
    (apply head.Or (apply head.Not (param 0 ∷ []) ∷ apply head.Hole [] ∷ []))

-- the parameters n, k, and x of width n
abbrev pub shift_params : List Param
shift_params = declared_param (codes "n") kind.Width ∷ declared_param (codes "k") kind.Index ∷ declared_param (codes "x") (kind.Term (BitVec (name 0))) ∷ []

-- k - 1, and n - k - 1
abbrev pub shift_constraints : List Constraint
shift_constraints = bound (linear (negsuc 0) ((1, pos 1) ∷ [])) ∷ bound (linear (negsuc 0) ((0, pos 1) ∷ (1, negsuc 0) ∷ [])) ∷ []

-- `(bvshl x (bv k n))` and `(concat (extract (- n 1 k) 0 x) (bv 0 k))`, where `(>= k 1)` and `(>= (- n 1) k)`
abbrev pub shift_left : Rule
shift_left =
    plain_rule (codes "bv-shl-const") shift_params shift_constraints
    (apply head.BvShl (param 2 ∷ literal (name 1) (name 0) ∷ []))
    (apply head.Concat (extract (linear (negsuc 0) ((0, pos 1) ∷ (1, negsuc 0) ∷ [])) (number (pos 0)) (param 2) ∷ literal (number (pos 0)) (name 1) ∷ []))

-- `(define-rule ext ((n Width) (j Index) (x (BitVec n))) (extract j 0 x) (extract j 0 (bvnot (bvnot x))))`
abbrev pub low_slice : Rule
low_slice =
    plain_rule (codes "ext") (declared_param (codes "n") kind.Width ∷ declared_param (codes "j") kind.Index ∷ declared_param (codes "x") (kind.Term (BitVec (name 0))) ∷ [])
    [] (extract (name 1) (number (pos 0)) (param 2))
    (extract (name 1) (number (pos 0)) (apply head.BvNot (apply head.BvNot (param 2 ∷ []) ∷ [])))

-- n - j - 1
abbrev pub low_slice_constraints : List Constraint
low_slice_constraints = bound (linear (negsuc 0) ((0, pos 1) ∷ (1, negsuc 0) ∷ [])) ∷ []

-- `(j Index) (i Index) (us ?BitVec :list) (w ?BitVec)`: the fifth is the fresh width of w
abbrev pub concat_params : List Param
concat_params =
    declared_param (codes "j") kind.Index ∷ declared_param (codes "i") kind.Index ∷ declared_param (codes "us") kind.WideList
    ∷ declared_param (codes "w") (kind.Term (BitVec (name 4))) ∷ fresh_param (codes "w") kind.Width ∷ []

-- `(extract j i (concat us w))` and `(extract j i w)`, where `(< j (bvsize w))`
abbrev pub concat_low : Rule
concat_low =
    plain_rule (codes "bv-extract-concat-low") concat_params (bound (linear (negsuc 0) ((0, negsuc 0) ∷ (4, pos 1) ∷ [])) ∷ [])
    (extract (name 0) (name 1) (apply head.Concat (param 2 ∷ param 3 ∷ []))) (extract (name 0) (name 1) (param 3))

-- the width of w less j less 1, j - i, and the widths of us and of w less j less 1
abbrev pub concat_low_constraints : List Constraint
concat_low_constraints =
    bound (linear (negsuc 0) ((0, negsuc 0) ∷ (4, pos 1) ∷ [])) ∷ bound (linear (pos 0) ((0, pos 1) ∷ (1, negsuc 0) ∷ []))
    ∷ bound (linear (negsuc 0) ((0, negsuc 0) ∷ (2, pos 1) ∷ (4, pos 1) ∷ [])) ∷ []

-- each rule types with these constraints
pub record TypeRows : Type 0 where
  pub lists : Types and_true []
  pub premise : Types ite_cond []
  pub context : Types and_de_morgan []
  pub shift : Types shift_left shift_constraints
  pub slice : Types low_slice low_slice_constraints
  pub wide : Types concat_low concat_low_constraints
