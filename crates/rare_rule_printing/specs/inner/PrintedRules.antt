-- Rules that tests write, beside those of `RuleRows`.
use Rattle.std.specs.Prelude.{ℕ, ℤ, pos, true, false, List, [], ◌∷◌, codes, None}
use Rattle.rare_linear.specs.Linears.{LinearExpression, number, add, scale}
use Rattle.rare_sort.specs.Sorting.{name}
use Rattle.rare_sort.specs.Trees.{node}
use Rattle.rare_sort.specs.declared.head.Head.TheVariants as head
use Rattle.rare_sort.specs.declared.sort.Sort.{Bool, Int, BitVec, Array, Named}
use Rattle.rare_sort.specs.declared.tree.Tree.{Tree}
use Rattle.rare_rule.specs.Written.{param, apply, declared_param, fresh_param, plain_rule}
use Rattle.rare_rule.specs.declared.param.Param.{Param}
use Rattle.rare_rule.specs.declared.param.ParamKind.{ParamKind}
use Rattle.rare_rule.specs.declared.param.ParamKind.TheVariants as kind
use Rattle.rare_rule.specs.declared.rule.Rule.{Rule}
use Rattle.rare_rule.specs.declared.rule.RuleKind.TheVariants as form

-- the constant, and two names with their factors
abbrev pub of_two : ℤ → (j : ℕ) (a : ℤ) (k : ℕ) (b : ℤ) → LinearExpression
of_two c j a k b = add (add (number c) (scale a (name j))) (scale b (name k))

-- a value alone
abbrev pub constant_param : List ℕ → ParamKind → Param
constant_param n k = record { name = n; kind = k; constant = true; fresh = false }

-- `(_ bvV W)` for a numeral W
abbrev pub given : ℕ → LinearExpression → Tree
given v w = node (head.Bits v) (w ∷ []) []

abbrev pub equal : Tree → Tree → Tree
equal t u = apply head.Equal (t ∷ u ∷ [])

-- `(define-rule bool-not-not ((p Bool)) (not (not p)) p)`
abbrev pub not_not : Rule
not_not = plain_rule (codes "bool-not-not") (declared_param (codes "p") (kind.Term Bool) ∷ []) [] (apply head.Not (apply head.Not (param 0 ∷ []) ∷ [])) (param 0)

-- `(define-rule sorts ((a Sort) (m (Array a Int)) (c Int :const) (y ?)) (and (= m m) (= c c) (= y y)) true)`
abbrev pub sort_params : List Param
sort_params =
    declared_param (codes "a") kind.SortName ∷ declared_param (codes "m") (kind.Term (Array (Named 0) Int)) ∷ constant_param (codes "c") (kind.Term Int)
    ∷ declared_param (codes "y") (kind.Term (Named 4)) ∷ fresh_param (codes "y") kind.SortName ∷ []

abbrev pub sorts : Rule
sorts = plain_rule (codes "sorts") sort_params [] (apply head.And (equal (param 1) (param 1) ∷ equal (param 2) (param 2) ∷ equal (param 3) (param 3) ∷ [])) (apply head.True [])

-- `(define-cond-rule |two premises| ((x ?BitVec)) (and (= x (bv 5 8)) (= x (_ bvV 128))) x x)`, where V is 2^127
abbrev pub two_premises : Rule
two_premises = record {
  name = codes "two premises";
  kind = form.Cond;
  params = declared_param (codes "x") (kind.Term (BitVec (name 1))) ∷ fresh_param (codes "x") kind.Width ∷ [];
  bounds = [];
  premises =
      equal (param 0) (given 5 (number (pos 8))) ∷ equal (param 0) (given 170141183460469231731687303715884105728 (number (pos 128))) ∷ [];
  left = param 0;
  right = param 0;
  context = None;
}
