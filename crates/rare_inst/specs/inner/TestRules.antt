-- Rules that tests write, beside those of other rows.
use Rattle.std.specs.Prelude.{◌∷◌, [], codes, negsuc}
use Rattle.rare_linear.specs.Linears.{add, number}
use Rattle.rare_sort.specs.Sorting.{name}
use Rattle.rare_sort.specs.declared.head.Head.TheVariants as head
use Rattle.rare_sort.specs.declared.sort.Sort.{Bool, Int, BitVec}
use Rattle.rare_rule.specs.Written.{apply, bound, declared_param, param, plain_rule, rule_if}
use Rattle.rare_rule.specs.declared.param.ParamKind.TheVariants as kind
use Rattle.rare_rule.specs.declared.rule.Rule.{Rule}

-- `(define-cond-rule c ((p Bool) (q Bool)) p (and p q) q)`
abbrev pub and_cond : Rule
and_cond =
    rule_if (codes "c") (declared_param (codes "p") (kind.Term Bool) ∷ declared_param (codes "q") (kind.Term Bool) ∷ [])
    (param 0) (apply head.And (param 0 ∷ param 1 ∷ [])) (param 1)

-- `(define-rule s ((k Int) (ks Int :list)) (+ k k ks) (* (+ ks) k))`
abbrev pub sum_of_list : Rule
sum_of_list =
    plain_rule (codes "s") (declared_param (codes "k") (kind.Term Int) ∷ declared_param (codes "ks") (kind.List Int) ∷ []) []
    (apply head.Add (param 0 ∷ param 0 ∷ param 1 ∷ [])) (apply head.Mul (apply head.Add (param 1 ∷ []) ∷ param 0 ∷ []))

-- `(define-rule w ((n Width) (x (BitVec n)) (xs (BitVec n) :list)) :where ((>= n 8)) (bvand x x xs) (bvor (bvand xs) (bvmul xs) x))`
abbrev pub words_of_list : Rule
words_of_list =
    plain_rule (codes "w") (declared_param (codes "n") kind.Width ∷ declared_param (codes "x") (kind.Term (BitVec (name 0))) ∷ declared_param (codes "xs") (kind.List (BitVec (name 0))) ∷ [])
    (bound (add (name 0) (number (negsuc 7))) ∷ []) (apply head.BvAnd (param 1 ∷ param 1 ∷ param 2 ∷ []))
    (apply head.BvOr (apply head.BvAnd (param 2 ∷ []) ∷ apply head.BvMul (param 2 ∷ []) ∷ param 1 ∷ []))
