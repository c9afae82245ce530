-- Rules that tests put into books.
use Rattle.std.specs.Prelude.{ℕ, pos, List, [], ◌∷◌, codes}
use Rattle.rare_linear.specs.Linears.{number}
use Rattle.rare_sort.specs.Sorting.{name}
use Rattle.rare_sort.specs.declared.head.Head.TheVariants as head
use Rattle.rare_sort.specs.declared.sort.Sort.{Bool, BitVec}
use Rattle.rare_sort.specs.declared.tree.Tree.{Tree}
use Rattle.rare_rule.specs.Written.{apply, declared_param, extract, param, plain_rule, rule_if}
use Rattle.rare_rule.specs.declared.param.Param.{Param}
use Rattle.rare_rule.specs.declared.param.ParamKind.TheVariants as kind
use Rattle.rare_rule.specs.declared.rule.Rule.{Rule}

-- a name for a truth
abbrev pub truth_param : List ℕ → Param
truth_param n = declared_param n (kind.Term Bool)

-- `(define-rule sw ((p Bool) (q Bool)) (and p q) (and q p))`
abbrev pub swap : Rule
swap =
    plain_rule (codes "sw") (truth_param (codes "p") ∷ truth_param (codes "q") ∷ []) [] (apply head.And (param 0 ∷ param 1 ∷ []))
    (apply head.And (param 1 ∷ param 0 ∷ []))

-- `(define-cond-rule refute ((p Bool)) p (not p) false)`
abbrev pub refute : Rule
refute = rule_if (codes "refute") (truth_param (codes "p") ∷ []) (param 0) (apply head.Not (param 0 ∷ [])) (apply head.False [])

-- `(concat (extract 4 0 x) x)`
abbrev pub low_and_all : Tree
low_and_all = apply head.Concat (extract (number (pos 4)) (number (pos 0)) (param 1) ∷ param 1 ∷ [])

-- `(define-rule low ((n Width) (x (BitVec n))) (concat (extract 4 0 x) x) (concat (extract 4 0 x) x))`
abbrev pub low : Rule
low =
    plain_rule (codes "low") (declared_param (codes "n") kind.Width ∷ declared_param (codes "x") (kind.Term (BitVec (name 0))) ∷ []) []
    low_and_all low_and_all
