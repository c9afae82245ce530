-- Rules that tests put into books.
use Rattle.std.specs.Prelude.{ℕ, pos, List, [], ◌∷◌, codes}
use Rattle.rare_linear.specs.Linears.{number}
use Rattle.rare_sort.specs.Sorting.{name}
use Rattle.rare_sort.specs.declared.head.Head.TheVariants as head
use Rattle.rare_sort.specs.declared.sort.Sort.{Bool, BitVec, Named}
use Rattle.rare_sort.specs.declared.tree.Tree.{Tree}
use Rattle.rare_rule.specs.Written.{apply, declared_param, extract, param, plain_rule}
use Rattle.rare_rule.specs.declared.param.Param.{Param}
use Rattle.rare_rule.specs.declared.param.ParamKind.TheVariants as kind
use Rattle.rare_rule.specs.declared.rule.Rule.{Rule}

-- a name for a truth
abbrev pub truth_param : List ℕ → Param
truth_param n = declared_param n (kind.Term Bool)

-- `(define-rule sw ((p Bool) (q Bool)) (and p q) (and q p))`
abbrev pub swap : Rule
swap =
    plain_rule (codes "sw") (truth_param (codes "p") ∷ truth_param (codes "q") ∷ []) [] (apply head.And (param 0 ∷ param 1 ∷ []))
    (apply head.And (param 1 ∷ param 0 ∷ []))

-- a name of each kind: `((a Sort) (n Width) (j Index) (x a) (y (BitVec n)) (ps Bool :list))`
abbrev pub kinds_params : List Param
kinds_params =
    declared_param (codes "a") kind.SortName ∷ declared_param (codes "n") kind.Width ∷ declared_param (codes "j") kind.Index
    ∷ declared_param (codes "x") (kind.Term (Named 0)) ∷ declared_param (codes "y") (kind.Term (BitVec (name 1)))
    ∷ declared_param (codes "ps") (kind.List Bool) ∷ []

-- `(extract j 0 y)`
abbrev pub low_bits : Tree
low_bits = extract (name 2) (number (pos 0)) (param 4)

-- `(and (= x x) (= (extract j 0 y) (extract j 0 y)) ps)`
abbrev pub kinds_left : Tree
kinds_left =
    apply head.And (apply head.Equal (param 3 ∷ param 3 ∷ []) ∷ apply head.Equal (low_bits ∷ low_bits ∷ []) ∷ param 5 ∷ [])

-- `(define-rule kinds (..) (and ..) true)`
abbrev pub kinds : Rule
kinds = plain_rule (codes "kinds") kinds_params [] kinds_left (apply head.True [])
