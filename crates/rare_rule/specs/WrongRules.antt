-- Rules that don't hold, so that what it is that a rule holds is seen to ask for something.
use Rattle.std.specs.Prelude.{[], ◌∷◌, codes}
use Rattle.rare_sort.specs.declared.head.Head.TheVariants as head
use Rattle.rare_sort.specs.declared.sort.Sort.{Bool, Int}
use Rattle.rare_meaning.specs.Interpretations.{FunctionClass}
use Rattle.rare_rule.specs.Holds.{Holds}
use Rattle.rare_rule.specs.Written.{param, apply, declared_param, plain_rule, rule_if}
use Rattle.rare_rule.specs.declared.param.ParamKind.TheVariants as kind
use Rattle.rare_rule.specs.declared.rule.Rule.{Rule}

-- `(define-rule and-all ((ps Bool :list) (qs Bool :list)) (and ps true qs) true)`
abbrev pub and_all : Rule
and_all =
    plain_rule (codes "and-all") (declared_param (codes "ps") (kind.List Bool) ∷ declared_param (codes "qs") (kind.List Bool) ∷ [])
    [] (apply head.And (param 0 ∷ apply head.True [] ∷ param 1 ∷ [])) (apply head.True [])

-- `(define-cond-rule ite-other ((p Bool) (i Int) (j Int)) p (ite p i j) j)`
abbrev pub ite_other : Rule
ite_other =
    rule_if (codes "ite-other") (declared_param (codes "p") (kind.Term Bool) ∷ declared_param (codes "i") (kind.Term Int) ∷ declared_param (codes "j") (kind.Term Int) ∷ [])
    (param 0) (apply head.Ite (param 0 ∷ param 1 ∷ param 2 ∷ [])) (param 2)

-- neither holds, whichever functions count
pub record WrongRulesFail : Type 0 where
  pub lists : (c : FunctionClass) → Holds c and_all [] → ⊥
  pub premise : (c : FunctionClass) → Holds c ite_other [] → ⊥
