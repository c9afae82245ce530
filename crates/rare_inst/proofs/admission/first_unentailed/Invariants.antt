use Rattle.std.proofs.Common.{◌≡◌, List, drop}
use Rattle.rare_rule.specs.Nodes.{Node}
use Rattle.rare_inst.specs.Admission.{first_that_fails, is_met}
use Rattle.rare_inst.specs.Substituting.{Substitution}
use Rattle.rare_inst.specs.inner.Standing.{StandsFor}
use Rattle.rare_inst.proofs.admission.first_unentailed.Given as goal

-- what is left decides
abbrev pub invariant-loop-k : goal.invariant-loop-k
invariant-loop-k g l =
    let d = (g.T.Terms.state l.terms).declared in
    (a : Substitution) → StandsFor a l.numbers → (left : List Node) →
    first_that_fails (λ k c. is_met d left a c) 0 l.constraints ≡ first_that_fails (λ k c. is_met d left a c) l.k (drop l.k l.constraints)
