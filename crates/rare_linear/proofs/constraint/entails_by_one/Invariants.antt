use Rattle.std.proofs.Common.{◌<◌, ℕ, get_or}
use Rattle.rare_linear.specs.Entailment.{IsPlainlyMet, low_of, minus}
use Rattle.rare_linear.specs.declared.constraint.Constraint.{Constraint}
use Rattle.rare_linear.proofs.constraint.entails_by_one.Given as goal

-- none of the constraints so far is enough
abbrev pub invariant-loop-constraint : goal.invariant-loop-constraint
invariant-loop-constraint l =
    (k : ℕ) (d : Constraint) → k < l.constraint-index → IsPlainlyMet (low_of l.lows) (minus l.want (get_or l.have k d).floor) → ⊥
