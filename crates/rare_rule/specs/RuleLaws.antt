-- Laws of what it is that a rule holds.
use Rattle.std.specs.Prelude.{List}
use Rattle.rare_linear.specs.declared.constraint.Constraint.{Constraint}
use Rattle.rare_meaning.specs.Interpretations.{FunctionClass, AnyFunctions}
use Rattle.rare_rule.specs.Holds.{Holds}
use Rattle.rare_rule.specs.declared.rule.Rule.{Rule}

-- a rule that holds for all functions holds for those of each class
abbrev pub AnyHoldsEach : Type 0
AnyHoldsEach = (c : FunctionClass) (r : Rule) (constraints : List Constraint) → Holds AnyFunctions r constraints → Holds c r constraints
