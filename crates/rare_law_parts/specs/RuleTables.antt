-- Tables of rules with their typing, and what it is that they hold.
use Rattle.std.specs.Prelude.{List, []}
use Rattle.rare_linear.specs.declared.constraint.Constraint.{Constraint}
use Rattle.rare_sort.specs.Each.{Each}
use Rattle.rare_meaning.specs.Interpretations.{AnyFunctions}
use Rattle.rare_rule.specs.Holds.{Holds}
use Rattle.rare_rule.specs.TypedRule.{TypedRule}
use Rattle.rare_rule.specs.declared.rule.Rule.{Rule}

-- the rule without constraints
abbrev pub unconstrained : Rule → TypedRule
unconstrained r = record { rule = r; constraints = [] }

-- the rule with these constraints
abbrev pub constrained : Rule → List Constraint → TypedRule
constrained r cs = record { rule = r; constraints = cs }

-- the rule holds, whichever functions division by 0 and the symbols stand for
abbrev pub DoesHold : TypedRule → Type 0
DoesHold t = Holds AnyFunctions t.rule t.constraints

-- each holds
abbrev pub EachHolds : List TypedRule → Type 0
EachHolds rs = Each DoesHold rs
