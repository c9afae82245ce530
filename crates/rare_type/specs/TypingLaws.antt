-- Laws of the typing of rules.
use Rattle.std.specs.Prelude.{◌≡◌, ◌⊎◌, List, Ok, Err, IsTrue}
use Rattle.rare_linear.specs.declared.constraint.Constraint.{Constraint}
use Rattle.rare_rule.specs.ParamForms.{are_bounds}
use Rattle.rare_rule.specs.Rules.{IsInForm}
use Rattle.rare_rule.specs.RuleSorting.{Types}
use Rattle.rare_rule.specs.declared.rule.Rule.{Rule}
use Rattle.rare_type.specs.FirstCase.{rule_typing}
use Rattle.rare_type.specs.declared.error.TypeError.TheVariants as case

-- a rule in form types exactly where no case is found, but for a width or a constraint that leaves i128
pub record TypingIsExact : Type 0 where
  pub sound : (r : Rule) (cs : List Constraint) → rule_typing r ≡ Ok cs → Types r cs
  pub complete :
      (r : Rule) (cs : List Constraint) → IsInForm r → Types r cs →
      (rule_typing r ≡ Ok cs) ⊎ (rule_typing r ≡ Err case.TooLarge)

-- each constraint of a rule in form that types is over numbers of the rule: widths, indices and totals of lists
abbrev pub ConstraintsAreOverNumbers : Type 0
ConstraintsAreOverNumbers = (r : Rule) (cs : List Constraint) → IsInForm r → Types r cs → IsTrue (are_bounds r.params cs)
