-- Laws of linear expressions.
use Rattle.std.specs.Prelude.{◌≡◌, ℕ, ℤ, pos, List, ◌++◌, All, IsTrue, ◌↔◌, length}
use Rattle.rare_linear.specs.Linears.{LinearExpression, IsNormal, NamesBelow, linear_value}
use Rattle.rare_linear.specs.Entailment.{IsEntailed, low_of}
use Rattle.rare_linear.specs.EntailmentTest.{is_entailed}
use Rattle.rare_linear.specs.declared.constraint.Constraint.{Constraint}

-- normal forms with equal values at all names are one
abbrev pub EqualValuesAreOneForm : Type 0
EqualValuesAreOneForm =
    (a b : LinearExpression) → IsNormal a.parts → IsNormal b.parts → ((at : ℕ → ℤ) → linear_value at a ≡ linear_value at b) → a ≡ b

-- what is entailed stays so under more constraints
abbrev pub MoreEntailsMore : Type 0
MoreEntailsMore =
    (lows : ℕ → ℤ) (have more : List Constraint) (e : LinearExpression) → IsEntailed lows have e → IsEntailed lows (have ++ more) e

-- the test is true exactly where entailment holds
abbrev pub EntailmentIsDecided : Type 0
EntailmentIsDecided =
    (lows : ℕ → ℤ) (have : List Constraint) (want : LinearExpression) → IsTrue (is_entailed lows have want) ↔ IsEntailed lows have want

-- a list of lows that are all 1 entails what the low 1 of every name does
abbrev pub OnesEntailAlike : Type 0
OnesEntailAlike =
    (lows : List ℕ) (have : List Constraint) (e : LinearExpression) → All (λ n. n ≡ 1) lows →
    All (λ c. NamesBelow (length lows) c.floor.parts) have → NamesBelow (length lows) e.parts →
    IsEntailed (low_of lows) have e ↔ IsEntailed (λ k. pos 1) have e
