-- What the equations of valid steps are.
use Rattle.std.specs.Prelude.{◌≡◌, List, None, All}
use Rattle.rare_meaning.specs.Interpretations.{FunctionClass}
use Rattle.rare_meaning.specs.TrueRewrite.{MeansSame}
use Rattle.rare_sort.specs.declared.declarations.Declarations.{Declarations}
use Rattle.rare_rule.specs.Books.{BookRule}
use Rattle.rare_proof.specs.RulesHold.{HoldsAt}
use Rattle.rare_proof.specs.Steps.{Equation, StatedRule, StatedStep, Rewrite, step_fault}
use Rattle.rare_proof.specs.Proofs.{HasArguments, IsProof, conclusions}

-- both sides have one value and one sort at every allowed valuation and in every interpretation
abbrev pub IsTrueEquation : FunctionClass → Declarations → Equation → Type 0
IsTrueEquation c d e = MeansSame c d e.left e.right

abbrev pub AreTrueEquations : FunctionClass → Declarations → List Equation → Type 0
AreTrueEquations c d es = All (IsTrueEquation c d) es

-- the rule of a step holds, where it is one of the book
abbrev pub RuleHolds : FunctionClass → List BookRule → StatedRule → Type 0
RuleHolds c book (Rewrite k args) = HoldsAt c book k
RuleHolds c book rule = Unit {0}

-- a step that is valid after steps whose equations are true concludes a true equation, where its rule holds; and so does each step of
-- a proof, where the rules of all its steps hold
pub record ValidStepsAreTrue (c : FunctionClass) (d : Declarations) (book : List BookRule) : Type 0 where
  pub step :
      (earlier : List Equation) (s : StatedStep) → RuleHolds c book s.rule → HasArguments d s.rule → AreTrueEquations c d earlier →
      step_fault d book earlier s ≡ None → IsTrueEquation c d s.concluded
  pub proof : (steps : List StatedStep) → All (λ s. RuleHolds c book s.rule) steps → IsProof d book steps → AreTrueEquations c d (conclusions steps)
