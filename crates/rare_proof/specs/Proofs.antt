-- Proofs: lists of steps, each valid after those before it, no two of which conclude one equation.
use Rattle.std.specs.Prelude.{◌≡◌, ℕ, ◌<◌, ◌&&◌, nat_eq, Bool, List, [], ◌∷◌, ◌++◌, All, map, take, length, slice_get, Option, Some, None, Result, Ok, Err}
use Rattle.rare_sort.specs.Each.{Each}
use Rattle.rare_sort.specs.Ids.{tree_at}
use Rattle.rare_sort.specs.declared.declarations.Declarations.{Declarations}
use Rattle.rare_sort.specs.declared.tree.TermId.{TermId}
use Rattle.rare_sort.specs.declared.tree.Tree.{Tree}
use Rattle.rare_term.specs.State.{State}
use Rattle.rare_inst.specs.Answers.{AreGiven}
use Rattle.rare_inst.specs.Arguments.{Argument, arguments_of}
use Rattle.rare_inst.specs.InstanceLaws.{IsArgument}
use Rattle.rare_inst.specs.declared.fault.InstFault.{InstFault}
use Rattle.rare_inst.specs.declared.fault.InstFault.TheVariants as instance
use Rattle.rare_rule.specs.Books.{BookRule}
use Rattle.rare_proof.specs.declared.fault.AddError.{AddError}
use Rattle.rare_proof.specs.declared.fault.AddError.TheVariants.{Invalid, Memory}
use Rattle.rare_proof.specs.declared.fault.StepFault.{StepFault}
use Rattle.rare_proof.specs.declared.step.Step.{Step}
use Rattle.rare_proof.specs.declared.step.StepRule.{StepRule}
use Rattle.rare_proof.specs.declared.step.StepRule.TheVariants as by
use Rattle.rare_proof.specs.Steps.{Equation, StatedRule, StatedStep, Refl, Cong, Trans, Evaluate, Rewrite, equation, instance_fault, step_fault}

-- what the steps conclude, in order
abbrev pub conclusions : List StatedStep → List Equation
conclusions steps = map (λ s. s.concluded) steps

-- the arguments of a rule of a book are terms of the problem
abbrev pub HasArguments : Declarations → StatedRule → Type 0
HasArguments d (Rewrite k args) = Each (IsArgument d) args
HasArguments d rule = Unit {0}

-- under the declarations of a problem, by the rules of a book
pub record IsProof (d : Declarations) (book : List BookRule) (steps : List StatedStep) : Type 0 where
  pub valid : (k : ℕ) (s : StatedStep) → slice_get steps k ≡ Some s → step_fault d book (take k (conclusions steps)) s ≡ None
  pub arguments : All (λ s. HasArguments d s.rule) steps
  pub differ : (j k : ℕ) (e : Equation) → slice_get (conclusions steps) j ≡ Some e → slice_get (conclusions steps) k ≡ Some e → j ≡ k

-- ---- steps by ids

-- a rule by the trees of the ids of its arguments
abbrev pub stated_rule : List Tree → StepRule → StatedRule
stated_rule ts by.Refl = Refl
stated_rule ts by.Cong = Cong
stated_rule ts by.Trans = Trans
stated_rule ts by.Evaluate = Evaluate
stated_rule ts (by.Rewrite k args) = Rewrite k (arguments_of ts args)

-- a step by the trees of its ids
abbrev pub stated_step : List Tree → Step → StatedStep
stated_step ts s = record { concluded = equation (tree_at ts s.left.0) (tree_at ts s.right.0); rule = stated_rule ts s.by; premises = s.premises }

abbrev pub stated_steps : List Tree → List Step → List StatedStep
stated_steps ts steps = map (stated_step ts) steps

-- what the steps conclude, by the trees of their ids
abbrev pub concluded_by : List Tree → List Step → List Equation
concluded_by ts steps = conclusions (stated_steps ts steps)

-- the ids of a rule's arguments are of these terms, and their width names are declared
abbrev pub IsRuleOf : State → StepRule → Type 0
IsRuleOf s (by.Rewrite k args) = AreGiven s args
IsRuleOf s rule = Unit {0}

-- the step is of these terms
pub record IsStepOf (s : State) (step : Step) : Type 0 where
  pub left : step.left.0 < length s.trees
  pub right : step.right.0 < length s.trees
  pub by : IsRuleOf s step.by

-- the steps are of these terms, and a proof
pub record IsProofOver (s : State) (book : List BookRule) (steps : List Step) : Type 0 where
  pub are : All (IsStepOf s) steps
  pub proof : IsProof s.declared book (stated_steps s.trees steps)

-- whether a step concludes the equation of two ids
abbrev pub is_equation : TermId → TermId → Step → Bool
is_equation left right s = nat_eq left.0 s.left.0 && nat_eq right.0 s.right.0

-- ---- what adding a step answers

-- a step that is not valid is refused by its first condition that fails; want of memory is free
abbrev pub Judges : {X : Type 0} → Option StepFault → Result X AddError → Type 0
Judges fault (Ok x) = fault ≡ None
Judges fault (Err (Invalid f)) = fault ≡ Some f
Judges fault (Err Memory) = Unit {0}

-- why an instance doesn't exist is why its step is not added; want of memory stays that
abbrev pub IsAddErrorOf : InstFault → AddError → Type 0
IsAddErrorOf instance.Memory error = error ≡ Memory
IsAddErrorOf fault error = error ≡ Invalid (instance_fault fault)

-- the place of the step's equation: an earlier one, or that of the step behind the others
pub record IsAddedAt (old : List Step) (s : Step) (new : List Step) (k : ℕ) : Type 0 where
  pub earlier : k < length old → new ≡ old
  pub last : ¬ (k < length old) → (k ≡ length old) × (new ≡ old ++ s ∷ [])
