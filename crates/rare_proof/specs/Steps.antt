-- When a step of a proof is valid after the steps before it, or else the first condition that fails. (The form of a step is after the
-- proof format Alethe, steps by rules of a book after the RARE paper, FMCAD 2022; the conditions are this project's own.)
use Rattle.std.specs.Prelude.{ℕ, suc, Bool, true, false, ◌&&◌, nat_eq, List, [], ◌∷◌, ◌++◌, length, map, slice_get, Option, Some, None, is_some, Result, Ok, Err, if◌then◌else◌}
use Rattle.std.specs.Option.{option_eq, option_map}
use Rattle.rare_sort.specs.Sameness.{head_eq, linears_eq, tree_eq}
use Rattle.rare_sort.specs.Sorting.{all_of}
use Rattle.rare_sort.specs.Trees.{head_of, indices_of, args_of, node}
use Rattle.rare_sort.specs.declared.declarations.Declarations.{Declarations}
use Rattle.rare_sort.specs.declared.head.Head.TheVariants.{True}
use Rattle.rare_sort.specs.declared.tree.Tree.{Tree}
use Rattle.rare_eval.specs.Evaluation.{evaluation}
use Rattle.rare_inst.specs.Admission.{admission_fault}
use Rattle.rare_inst.specs.Arguments.{Argument}
use Rattle.rare_inst.specs.Instance.{left_of, premise_of, result_of}
use Rattle.rare_inst.specs.declared.fault.InstFault.{InstFault}
use Rattle.rare_inst.specs.declared.fault.InstFault.TheVariants as instance
use Rattle.rare_rule.specs.Books.{BookRule, typed_at}
use Rattle.rare_rule.specs.TypedRule.{TypedRule}
use Rattle.rare_proof.specs.Items.{item_eq}
use Rattle.rare_proof.specs.declared.fault.StepFault.{StepFault}
use Rattle.rare_proof.specs.declared.fault.StepFault.TheVariants.{NoSuchStep, PremiseCount, NotEqual, OtherHead, OtherPremise, NoValue, OtherValue, NoSuchRule, ArgCount, ArgMissorted, Unentailed, LeftTooShort, EmptyConcat, Limit, OtherLeft, OtherRight}

pub record Equation : Type 0 where
  pub left : Tree
  pub right : Tree

abbrev pub equation : Tree → Tree → Equation
equation a b = record { left = a; right = b }

-- the rule of a step
pub data StatedRule : Type 0 where
  Refl : StatedRule
  Cong : StatedRule
  Trans : StatedRule
  Evaluate : StatedRule
  -- the rule of a book with this number, from 0, at these arguments
  Rewrite : ℕ → List Argument → StatedRule

-- a step: the equation that it concludes, its rule, and the places of its premises among the steps before it, counted from 0
pub record StatedStep : Type 0 where
  pub concluded : Equation
  pub rule : StatedRule
  pub premises : List ℕ

-- the equations at these places, where all are there
abbrev pub equations_at : List Equation → List ℕ → Option (List Equation)
equations_at earlier places = all_of (map (slice_get earlier) places)

-- ---- conditions

-- a condition that is needed: its fault, where it fails
abbrev pub needs : Bool → StepFault → Option StepFault
needs true fault = None
needs false fault = Some fault

-- the fault of the first condition that fails
abbrev pub first_failing : List (Option StepFault) → Option StepFault
first_failing [] = None
first_failing (None ∷ cs) = first_failing cs
first_failing (Some fault ∷ cs) = Some fault

abbrev pub equation_eq : Equation → Equation → Bool
equation_eq p q = tree_eq p.left q.left && tree_eq p.right q.right

abbrev pub equations_eq : List Equation → List Equation → Bool
equations_eq [] [] = true
equations_eq (p ∷ ps) (q ∷ qs) = equation_eq p q && equations_eq ps qs
equations_eq ps qs = false

-- the equations of the arguments that differ, in order
abbrev pub differing : List Tree → List Tree → List Equation
differing (a ∷ ss) (b ∷ ts) = if tree_eq a b then differing ss ts else (equation a b ∷ differing ss ts)
differing ss ts = []

-- one operator with the same indices, and as many arguments
abbrev pub have_same_head : Tree → Tree → Bool
have_same_head a b = head_eq (head_of a) (head_of b) && (linears_eq (indices_of a) (indices_of b) && nat_eq (length (args_of a)) (length (args_of b)))

-- the premises are a = b and b = c, and the step is a = c
abbrev pub are_joined : List Equation → Tree → Tree → Bool
are_joined (p ∷ q ∷ []) a c = tree_eq p.left a && (tree_eq p.right q.left && tree_eq q.right c)
are_joined ps a c = false

-- both have values
abbrev pub have_values : Tree → Tree → Bool
have_values a b = is_some (evaluation a) && is_some (evaluation b)

-- the values are one, as are their sorts
abbrev pub have_same_value : Tree → Tree → Bool
have_same_value a b = option_eq item_eq (evaluation a) (evaluation b)

-- ---- steps by rules of a book

-- why an instance doesn't exist; want of memory is no condition of a step
abbrev pub instance_fault : InstFault → StepFault
instance_fault (instance.ArgMissorted k) = ArgMissorted k
instance_fault (instance.Unentailed k) = Unentailed k
instance_fault instance.LeftTooShort = LeftTooShort
instance_fault instance.EmptyConcat = EmptyConcat
instance_fault instance.Limit = Limit
instance_fault instance.Memory = Limit

-- the part of the instance exists
abbrev pub exists : Result Tree InstFault → Option StepFault
exists (Ok t) = None
exists (Err fault) = Some (instance_fault fault)

-- the part of the instance is this tree
abbrev pub is_part : Result Tree InstFault → Tree → Bool
is_part (Ok t) u = tree_eq t u
is_part (Err fault) u = false

-- the equation says of this part of the instance that it is true
abbrev pub says_true : Result Tree InstFault → Equation → Bool
says_true part e = is_part part e.left && tree_eq (node True [] []) e.right

module _ (d : Declarations) (t : TypedRule) (args : List Argument) where
  -- from premise k of the rule on: each exists, and the step's premise says that it is true
  abbrev pub premise_conditions : ℕ → List Equation → List (Option StepFault)
  premise_conditions k [] = []
  premise_conditions k (e ∷ es) =
      exists (premise_of d t.rule args k) ∷ needs (says_true (premise_of d t.rule args k) e) OtherPremise ∷ premise_conditions (suc k) es

  abbrev pub instance_conditions : Tree → Tree → List Equation → List (Option StepFault)
  instance_conditions a b premises =
      needs (nat_eq (length args) (length t.rule.params)) ArgCount ∷ option_map instance_fault (admission_fault d t args)
      ∷ exists (left_of d t.rule args) ∷ needs (is_part (left_of d t.rule args) a) OtherLeft
      ∷ needs (nat_eq (length premises) (length t.rule.premises)) PremiseCount
      ∷ (premise_conditions 0 premises ++ exists (result_of d t.rule args) ∷ needs (is_part (result_of d t.rule args) b) OtherRight ∷ [])

abbrev pub rewrite_conditions : Declarations → Option TypedRule → List Argument → Tree → Tree → List Equation → List (Option StepFault)
rewrite_conditions d None args a b premises = Some NoSuchRule ∷ []
rewrite_conditions d (Some t) args a b premises = instance_conditions d t args a b premises

-- ---- steps

-- under the declarations of a problem, by the rules of a book
module _ (d : Declarations) (book : List BookRule) where
  -- the conditions of each rule, in the order in which they are tried
  abbrev pub conditions : StatedRule → Tree → Tree → List Equation → List (Option StepFault)
  conditions Refl a b premises = needs (nat_eq (length premises) 0) PremiseCount ∷ needs (tree_eq a b) NotEqual ∷ []
  conditions Cong a b premises =
      needs (have_same_head a b) OtherHead ∷ needs (nat_eq (length premises) (length (differing (args_of a) (args_of b)))) PremiseCount
      ∷ needs (equations_eq premises (differing (args_of a) (args_of b))) OtherPremise ∷ []
  conditions Trans a b premises = needs (nat_eq (length premises) 2) PremiseCount ∷ needs (are_joined premises a b) OtherPremise ∷ []
  conditions Evaluate a b premises =
      needs (nat_eq (length premises) 0) PremiseCount ∷ needs (have_values a b) NoValue ∷ needs (have_same_value a b) OtherValue ∷ []
  conditions (Rewrite k args) a b premises = rewrite_conditions d (typed_at book k) args a b premises

  abbrev pub rule_fault : StatedRule → Equation → Option (List Equation) → Option StepFault
  rule_fault rule e None = Some NoSuchStep
  rule_fault rule e (Some premises) = first_failing (conditions rule e.left e.right premises)

  -- the first condition of a step that fails after steps that conclude these equations
  abbrev pub step_fault : List Equation → StatedStep → Option StepFault
  step_fault earlier s = rule_fault s.rule s.concluded (equations_at earlier s.premises)
