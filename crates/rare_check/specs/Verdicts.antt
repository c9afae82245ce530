-- The verdict on a proof: its first command that is not valid, or which rewrites it concludes, and which rules it trusts.
use Rattle.std.specs.Prelude.{◌≡◌, ℕ, suc, Bool, true, false, not, ◌&&◌, nat_eq, All, List, [], ◌∷◌, ◌++◌, map, position, bytes_eq, slice_get, Option, Some, None, Ok, Err, if◌then◌else◌}
use Rattle.std.specs.List.{list_any}
use Rattle.std.specs.Option.{option_map}
use Rattle.rare_meaning.specs.Interpretations.{FunctionClass}
use Rattle.rare_meaning.specs.TrueRewrite.{IsTrueRewrite}
use Rattle.rare_sort.specs.Sorting.{all_of}
use Rattle.rare_sort.specs.declared.declarations.Declarations.{Declarations}
use Rattle.rare_sort.specs.Each.{Each}
use Rattle.rare_rule.specs.Books.{BookRule}
use Rattle.rare_rule.specs.Holds.{Holds}
use Rattle.rare_scope.specs.Reading.{Read}
use Rattle.rare_scope.specs.Reserved.{is_among}
use Rattle.rare_text.specs.Problems.{StatedProblem, StatedRewrite}
use Rattle.rare_proof.specs.RulesHold.{HoldsAt}
use Rattle.rare_proof.specs.Steps.{Equation, Rewrite, equation, equation_eq, needs, rule_fault}
use Rattle.rare_proof.specs.declared.fault.StepFault.{StepFault}
use Rattle.rare_proof.specs.declared.fault.StepFault.TheVariants.{IdUsed, NoSuchStep, NoSuchRewrite, OtherEquation}
use Rattle.rare_proof_text.specs.ArgumentText.{NamedRule}
use Rattle.rare_proof_text.specs.ProofText.{proof_of}
use Rattle.rare_proof_text.specs.ProofCommands.{ProofCommand, NamedStep, Define, Step, Conclude}
use Rattle.rare_check.specs.declared.report.Report.{Report}
use Rattle.rare_check.specs.declared.report.Report.TheVariants.{Checked, Invalid}
use Rattle.rare_check.specs.declared.report.Verdict.{Verdict}
use Rattle.rare_check.specs.declared.report.Verdict.TheVariants.{Valid, Missing}

-- ---- faults

-- what a step concludes, under its id
pub record NamedEquation : Type 0 where
  pub id : List ℕ
  pub concluded : Equation

abbrev pub ids_of : List NamedEquation → List (List ℕ)
ids_of es = map (λ e. e.id) es

-- the equation under this id
abbrev pub equation_named : List NamedEquation → List ℕ → Option Equation
equation_named [] id = None
equation_named (e ∷ es) id = if bytes_eq id e.id then Some e.concluded else equation_named es id

-- the equations under these ids, in order, where each is there
abbrev pub equations_named : List NamedEquation → List (List ℕ) → Option (List Equation)
equations_named earlier ids = all_of (map (equation_named earlier) ids)

module _ (d : Declarations) (book : List BookRule) where
  -- what fails for a step behind these premises; a premise that is not there comes before a rule that is not
  abbrev pub named_rule_fault : NamedRule → Equation → Option (List Equation) → Option StepFault
  named_rule_fault (Ok r) e premises = rule_fault d book r e premises
  named_rule_fault (Err fault) e None = Some NoSuchStep
  named_rule_fault (Err fault) e (Some premises) = Some fault

  -- the first condition of a step that fails after these equations
  abbrev pub named_step_fault : List NamedEquation → NamedStep → Option StepFault
  named_step_fault earlier s =
      if is_among (ids_of earlier) s.id then Some IdUsed else named_rule_fault s.rule s.concluded (equations_named earlier s.premises)

-- the place of the rewrite with this name
abbrev pub rewrite_place : List StatedRewrite → List ℕ → Option ℕ
rewrite_place rewrites name = position (bytes_eq name) (map (λ r. r.name) rewrites)

abbrev pub rewrite_equation : StatedRewrite → Equation
rewrite_equation r = equation r.left r.right

-- the equation of the rewrite at this place
abbrev pub equation_of_rewrite : List StatedRewrite → Option ℕ → Option Equation
equation_of_rewrite rewrites None = None
equation_of_rewrite rewrites (Some k) = option_map rewrite_equation (slice_get rewrites k)

-- what fails for the equation of a rewrite and that of a step
abbrev pub equation_fault : Option Equation → Option Equation → Option StepFault
equation_fault None step = Some NoSuchRewrite
equation_fault (Some r) None = Some NoSuchStep
equation_fault (Some r) (Some s) = needs (equation_eq s r) OtherEquation

-- the first condition of a conclusion that fails after these equations
abbrev pub conclusion_fault : List StatedRewrite → List NamedEquation → List ℕ → List ℕ → Option StepFault
conclusion_fault rewrites earlier name id =
    equation_fault (equation_of_rewrite rewrites (rewrite_place rewrites name)) (equation_named earlier id)

-- the first condition of a command that fails after these equations
abbrev pub fault_of : Declarations → List BookRule → List StatedRewrite → List NamedEquation → ProofCommand → Option StepFault
fault_of d book rewrites earlier (Define name t) = None
fault_of d book rewrites earlier (Step s) = named_step_fault d book earlier s
fault_of d book rewrites earlier (Conclude name id) = conclusion_fault rewrites earlier name id

-- ---- the first command that is not valid

-- a command that is not valid: its name, and the first condition that fails
pub record Bad : Type 0 where
  pub name : List ℕ
  pub fault : StepFault

-- a step by its id, a conclusion by the name of its rewrite
abbrev pub name_of : ProofCommand → List ℕ
name_of (Define name t) = name
name_of (Step s) = s.id
name_of (Conclude name id) = name

-- the equation that a command adds to those before it
abbrev pub added_by : ProofCommand → List NamedEquation
added_by (Define name t) = []
added_by (Step s) = record { id = s.id; concluded = s.concluded } ∷ []
added_by (Conclude name id) = []

abbrev pub bad_or : ProofCommand → Option StepFault → Option Bad → Option Bad
bad_or c None rest = rest
bad_or c (Some fault) rest = Some (record { name = name_of c; fault = fault })

-- the first command that is not valid, after these equations
abbrev pub first_bad : Declarations → List BookRule → List StatedRewrite → List NamedEquation → List ProofCommand → Option Bad
first_bad d book rewrites earlier [] = None
first_bad d book rewrites earlier (c ∷ cs) =
    bad_or c (fault_of d book rewrites earlier c) (first_bad d book rewrites (earlier ++ added_by c) cs)

-- ---- verdicts

abbrev pub is_place : Option ℕ → ℕ → Bool
is_place None k = false
is_place (Some j) k = nat_eq j k

-- whether a command concludes the rewrite at place k
abbrev pub concludes : List StatedRewrite → ℕ → ProofCommand → Bool
concludes rewrites k (Define name t) = false
concludes rewrites k (Step s) = false
concludes rewrites k (Conclude name id) = is_place (rewrite_place rewrites name) k

abbrev pub verdict_by : Bool → Verdict
verdict_by b = if b then Valid else Missing

-- the verdicts on the rewrites from place k on: a rewrite is valid where some command concludes it
abbrev pub verdicts_from : List StatedRewrite → List ProofCommand → ℕ → List StatedRewrite → List Verdict
verdicts_from rewrites commands k [] = []
verdicts_from rewrites commands k (r ∷ rs) = verdict_by (list_any (concludes rewrites k) commands) ∷ verdicts_from rewrites commands (suc k) rs

-- ---- trusted rules

abbrev pub is_rule : ℕ → NamedRule → Bool
is_rule k (Ok (Rewrite j args)) = nat_eq j k
is_rule k r = false

-- whether a command is a step by rule k of the book
abbrev pub names_rule : ℕ → ProofCommand → Bool
names_rule k (Define name t) = false
names_rule k (Step s) = is_rule k s.rule
names_rule k (Conclude name id) = false

-- the numbers, from k on, of the rules that are not shipped and pass the test
abbrev pub trusted_by : (ℕ → Bool) → ℕ → List BookRule → List ℕ
trusted_by test k [] = []
trusted_by test k (b ∷ bs) = if not b.shipped && test k then k ∷ trusted_by test (suc k) bs else trusted_by test (suc k) bs

-- the rules of users that some step names, in the order of the book, whether or not the step is used
abbrev pub trusted_of : List BookRule → List ProofCommand → List ℕ
trusted_of book commands = trusted_by (λ k. list_any (names_rule k) commands) 0 book

-- ---- reports

abbrev pub report_by : Option Bad → List Verdict → List ℕ → Report
report_by None verdicts trusted = Checked verdicts trusted
report_by (Some bad) verdicts trusted = Invalid bad.name bad.fault

-- the report on a proof of these rewrites, by the rules of a book
abbrev pub report_of : Declarations → List BookRule → List StatedRewrite → List ProofCommand → Report
report_of d book rewrites commands =
    report_by (first_bad d book rewrites [] commands) (verdicts_from rewrites commands 0 rewrites) (trusted_of book commands)

abbrev pub on_proof : (List ProofCommand → Report) → Read (List ProofCommand) → Read Report
on_proof f (Ok commands) = Ok (f commands)
on_proof f (Err fault) = Err fault

-- the report on the proof that a text gives by the rules of a book, or the text's first fault
abbrev pub checked : List BookRule → StatedProblem → List ℕ → Read Report
checked book problem bytes = on_proof (report_of problem.declared book problem.rewrites) (proof_of problem book bytes)

-- ---- what a report is worth

-- each shipped rule of the book holds
abbrev pub ShippedHold : FunctionClass → List BookRule → Type 0
ShippedHold c book = Each (λ b. b.shipped ≡ true → Holds c b.typed.rule b.typed.constraints) book

-- each rule that the report calls trusted holds
abbrev pub TrustedHold : FunctionClass → List BookRule → Report → Type 0
TrustedHold c book (Checked verdicts trusted) = All (HoldsAt c book) trusted
TrustedHold c book (Invalid name fault) = Unit {0}

-- each rewrite with the verdict valid is true
abbrev pub ValidAreTrue : FunctionClass → StatedProblem → Report → Type 0
ValidAreTrue c problem (Checked verdicts trusted) =
    (k : ℕ) (r : StatedRewrite) → slice_get problem.rewrites k ≡ Some r → slice_get verdicts k ≡ Some Valid → IsTrueRewrite c problem.declared r.left r.right
ValidAreTrue c problem (Invalid name fault) = Unit {0}

-- by each class of functions: where the trusted rules hold, what is valid is true
abbrev pub IsSound : List BookRule → StatedProblem → Report → Type 0
IsSound book problem report = (c : FunctionClass) → TrustedHold c book report → ValidAreTrue c problem report
