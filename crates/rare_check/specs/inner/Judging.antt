-- What the commands of a proof came to, by the trees of its terms.
use Rattle.std.specs.Prelude.{◌≡◌, ℕ, true, nat_eq, ◌<◌, List, [], ◌∷◌, length, map, All, bytes_eq, get_or, Option, Some, None, option_map, Result, Ok, Err, if◌then◌else◌}
use Rattle.rare_sort.specs.Ids.{tree_at}
use Rattle.rare_sort.specs.Sorting.{all_of}
use Rattle.std.specs.List.{list_any}
use Rattle.rare_sort.specs.declared.tree.Tree.{Tree}
use Rattle.rare_term.specs.State.{State}
use Rattle.rare_rule.specs.Books.{BookRule}
use Rattle.rare_proof.specs.declared.step.Step.{Step}
use Rattle.rare_proof.specs.declared.step.StepRule.{StepRule}
use Rattle.rare_proof.specs.declared.step.StepRule.TheVariants as by
use Rattle.rare_proof.specs.Proofs.{IsProofOver, concluded_by}
use Rattle.rare_proof.specs.Steps.{Equation, equation}
use Rattle.rare_proof.specs.declared.fault.StepFault.{StepFault}
use Rattle.rare_proof_text.specs.declared.command.ReadCommand.{ReadCommand}
use Rattle.rare_proof_text.specs.declared.command.ReadCommand.TheVariants as command
use Rattle.rare_check.specs.declared.judged.BadCommand.{BadCommand}
use Rattle.rare_check.specs.declared.judged.Judged.{Judged}
use Rattle.rare_check.specs.Verdicts.{Bad, NamedEquation}

-- the place under this id
abbrev pub place_named : List (List ℕ) → List ℕ → List ℕ → Option ℕ
place_named (i ∷ ids) (k ∷ places) id = if bytes_eq id i then Some k else place_named ids places id
place_named ids places id = None

-- the places under these ids, where each is there
abbrev pub places_named : List (List ℕ) → List ℕ → List (List ℕ) → Option (List ℕ)
places_named ids places wanted = all_of (map (place_named ids places) wanted)

-- the equation at a place; past the end it says nothing
abbrev pub equation_at : List Equation → ℕ → Equation
equation_at es k = get_or es k (equation (tree_at [] 0) (tree_at [] 0))

-- the equations at these places, each under its id
abbrev pub named_equations : List Equation → List (List ℕ) → List ℕ → List NamedEquation
named_equations es (i ∷ ids) (k ∷ places) = record { id = i; concluded = equation_at es k } ∷ named_equations es ids places
named_equations es ids places = []

abbrev pub bad_of : BadCommand → Bad
bad_of b = record { name = b.name; fault = b.fault }

abbrev pub earlier_of : List Tree → Judged → List NamedEquation
earlier_of ts j = named_equations (concluded_by ts j.proof) j.ids j.places

abbrev pub bad_in : Judged → Option Bad
bad_in j = option_map bad_of j.bad

-- the number of the rule of the book that a step names
abbrev pub named_by_rule : Result StepRule StepFault → Option ℕ
named_by_rule (Ok (by.Rewrite k args)) = Some k
named_by_rule r = None

-- the rule of a step is among those that are named, where it is one of the book
abbrev pub IsNamedRule : List ℕ → StepRule → Type 0
IsNamedRule named (by.Rewrite k args) = list_any (nat_eq k) named ≡ true
IsNamedRule named rule = Unit {0}

-- the rules of the steps of a proof are among those that are named
abbrev pub AreNamedRules : List ℕ → List Step → Type 0
AreNamedRules named steps = All (λ step. IsNamedRule named step.by) steps

abbrev pub IsNamedIn : List ℕ → Result StepRule StepFault → Type 0
IsNamedIn named (Ok r) = IsNamedRule named r
IsNamedIn named (Err fault) = Unit {0}

-- the rule of a command is among those that are named, where it is a step by one of the book
abbrev pub NamesKnown : {E : Type 0} → List ℕ → ReadCommand E → Type 0
NamesKnown named (command.Step s) = IsNamedIn named s.rule
NamesKnown named c = Unit {0}

-- a place for each id, which the proof has, and the proof is of these terms by the rules of the book
pub record IsJudged (s : State) (book : List BookRule) (j : Judged) : Type 0 where
  pub matched : length j.ids ≡ length j.places
  pub within : All (λ k. k < length j.proof) j.places
  pub proof : IsProofOver s book j.proof
