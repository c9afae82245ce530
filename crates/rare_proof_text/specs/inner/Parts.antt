-- Parts of commands as they were read, by the trees of their terms.
use Rattle.std.specs.Prelude.{◌≡◌, ℕ, nat_eq, Bool, ◌||◌, List, [], ◌∷◌, Result, Ok, Err}
use Rattle.rare_base.specs.declared.answers.Fault.{Fault}
use Rattle.rare_base.specs.declared.answers.Reason.TheVariants as reason
use Rattle.rare_sexpr.specs.declared.tree.Sexpr.{Sexpr}
use Rattle.rare_sort.specs.declared.declarations.Declarations.{Declarations}
use Rattle.rare_sort.specs.declared.tree.Tree.{Tree}
use Rattle.rare_sort.specs.Ids.{tree_at}
use Rattle.rare_scope.specs.Answers.{Fails}
use Rattle.rare_scope.specs.Names.{Names}
use Rattle.rare_scope.specs.Reading.{Read, refused, go_on, symbol_at}
use Rattle.rare_rule.specs.Books.{BookRule}
use Rattle.rare_proof.specs.Steps.{equation}
use Rattle.rare_proof.specs.declared.sides.Sides.{Sides}
use Rattle.rare_proof_text.specs.Commands.{named_rule, named_step, premise_ids}
use Rattle.rare_proof_text.specs.ProofText.{StepEnd, step_end, sides_at, rule_behind, proof_command_by}
use Rattle.rare_proof_text.specs.ProofCommands.{ProofCommand, Step}
use Rattle.rare_proof_text.specs.declared.words.ProofWord.{ProofWord}
use Rattle.rare_proof_text.specs.declared.words.RuleWord.{RuleWord}
use Rattle.rare_proof_text.specs.declared.command.ReadStep.{ReadStep}
use Rattle.rare_proof_text.specs.declared.ending.ReadEnd.{ReadEnd}
use Rattle.rare_proof_text.specs.declared.step.ReadStart.{ReadStart}

-- what was read, as a view shows it, or the first fault
abbrev pub AnswersAs : {X A : Type 0} → (X → A) → Result X Fault → Read A → Type 0
AnswersAs view (Ok x) read = read ≡ Ok (view x)
AnswersAs view (Err f) read = Fails f read

abbrev pub pair_at : List Tree → Sides → Tree × Tree
pair_at ts s = (tree_at ts s.left.0, tree_at ts s.right.0)

-- a command by its word, with the items of the whole command
abbrev pub behind_word : Declarations → Names → List BookRule → Sexpr → ProofWord → List Sexpr → Read ProofCommand
behind_word d names book e w [] = refused e reason.BadForm
behind_word d names book e w (h ∷ items) = proof_command_by d names book e w items

-- ---- steps

-- how many items a step may have
abbrev pub is_step_count : ℕ → Bool
is_step_count n = nat_eq n 5 || (nat_eq n 7 || nat_eq n 9)

-- what the first five items of a step spell
pub record Start : Type 0 where
  pub id : List ℕ
  pub sides : Tree × Tree
  pub word : RuleWord

abbrev pub start : List ℕ → Tree × Tree → RuleWord → Start
start id sides word = record { id = id; sides = sides; word = word }

abbrev pub start_by : Declarations → Names → Sexpr → Sexpr → Sexpr → Sexpr → Sexpr → Read Start
start_by d names e i c k r =
    go_on (symbol_at i) (λ id. go_on (sides_at d names e c) (λ sides. go_on (rule_behind k r) (λ word. Ok (start id sides word))))

abbrev pub first_items : Declarations → Names → Sexpr → List Sexpr → Read Start
first_items d names e (h ∷ i ∷ c ∷ k ∷ r ∷ more) = start_by d names e i c k r
first_items d names e items = refused e reason.BadForm

abbrev pub with_end : Start → StepEnd → ProofCommand
with_end s x = Step (record { id = s.id; concluded = equation s.sides.0 s.sides.1; rule = x.rule; premises = x.premises })

-- ---- by the trees of ids

abbrev pub start_at : List Tree → ReadStart → Start
start_at ts s = start s.id.now (pair_at ts s.sides) s.word

abbrev pub end_at : {E : Type 0} → (E → Sexpr) → List Tree → ReadEnd E → StepEnd
end_at tree ts x = step_end (named_rule ts x.rule) (premise_ids tree x.premises)

abbrev pub step_at : {E : Type 0} → (E → Sexpr) → List Tree → ReadStep E → ProofCommand
step_at tree ts s = Step (named_step tree ts s)
