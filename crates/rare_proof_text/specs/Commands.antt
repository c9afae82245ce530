-- Commands of proofs as they were read, by the trees of their terms, and how they go with what a text spells.
use Rattle.std.specs.Prelude.{◌≡◌, ℕ, ◌<◌, false, List, [], map, length, Option, Some, None, Result, Ok, Err}
use Rattle.std.specs.Borrow.{Bor}
use Rattle.rare_base.specs.declared.answers.Fault.{Fault}
use Rattle.rare_sexpr.specs.declared.tree.Sexpr.{Sexpr}
use Rattle.rare_sexpr.specs.Tree.{items_of, text_of}
use Rattle.rare_sort.specs.Ids.{tree_at}
use Rattle.rare_sort.specs.declared.tree.Tree.{Tree}
use Rattle.rare_scope.specs.Answers.{Fails}
use Rattle.rare_scope.specs.Names.{Held, is_declared}
use Rattle.rare_scope.specs.Reading.{Read}
use Rattle.rare_term.specs.State.{State}
use Rattle.rare_proof.specs.Proofs.{IsRuleOf, stated_rule}
use Rattle.rare_proof.specs.Sided.{AreSides, equation_of}
use Rattle.rare_proof.specs.declared.fault.StepFault.{StepFault}
use Rattle.rare_proof.specs.declared.step.StepRule.{StepRule}
use Rattle.rare_proof_text.specs.ArgumentText.{NamedRule}
use Rattle.rare_proof_text.specs.ProofCommands.{NamedStep, ProofCommand, Define, Step, Conclude}
use Rattle.rare_proof_text.specs.declared.command.ReadStep.{ReadStep}
use Rattle.rare_proof_text.specs.declared.command.ReadCommand.{ReadCommand}
use Rattle.rare_proof_text.specs.declared.command.ReadCommand.TheVariants as «read»

-- the texts of the items of an expression
abbrev pub texts_in : Sexpr → List (List ℕ)
texts_in e = map text_of (items_of e)

-- the ids of the premises of a step, by the list that gives them
abbrev pub premise_ids : {E : Type 0} → (E → Sexpr) → Option (Bor E) → List (List ℕ)
premise_ids tree None = []
premise_ids tree (Some ids) = texts_in (tree ids.now)

-- the rule by the trees of its arguments, or why there is none
abbrev pub named_rule : List Tree → Result StepRule StepFault → NamedRule
named_rule ts (Ok r) = Ok (stated_rule ts r)
named_rule ts (Err fault) = Err fault

abbrev pub named_step : {E : Type 0} → (E → Sexpr) → List Tree → ReadStep E → NamedStep
named_step tree ts s = record { id = s.id.now; concluded = equation_of ts s.sides; rule = named_rule ts s.rule; premises = premise_ids tree s.premises }

abbrev pub command_at : {E : Type 0} → (E → Sexpr) → List Tree → ReadCommand E → ProofCommand
command_at tree ts («read».Define name term) = Define name.now (tree_at ts term.0)
command_at tree ts («read».Step s) = Step (named_step tree ts s)
command_at tree ts («read».Conclude name id) = Conclude name.now id.now

-- the command that was read, or the first fault
abbrev pub AnswersCommand : {E : Type 0} → (E → Sexpr) → List Tree → Result (ReadCommand E) Fault → Read ProofCommand → Type 0
AnswersCommand tree ts (Ok c) read = read ≡ Ok (command_at tree ts c)
AnswersCommand tree ts (Err f) read = Fails f read

-- the arguments of the rule are of these terms, where there is a rule
abbrev pub IsNamedRuleOf : State → Result StepRule StepFault → Type 0
IsNamedRuleOf s (Ok r) = IsRuleOf s r
IsNamedRuleOf s (Err fault) = Unit {0}

-- the sides and the arguments of the step are of these terms
pub record IsReadStepOf {E : Type 0} (s : State) (step : ReadStep E) : Type 0 where
  pub sides : AreSides (length s.trees) step.sides
  pub rule : IsNamedRuleOf s step.rule

-- the terms of a command are of these
abbrev pub IsCommandOf : {E : Type 0} → State → ReadCommand E → Type 0
IsCommandOf s («read».Define name term) = term.0 < length s.trees
IsCommandOf s («read».Step step) = IsReadStepOf s step
IsCommandOf s («read».Conclude name id) = Unit {0}

-- the name that a command defines is new
abbrev pub DefinesNew : {E : Type 0} → Held → ReadCommand E → Type 0
DefinesNew held («read».Define name term) = is_declared held name.now ≡ false
DefinesNew held («read».Step s) = Unit {0}
DefinesNew held («read».Conclude name id) = Unit {0}
