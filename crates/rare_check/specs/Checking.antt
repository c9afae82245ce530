-- A proof that is checked as it comes: what a checker holds, and the answer it gives with the bytes that follow.
use Rattle.std.specs.Prelude.{◌≡◌, ℕ, suc, ◌||◌, nat_eq, List, [], ◌∷◌, Option, Some, None, Err}
use Rattle.std.specs.List.{list_any}
use Rattle.rare_base.specs.declared.answers.Fault.{Fault}
use Rattle.rare_base.specs.declared.answers.Fault.TheVariants as fault
use Rattle.rare_sexpr.specs.Commands.{Commands}
use Rattle.rare_sexpr.specs.Streams.{Stream, new_stream, commands_left}
use Rattle.rare_sort.specs.declared.declarations.Declarations.{Declarations}
use Rattle.rare_rule.specs.Books.{BookRule}
use Rattle.rare_scope.specs.Names.{Names}
use Rattle.rare_scope.specs.Reading.{Read}
use Rattle.rare_text.specs.Problems.{StatedProblem, StatedRewrite}
use Rattle.rare_proof_text.specs.ProofText.{proof_from}
use Rattle.rare_proof_text.specs.ProofCommands.{ProofCommand}
use Rattle.rare_check.specs.declared.report.Report.{Report}
use Rattle.rare_check.specs.declared.report.Verdict.{Verdict}
use Rattle.rare_check.specs.Verdicts.{Bad, NamedEquation, first_bad, concludes, names_rule, trusted_by, verdict_by, report_by, on_proof}

pub record Checking : Type 0 where
  pub problem : StatedProblem
  -- the rules that steps may name
  pub book : List BookRule
  -- the names so far: those of the problem, and those that the proof defines
  pub names : Names
  -- the equations that the steps so far conclude
  pub earlier : List NamedEquation
  -- the places of the rewrites that are concluded
  pub concluded : List ℕ
  -- the numbers of the rules of the book that steps name
  pub named : List ℕ
  -- the first command that is not valid
  pub bad : Option Bad
  -- the bytes that are not yet taken
  pub left : Stream
  -- the fault that stands
  pub stopped : Option Fault

abbrev pub start : List BookRule → StatedProblem → Checking
start book problem = record {
  problem = problem;
  book = book;
  names = problem.names;
  earlier = [];
  concluded = [];
  named = [];
  bad = None;
  left = new_stream;
  stopped = None;
}

-- the equations that are concluded, the places of the rewrites that are, and the first command that is not valid
pub record Progress : Type 0 where
  pub earlier : List NamedEquation
  pub concluded : List ℕ
  pub bad : Option Bad

abbrev pub progress_in : Checking → Progress
progress_in c = record { earlier = c.earlier; concluded = c.concluded; bad = c.bad }

-- the verdicts from place k on, where the rewrites at some places are concluded already
abbrev pub verdicts_with : List StatedRewrite → List ℕ → List ProofCommand → ℕ → List StatedRewrite → List Verdict
verdicts_with rewrites concluded commands k [] = []
verdicts_with rewrites concluded commands k (r ∷ rs) =
    verdict_by (list_any (nat_eq k) concluded || list_any (concludes rewrites k) commands) ∷ verdicts_with rewrites concluded commands (suc k) rs

abbrev pub bad_after : Option Bad → Option Bad → Option Bad
bad_after None later = later
bad_after (Some bad) later = Some bad

-- the trusted rules, where steps name some rules already
abbrev pub trusted_with : List BookRule → List ℕ → List ProofCommand → List ℕ
trusted_with book named commands = trusted_by (λ k. list_any (nat_eq k) named || list_any (names_rule k) commands) 0 book

-- the report on a proof that has come so far and names these rules, with these commands behind those before
abbrev pub report_with : Declarations → List BookRule → List StatedRewrite → Progress → List ℕ → List ProofCommand → Report
report_with d book rewrites p named commands =
    report_by (bad_after p.bad (first_bad d book rewrites p.earlier commands)) (verdicts_with rewrites p.concluded commands 0 rewrites)
    (trusted_with book named commands)

-- the answer with these commands, which are read over the names so far
abbrev pub answer_from : Declarations → List BookRule → List StatedRewrite → Names → Progress → List ℕ → Commands → Read Report
answer_from d book rewrites names p named commands =
    on_proof (report_with d book rewrites p named) (proof_from d names book commands.list commands.fault)

abbrev pub unless_stopped : Option Fault → Read Report → Read Report
unless_stopped None answer = answer
unless_stopped (Some fault.Memory) answer = answer
unless_stopped (Some (fault.Refused place reason)) answer = Err (record { place = place; reason = reason })

-- the report or the fault that a checker gives with these bytes behind those before
abbrev pub answer : Checking → List ℕ → Read Report
answer c rest =
    unless_stopped c.stopped (answer_from c.problem.declared c.book c.problem.rewrites c.names (progress_in c) c.named (commands_left c.left rest))

-- a fault is the one that is answered; want of memory is free
abbrev pub Refuses : Fault → Read Report → Type 0
Refuses fault.Memory answer = Unit {0}
Refuses (fault.Refused place reason) answer = answer ≡ Err (record { place = place; reason = reason })
