-- What a run writes, and with which status.
use Rattle.std.specs.Prelude.{ℕ, Bool, true, false, nat_lt, List, [], ◌∷◌, ◌++◌, length, map, get_or, codes, decimal, Option, Some, None, Result, Ok, Err, if◌then◌else◌}
use Rattle.std.specs.List.{flat_map, list_all, zip}
use Rattle.rare_base.specs.declared.answers.Status.{Status}
use Rattle.rare_base.specs.declared.answers.Status.TheVariants as status
use Rattle.rare_base.specs.Answers.{Refusal}
use Rattle.rare_base.specs.Answers as base
use Rattle.rare_base.specs.Reads.{most_file_bytes}
use Rattle.rare_book.specs.RuleFile.{rules_of}
use Rattle.rare_linear.specs.declared.constraint.Constraint.{Constraint}
use Rattle.rare_rule.specs.Books.{BookRule, rule_names}
use Rattle.rare_rule.specs.TypedRule.{TypedRule}
use Rattle.rare_rule.specs.declared.param.Param.{Param}
use Rattle.rare_rule_printing.specs.ConstraintPrinting.{constraint_text}
use Rattle.rare_sexpr.specs.Written.{written_symbol}
use Rattle.rare_check.specs.declared.report.Report.{Report}
use Rattle.rare_check.specs.declared.report.Report.TheVariants.{Checked, Invalid}
use Rattle.rare_check.specs.declared.report.Verdict.{Verdict}
use Rattle.rare_check.specs.declared.report.Verdict.TheVariants.{Valid, Missing}
use Rattle.rare_proof.specs.declared.fault.StepFault.{StepFault}
use Rattle.rare_proof.specs.Words.{fault_text}
use Rattle.rare_text.specs.ProblemText.{problem_of}
use Rattle.rare_text.specs.Problems.{StatedProblem}
use Rattle.rare_check.specs.Verdicts.{checked}
use Rattle.rare_cli.specs.declared.outcome.File.{File}
use Rattle.rare_cli.specs.declared.outcome.File.TheVariants.{Rules, Problem, Proof}
use Rattle.rare_cli.specs.declared.outcome.Stop.{Stop}
use Rattle.rare_cli.specs.declared.outcome.Stop.TheVariants.{BadWords, ReadFault, TooLong, Refused, Memory}

-- what is written, and the status
pub record Outcome : Type 0 where
  pub text : List ℕ
  pub status : Status

abbrev pub line : List ℕ → List ℕ
line text = text ++ 10 ∷ []

abbrev pub file_word : File → List ℕ
file_word Rules = codes "rules"
file_word Problem = codes "problem"
file_word Proof = codes "proof"

-- ---- a run that comes to no report

abbrev pub stop_text : Stop → List ℕ
stop_text BadWords = codes "usage: rare check RULES PROBLEM PROOF | prove [--depth=N] [--budget=N] RULES PROBLEM | rules | types RULES | gen N"
stop_text (ReadFault file) = codes "read fault " ++ file_word file
stop_text (TooLong file) = codes "too long " ++ file_word file
stop_text (Refused file place reason) =
    codes "refused " ++ file_word file ++ codes " " ++ decimal place.line ++ codes ":" ++ decimal place.column ++ codes " " ++ base.reason_word reason
stop_text Memory = codes "out of memory"

abbrev pub stop_status : Stop → Status
stop_status BadWords = status.BadWords
stop_status (ReadFault file) = status.ReadFault
stop_status (TooLong file) = status.TooLong
stop_status (Refused file place reason) = status.BadText
stop_status Memory = status.Memory

abbrev pub stop_line : Stop → List ℕ
stop_line stop = line (stop_text stop)

abbrev pub stop_outcome : Stop → Outcome
stop_outcome stop = record { text = stop_line stop; status = stop_status stop }

-- ---- a report

abbrev pub verdict_text : Verdict → List ℕ
verdict_text Valid = codes " valid"
verdict_text Missing = codes " open"

abbrev pub is_valid : Verdict → Bool
is_valid Valid = true
is_valid Missing = false

-- the line of a rewrite, by its name and the verdict on it
abbrev pub rewrite_line : List ℕ × Verdict → List ℕ
rewrite_line r = line (written_symbol r.0 ++ verdict_text r.1)

-- the line of a command that is not valid, by its name and the condition that fails
abbrev pub invalid_line : List ℕ → StepFault → List ℕ
invalid_line name fault = line (codes "invalid " ++ written_symbol name ++ codes " " ++ fault_text fault)

-- the line of the trusted rule of this number, by the names of the rules of a book
abbrev pub trust_line : List (List ℕ) → ℕ → List ℕ
trust_line rules k = line (codes "trusts " ++ written_symbol (get_or rules k []))

-- the lines of a report, over the names of the rewrites and of the rules
abbrev pub report_lines : (names rules : List (List ℕ)) → Report → List ℕ
report_lines names rules (Checked verdicts trusted) = flat_map rewrite_line (zip names verdicts) ++ flat_map (trust_line rules) trusted
report_lines names rules (Invalid name fault) = invalid_line name fault

abbrev pub rewrite_names : StatedProblem → List (List ℕ)
rewrite_names p = map (λ r. r.name) p.rewrites

abbrev pub report_text : List BookRule → StatedProblem → Report → List ℕ
report_text book p report = report_lines (rewrite_names p) (rule_names book) report

abbrev pub report_status : Report → Status
report_status (Checked verdicts trusted) = if list_all is_valid verdicts then status.AllGood else status.NotAll
report_status (Invalid name fault) = status.NotAll

abbrev pub report_outcome : List BookRule → StatedProblem → Report → Outcome
report_outcome book p report = record { text = report_text book p report; status = report_status report }

-- ---- rules with their constraints

-- a constraint behind a blank
abbrev pub spaced_constraint : List Param → Constraint → List ℕ
spaced_constraint ps c = codes " " ++ constraint_text ps c

-- the line of a rule: its name, then its constraints
abbrev pub rule_line : TypedRule → List ℕ
rule_line t = line (written_symbol t.rule.name ++ flat_map (spaced_constraint t.rule.params) t.constraints)

abbrev pub types_text : List BookRule → List ℕ
types_text bs = flat_map (λ b. rule_line b.typed) bs

abbrev pub types_outcome : List BookRule → Outcome
types_outcome bs = record { text = types_text bs; status = status.AllGood }

-- ---- the outcome of the texts of files: the first refusal, or else the answer

abbrev pub unless_long : File → List ℕ → Outcome → Outcome
unless_long file text rest = if nat_lt most_file_bytes (length text) then stop_outcome (TooLong file) else rest

abbrev pub unless_file_refused : {A : Type 0} → File → Result A Refusal → (A → Outcome) → Outcome
unless_file_refused file (Ok x) rest = rest x
unless_file_refused file (Err r) rest = stop_outcome (Refused file r.place r.reason)

-- what follows the rules of a text, or the empty book where no file is named
abbrev pub with_rules : Option (List ℕ) → (List BookRule → Outcome) → Outcome
with_rules None rest = rest []
with_rules (Some rules) rest = unless_long Rules rules (unless_file_refused Rules (rules_of rules) rest)

abbrev pub outcome_of : (rules : Option (List ℕ)) → (problem proof : List ℕ) → Outcome
outcome_of rules problem proof =
    with_rules rules (λ book.
    unless_long Problem problem (unless_file_refused Problem (problem_of problem) (λ p.
    unless_long Proof proof (unless_file_refused Proof (checked book p proof) (report_outcome book p)))))

abbrev pub outcome_of_rules : Option (List ℕ) → Outcome
outcome_of_rules rules = with_rules rules types_outcome
