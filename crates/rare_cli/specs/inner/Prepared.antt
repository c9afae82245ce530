-- What the parts of a run give to the next.
use Rattle.std.specs.Prelude.{◌≡◌, ℕ, ◌<◌, ◌≤◌, ◌⊎◌, All, List, length, Option, Some, None, Result, Ok, Err}
use Rattle.std.specs.Borrow.{Bor}
use Rattle.rare_base.specs.declared.outside.ReadError.{ReadError}
use Rattle.rare_base.specs.declared.outside.ReadError.TheVariants as read
use Rattle.rare_base.specs.declared.answers.Fault.{Fault}
use Rattle.rare_base.specs.declared.answers.Fault.TheVariants as fault
use Rattle.rare_base.specs.declared.answers.Status.{Status}
use Rattle.rare_base.specs.declared.answers.Status.TheVariants as status
use Rattle.rare_base.specs.Outside.{Rose}
use Rattle.rare_base.specs.Reads.{Read, ReadToEnd, most_file_bytes}
use Rattle.rare_check.specs.declared.report.Report.{Report}
use Rattle.rare_check.specs.declared.report.Report.TheVariants.{Checked, Invalid}
use Rattle.rare_term.specs.State.{State}
use Rattle.rare_text.specs.declared.problem.Problem.{Problem}
use Rattle.rare_book.specs.RuleFile.{rules_of}
use Rattle.rare_rule.specs.Books.{BookRule}
use Rattle.rare_text.specs.ProblemText.{problem_of}
use Rattle.rare_text.specs.Problems.{StatedProblem}
use Rattle.rare_text.specs.Samples.{AreSamples}
use Rattle.rare_text.specs.Stated.{stated_problem}
use Rattle.rare_check.specs.Verdicts.{checked, IsSound}
use Rattle.rare_cli.specs.WordForms.{FilesOfCheck, Form, check, types}
use Rattle.rare_cli.specs.Outcomes.{Outcome, stop_outcome, report_outcome, types_outcome}
use Rattle.rare_cli.specs.Calls.{Files, IsQuiet, Tells, Written, Takes, Cuts}
use Rattle.rare_cli.specs.Causes.{IsTooLong, IsReadAs, HasStopCause, IsReport, AreRules}
use Rattle.rare_cli.specs.declared.outcome.File.{File}
use Rattle.rare_cli.specs.declared.outcome.File.TheVariants as file
use Rattle.rare_cli.specs.declared.outcome.Stop.{Stop}
use Rattle.rare_cli.specs.declared.outcome.Stop.TheVariants.{BadWords, ReadFault, TooLong, Refused, Memory}
use Rattle.rare_cli.specs.declared.outcome.Answer.{Answer}
use Rattle.rare_cli.specs.declared.outcome.FileNames.{FileNames}
use Rattle.rare_cli.specs.declared.outcome.Form.{Form as AskedForm}
use Rattle.rare_cli.specs.declared.outcome.Form.TheVariants as asked

abbrev pub stop_of_read : File → ReadError → Stop
stop_of_read file read.Failed = ReadFault file
stop_of_read file read.TooLong = TooLong file
stop_of_read file read.Memory = Memory

abbrev pub stop_of_fault : File → Fault → Stop
stop_of_fault file (fault.Refused place reason) = Refused file place reason
stop_of_fault file fault.Memory = Memory

-- the name of a file of rules, as the code holds it
abbrev pub name_held : Option (Bor (List ℕ)) → Option (List ℕ)
name_held None = None
name_held (Some name) = Some name.now

-- the names of the files of a check, as the code holds them
abbrev pub names_asked : FileNames → FilesOfCheck
names_asked names = record { rules = name_held names.rules; problem = names.problem.now; proof = names.proof.now }

-- what the words ask for, as the code holds it
abbrev pub form_asked : AskedForm → Form
form_asked (asked.Check names) = check (names_asked names)
form_asked (asked.Types rules) = types (name_held rules)

abbrev pub answer_outcome : Answer → Outcome
answer_outcome a = record { text = a.text; status = a.status }

-- the outcome that is meant
abbrev pub outcome_in : Result Answer Stop → Outcome
outcome_in (Ok a) = answer_outcome a
outcome_in (Err stop) = stop_outcome stop

-- what is written where a run stops: a line that must be made may want memory
abbrev pub Becomes : Stop → Outcome → Type 0
Becomes (Refused file place reason) o = (o ≡ stop_outcome (Refused file place reason)) ⊎ (o ≡ stop_outcome Memory)
Becomes BadWords o = o ≡ stop_outcome BadWords
Becomes (ReadFault file) o = o ≡ stop_outcome (ReadFault file)
Becomes (TooLong file) o = o ≡ stop_outcome (TooLong file)
Becomes Memory o = o ≡ stop_outcome Memory

-- the text of a file, or why it can't be read
abbrev pub IsTextOf : Files → List ℕ → File → Result (List ℕ) Stop → Type 0
IsTextOf files name file (Ok text) = IsQuiet files × Tells (files.told name) text × (length text ≤ most_file_bytes)
IsTextOf files name file (Err BadWords) = ⊥
IsTextOf files name file (Err (ReadFault other)) = (other ≡ file) × Rose (files.before name) (files.after name)
IsTextOf files name file (Err (TooLong other)) = (other ≡ file) × IsQuiet files × IsTooLong (files.told name)
IsTextOf files name file (Err (Refused other place reason)) = ⊥
IsTextOf files name file (Err Memory) = Unit {0}

-- the problem of a file, by its terms, or why there is none
abbrev pub IsProblemOf : Files → List ℕ → State → Result Problem Stop → Type 0
IsProblemOf files name s (Ok p) =
    IsQuiet files × IsReadAs (files.told name) problem_of (Ok (stated_problem s p)) × AreSamples s.declared p.samples
IsProblemOf files name s (Err BadWords) = ⊥
IsProblemOf files name s (Err (ReadFault other)) = (other ≡ file.Problem) × Rose (files.before name) (files.after name)
IsProblemOf files name s (Err (TooLong other)) = (other ≡ file.Problem) × IsQuiet files × IsTooLong (files.told name)
IsProblemOf files name s (Err (Refused other place reason)) =
    (other ≡ file.Problem) × IsQuiet files × IsReadAs (files.told name) problem_of (Err (record { place = place; reason = reason }))
IsProblemOf files name s (Err Memory) = Unit {0}

-- the rules that the report trusts are among so many
abbrev pub TrustsAmong : ℕ → Report → Type 0
TrustsAmong n (Checked verdicts trusted) = All (λ k. k < n) trusted
TrustsAmong n (Invalid name fault) = Unit {0}

-- the report on a proof of a problem by the rules of a book, or why there is none
abbrev pub IsReportOn : List BookRule → StatedProblem → List ℕ → Result Report Stop → Type 0
IsReportOn book p proof (Ok report) = (checked book p proof ≡ Ok report) × IsSound book p report
IsReportOn book p proof (Err BadWords) = ⊥
IsReportOn book p proof (Err (ReadFault other)) = ⊥
IsReportOn book p proof (Err (TooLong other)) = ⊥
IsReportOn book p proof (Err (Refused other place reason)) =
    (other ≡ file.Proof) × (checked book p proof ≡ Err (record { place = place; reason = reason }))
IsReportOn book p proof (Err Memory) = Unit {0}

-- the answer on a proof of a problem, or why there is none
abbrev pub IsAnswerOn : List BookRule → StatedProblem → List ℕ → Result Answer Stop → Type 0
IsAnswerOn book p proof (Ok a) =
    (report : Report) × IsReportOn book p proof (Ok report) × (answer_outcome a ≡ report_outcome book p report)
IsAnswerOn book p proof (Err stop) = IsReportOn book p proof (Err stop)

-- the answer over these files, or why there is none
abbrev pub IsChecked : Files → FilesOfCheck → Result Answer Stop → Type 0
IsChecked files names (Ok a) =
    (book : List BookRule) × (p : StatedProblem) × (report : Report) × IsReport files names book p report
    × (answer_outcome a ≡ report_outcome book p report)
IsChecked files names (Err stop) = HasStopCause files (check names) stop

-- the rules of a text, or why there are none
abbrev pub AreRulesOf : List ℕ → Result (List BookRule) Stop → Type 0
AreRulesOf text (Ok bs) = rules_of text ≡ Ok bs
AreRulesOf text (Err BadWords) = ⊥
AreRulesOf text (Err (ReadFault other)) = ⊥
AreRulesOf text (Err (TooLong other)) = ⊥
AreRulesOf text (Err (Refused other place reason)) = (other ≡ file.Rules) × (rules_of text ≡ Err (record { place = place; reason = reason }))
AreRulesOf text (Err Memory) = Unit {0}

-- the book of the rules of a file, of which none is shipped, or why there is none
abbrev pub IsBookOf : Files → Option (List ℕ) → Result (List BookRule) Stop → Type 0
IsBookOf files rules (Ok bs) = IsQuiet files × AreRules files rules bs
IsBookOf files rules (Err stop) = HasStopCause files (types rules) stop

-- the list of the rules of a file, or why there is none
abbrev pub IsListed : Files → Option (List ℕ) → Result Answer Stop → Type 0
IsListed files rules (Ok a) = (bs : List BookRule) × IsQuiet files × AreRules files rules bs × (answer_outcome a ≡ types_outcome bs)
IsListed files rules (Err stop) = HasStopCause files (types rules) stop

-- the sink took the whole outcome, or a put failed
pub data Delivers (o : Outcome) (result : Status) (out : Written) : Type 0 where
  whole : result ≡ o.status → Takes out o.text → Delivers o result out
  cut : result ≡ status.WriteFault → Cuts out o.text → Delivers o result out

-- the reads of a call are of this file, up to its end; there are none where no file is named
abbrev pub AreReadTo : Option (List Read) → Option (List Read) → Option (List ℕ) → Type 0
AreReadTo before after None = after ≡ before
AreReadTo before after (Some name) = ReadToEnd before after name
