-- Why a run writes what it writes, also over a library that does not tell the texts of its files.
use Rattle.std.specs.Prelude.{◌≡◌, ℕ, ◌<◌, ◌≤◌, List, [], length, Option, Some, None, Result, Ok, Err}
use Rattle.rare_base.specs.Answers.{Refusal}
use Rattle.rare_base.specs.Outside.{Rose}
use Rattle.rare_base.specs.Reads.{most_file_bytes}
use Rattle.rare_check.specs.declared.report.Report.{Report}
use Rattle.rare_book.specs.RuleFile.{rules_of}
use Rattle.rare_rule.specs.Books.{BookRule}
use Rattle.rare_text.specs.ProblemText.{problem_of}
use Rattle.rare_text.specs.Problems.{StatedProblem}
use Rattle.rare_text.specs.Samples.{AreSamples}
use Rattle.rare_check.specs.Verdicts.{checked, IsSound}
use Rattle.rare_cli.specs.Calls.{Files, IsQuiet, Tells}
use Rattle.rare_cli.specs.WordForms.{FilesOfCheck, Form, check, types, name_in, asked_by}
use Rattle.rare_cli.specs.Outcomes.{Outcome, stop_outcome, report_outcome, types_outcome}
use Rattle.rare_cli.specs.declared.outcome.File.{File}
use Rattle.rare_cli.specs.declared.outcome.File.TheVariants.{Rules, Problem, Proof}
use Rattle.rare_cli.specs.declared.outcome.Stop.{Stop}
use Rattle.rare_cli.specs.declared.outcome.Stop.TheVariants.{BadWords, ReadFault, TooLong, Refused, Memory}

-- a text that a file may have, and that is not too long, is read as this
pub record IsReadAs {A : Type 0} (told : Option (List ℕ)) (read : List ℕ → Result A Refusal) (as_this : Result A Refusal) : Type 0 where
  pub text : List ℕ
  pub held : Tells told text
  pub short : length text ≤ most_file_bytes
  pub reads : read text ≡ as_this

-- a text that a file may have is too long
pub record IsTooLong (told : Option (List ℕ)) : Type 0 where
  pub text : List ℕ
  pub held : Tells told text
  pub long : most_file_bytes < length text

abbrev pub IsProblem : Files → FilesOfCheck → StatedProblem → Type 0
IsProblem files names p = IsReadAs (files.told names.problem) problem_of (Ok p)

-- the rules of the file, or none where no file is named
abbrev pub AreRules : Files → Option (List ℕ) → List BookRule → Type 0
AreRules files None bs = bs ≡ []
AreRules files (Some name) bs = IsReadAs (files.told name) rules_of (Ok bs)

abbrev pub HaveRules : Files → Option (List ℕ) → Type 0
HaveRules files rules = (bs : List BookRule) × AreRules files rules bs

-- each file before this one has a reading
abbrev pub HaveReadings : Files → Form → File → Type 0
HaveReadings files (check names) Problem = HaveRules files names.rules
HaveReadings files (check names) Proof = HaveRules files names.rules × ((p : StatedProblem) × IsProblem files names p)
HaveReadings files form file = Unit {0}

-- a read of the file of this name failed
abbrev pub IsUnread : Files → Option (List ℕ) → Type 0
IsUnread files None = ⊥
IsUnread files (Some name) = Rose (files.before name) (files.after name)

-- the file of this name is too long
abbrev pub IsLongFile : Files → Option (List ℕ) → Type 0
IsLongFile files None = ⊥
IsLongFile files (Some name) = IsTooLong (files.told name)

-- the text of the file of rules of this name has this fault
abbrev pub AreRefusedRules : Files → Option (List ℕ) → Refusal → Type 0
AreRefusedRules files None r = ⊥
AreRefusedRules files (Some name) r = IsReadAs (files.told name) rules_of (Err r)

-- the text of the proof has this fault, by the rules and for the problem of the files before it
pub record IsRefusedProof (files : Files) (names : FilesOfCheck) (r : Refusal) : Type 0 where
  pub book : List BookRule
  pub rules : AreRules files names.rules book
  pub problem : StatedProblem
  pub is : IsProblem files names problem
  pub proof : IsReadAs (files.told names.proof) (checked book problem) (Err r)

-- the text of the file has this fault, and each file before it has a reading
abbrev pub IsRefusedFile : Files → Form → File → Refusal → Type 0
IsRefusedFile files (check names) Rules r = AreRefusedRules files names.rules r
IsRefusedFile files (check names) Problem r = HaveRules files names.rules × IsReadAs (files.told names.problem) problem_of (Err r)
IsRefusedFile files (check names) Proof r = IsRefusedProof files names r
IsRefusedFile files (types rules) Rules r = AreRefusedRules files rules r
IsRefusedFile files form file r = ⊥

-- why a run over these files stops
abbrev pub HasStopCause : Files → Form → Stop → Type 0
HasStopCause files form BadWords = ⊥
HasStopCause files form (ReadFault file) = IsUnread files (name_in form file) × HaveReadings files form file
HasStopCause files form (TooLong file) = IsQuiet files × IsLongFile files (name_in form file) × HaveReadings files form file
HasStopCause files form (Refused file place reason) = IsQuiet files × IsRefusedFile files form file (record { place = place; reason = reason })
HasStopCause files form Memory = Unit {0}

-- the report on the proof that the files hold; the samples of the problem are an allowed valuation, and where the rules that the report
-- trusts hold, each rewrite that it calls valid is true
pub record IsReport (files : Files) (names : FilesOfCheck) (book : List BookRule) (p : StatedProblem) (report : Report) : Type 0 where
  pub quiet : IsQuiet files
  pub rules : AreRules files names.rules book
  pub problem : IsProblem files names p
  pub samples : AreSamples p.declared p.samples
  pub proof : IsReadAs (files.told names.proof) (checked book p) (Ok report)
  pub sound : IsSound book p report

-- what a run may mean to write, and why
pub data Allowed (files : Files) (words : List (List ℕ)) (o : Outcome) : Type 0 where
  bad_words : asked_by words ≡ None → o ≡ stop_outcome BadWords → Allowed files words o
  stopped : (form : Form) → asked_by words ≡ Some form → (stop : Stop) → HasStopCause files form stop → o ≡ stop_outcome stop → Allowed files words o
  answered :
      (names : FilesOfCheck) → asked_by words ≡ Some (check names) → (book : List BookRule) (p : StatedProblem) (report : Report) →
      IsReport files names book p report → o ≡ report_outcome book p report → Allowed files words o
  listed : (rules : Option (List ℕ)) → asked_by words ≡ Some (types rules) → (bs : List BookRule) → IsQuiet files → AreRules files rules bs → o ≡ types_outcome bs → Allowed files words o
