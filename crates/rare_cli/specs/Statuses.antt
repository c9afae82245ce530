-- What the status of a run says of its files, its words and what was written.
use Rattle.std.specs.Prelude.{◌≡◌, ◌≢◌, ◌⊎◌, ℕ, List, [], slice_get, Option, Some, None}
use Rattle.rare_base.specs.declared.answers.Status.{Status}
use Rattle.rare_base.specs.declared.answers.Status.TheVariants as status
use Rattle.rare_base.specs.declared.answers.Place.{Place}
use Rattle.rare_base.specs.declared.answers.Reason.{Reason}
use Rattle.rare_base.specs.Answers.{number_of}
use Rattle.rare_base.specs.Outside.{grown}
use Rattle.rare_meaning.specs.Interpretations.{FunctionClass, AnyFunctions}
use Rattle.rare_meaning.specs.TrueRewrite.{IsTrueRewrite}
use Rattle.rare_check.specs.declared.report.Report.{Report}
use Rattle.rare_check.specs.declared.report.Report.TheVariants.{Checked, Invalid}
use Rattle.rare_rule.specs.Books.{BookRule}
use Rattle.rare_text.specs.Problems.{StatedProblem, StatedRewrite}
use Rattle.rare_check.specs.Verdicts.{TrustedHold}
use Rattle.rare_cli.specs.Calls.{Files, IsQuiet, Written, Takes, Cuts}
use Rattle.rare_cli.specs.WordForms.{FilesOfCheck, Form, check, types, asked_by}
use Rattle.rare_cli.specs.Outcomes.{Outcome, outcome_of, outcome_of_rules, stop_line, report_text, report_status, types_text}
use Rattle.rare_cli.specs.declared.outcome.File.{File}
use Rattle.rare_cli.specs.declared.outcome.Stop.{Stop}
use Rattle.rare_cli.specs.declared.outcome.Stop.TheVariants.{BadWords, ReadFault, TooLong, Refused, Memory}
use Rattle.rare_cli.specs.Causes.{Allowed, HasStopCause, IsReport, AreRules}

-- the words are a form, the run stopped by this cause, and its line was written
pub record StopsBy (files : Files) (words : List (List ℕ)) (out : Written) (stop : Stop) : Type 0 where
  pub asked : Form
  pub form : asked_by words ≡ Some asked
  pub cause : HasStopCause files asked stop
  pub written : Takes out (stop_line stop)

-- the words are a form, and the report with this status was written
pub record Reports (files : Files) (words : List (List ℕ)) (out : Written) (result : Status) : Type 0 where
  pub names : FilesOfCheck
  pub form : asked_by words ≡ Some (check names)
  pub book : List BookRule
  pub problem : StatedProblem
  pub report : Report
  pub holds : IsReport files names book problem report
  pub status : result ≡ report_status report
  pub written : Takes out (report_text book problem report)

-- each rewrite that a problem states is true, by the functions of the class
abbrev pub AllAreTrue : FunctionClass → StatedProblem → Type 0
AllAreTrue c p = (k : ℕ) (r : StatedRewrite) → slice_get p.rewrites k ≡ Some r → IsTrueRewrite c p.declared r.left r.right

abbrev pub TrustsNone : Report → Type 0
TrustsNone (Checked verdicts trusted) = trusted ≡ []
TrustsNone (Invalid name fault) = ⊥

-- The main statement of status 0: a report was written that calls each rewrite valid. Where each rule that it trusts holds, each rewrite
-- is true: by finite maps where the rules hold by these, by all functions where the rules do. Where it trusts none, each is true by all
-- functions.
pub record Proves (files : Files) (words : List (List ℕ)) (out : Written) : Type 0 where
  pub reports : Reports files words out status.AllGood
  pub all_true : (c : FunctionClass) → TrustedHold c reports.book reports.report → AllAreTrue c reports.problem
  pub untrusting : TrustsNone reports.report → AllAreTrue AnyFunctions reports.problem

-- the words ask for the rules of a file, and the list of all of them was written
pub record ListsTypes (files : Files) (words : List (List ℕ)) (out : Written) : Type 0 where
  pub rules : Option (List ℕ)
  pub form : asked_by words ≡ Some (types rules)
  pub list : List BookRule
  pub quiet : IsQuiet files
  pub are : AreRules files rules list
  pub written : Takes out (types_text list)

-- the table of statuses: what each says of these files, these words and this sink
abbrev pub Says : Files → List (List ℕ) → Written → Status → Type 0
Says files words out status.AllGood = Proves files words out ⊎ ListsTypes files words out
Says files words out status.NotAll = Reports files words out status.NotAll
Says files words out status.BadWords = (asked_by words ≡ None) × Takes out (stop_line BadWords)
Says files words out status.BadText = (file : File) × (place : Place) × (reason : Reason) × StopsBy files words out (Refused file place reason)
Says files words out status.ReadFault = (file : File) × StopsBy files words out (ReadFault file)
Says files words out status.WriteFault = (o : Outcome) × Allowed files words o × Cuts out o.text
Says files words out status.Memory = StopsBy files words out Memory
Says files words out status.TooLong = (file : File) × StopsBy files words out (TooLong file)

-- words that are no form are bad words, unless a put failed
abbrev pub RefusesWords : List (List ℕ) → Written → Status → Type 0
RefusesWords words out result = asked_by words ≡ None → out.after ≡ out.before → result ≡ status.BadWords

-- the text of the file of rules, where it is told, and none where no file is named
abbrev pub IsToldRules : Files → Option (List ℕ) → Option (List ℕ) → Type 0
IsToldRules files None text = text ≡ None
IsToldRules files (Some name) text = (rules : List ℕ) × (files.told name ≡ Some rules) × (text ≡ Some rules)

-- the outcome of the texts of the files, where they are told
abbrev pub IsToldOutcome : Files → Form → Outcome → Type 0
IsToldOutcome files (check names) o =
    (rules : Option (List ℕ)) × (problem proof : List ℕ) × IsToldRules files names.rules rules × (files.told names.problem ≡ Some problem)
    × (files.told names.proof ≡ Some proof) × (o ≡ outcome_of rules problem proof)
IsToldOutcome files (types name) o = (rules : Option (List ℕ)) × IsToldRules files name rules × (o ≡ outcome_of_rules rules)

-- a run over texts that are told, where no read and no put failed and memory was found: exactly the outcome of the texts
abbrev pub AnswersTexts : Files → List (List ℕ) → Written → Status → Type 0
AnswersTexts files words out result =
    (form : Form) (o : Outcome) → asked_by words ≡ Some form → IsToldOutcome files form o →
    IsQuiet files → out.after ≡ out.before → (result ≢ status.Memory) →
    (result ≡ o.status) × (out.now ≡ grown out.was o.text)

-- the program ends with the number of a status of which all this holds
pub record EndsWith (files : Files) (words : List (List ℕ)) (out : Written) (code : ℕ) : Type 0 where
  pub status : Status
  pub says : Says files words out status
  pub bad_words : RefusesWords words out status
  pub told : AnswersTexts files words out status
  pub number : code ≡ number_of status
