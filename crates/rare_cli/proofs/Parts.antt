-- What a check comes to, from what the parts of it come to.
use Rattle.std.proofs.Common.{◌≡◌, ℕ, ◌≤◌, List, Option, Some, None, Result, Ok, Err, refl, sym, ◌∙◌, subst, arith}
use Rattle.rare_base.specs.Outside.{Rose}
use Rattle.rare_rule.specs.Books.{BookRule}
use Rattle.rare_term.specs.State.{State}
use Rattle.rare_text.specs.declared.problem.Problem.{Problem}
use Rattle.rare_text.specs.Stated.{stated_problem}
use Rattle.rare_cli.specs.declared.outcome.Answer.{Answer}
use Rattle.rare_cli.specs.declared.outcome.File.{File}
use Rattle.rare_cli.specs.declared.outcome.File.TheVariants.{Proof}
use Rattle.rare_cli.specs.declared.outcome.Stop.{Stop}
use Rattle.rare_cli.specs.declared.outcome.Stop.TheVariants.{BadWords, ReadFault, TooLong, Refused, Memory}
use Rattle.rare_cli.specs.WordForms.{FilesOfCheck, check}
use Rattle.rare_cli.specs.Calls.{Files, IsQuiet}
use Rattle.rare_cli.specs.Causes.{IsTooLong, HasStopCause, HaveReadings, IsProblem, AreRules}
use Rattle.rare_cli.specs.inner.Prepared.{IsTextOf, IsProblemOf, IsBookOf, IsAnswerOn, IsChecked}

-- rules are of the texts alone
are_rules : (files others : Files) (rules : Option (List ℕ)) (bs : List BookRule) → ((w : List ℕ) → others.told w ≡ files.told w) → AreRules files rules bs → AreRules others rules bs
are_rules files others None bs same h = h
are_rules files others (Some name) bs same h = rw (same name) h

rose_earlier : (a b c : ℕ) → a ≤ b → Rose b c → Rose a c
rose_earlier a b c le rose = omega arith

-- a library in three calls behind one another, for the rules, the problem and the proof
module _ (told told' told'' : List ℕ → Option (List ℕ)) (start behind_rules behind_problem end : List ℕ → ℕ)
    (same : (w : List ℕ) → told' w ≡ told w) (same' : (w : List ℕ) → told'' w ≡ told w) (later : (w : List ℕ) → start w ≤ behind_problem w) where
  abbrev first : Files
  first = record { told = told; before = start; after = behind_rules }

  abbrev second : Files
  second = record { told = told'; before = behind_rules; after = behind_problem }

  abbrev third : Files
  third = record { told = told''; before = behind_problem; after = end }

  abbrev all : Files
  all = record { told = told; before = start; after = end }

  module _ (names : FilesOfCheck) (bs : List BookRule) (book : IsBookOf first names.rules (Ok bs)) (s : State) (p : Problem) (problem : IsProblemOf second names.problem s (Ok p)) where
    quiet_all : IsQuiet third → IsQuiet all
    quiet_all quiet w = quiet w ∙ (problem.0 w ∙ book.0 w)

    rules_all : AreRules all names.rules bs
    rules_all = are_rules first all names.rules bs (λ w. refl) book.1

    problem_all : IsProblem all names (stated_problem s p)
    problem_all = rw (same names.problem) at problem.1

    readings : HaveReadings all (check names) Proof
    readings = ((bs, rules_all), (stated_problem s p, problem_all))

    pub proof_stop : (stop : Stop) → IsTextOf third names.proof Proof (Err stop) → HasStopCause all (check names) stop
    proof_stop BadWords h = h
    proof_stop (ReadFault other) h =
        let P : File → Type 0 = λ f. HasStopCause all (check names) (ReadFault f) in
        subst P (sym h.0) (rose_earlier (start names.proof) (behind_problem names.proof) (end names.proof) (later names.proof) h.1, readings)
    proof_stop (TooLong other) h =
        let P : File → Type 0 = λ f. HasStopCause all (check names) (TooLong f) in
        let long : IsTooLong (told names.proof) = subst IsTooLong (same' names.proof) h.2 in
        subst P (sym h.0) (quiet_all h.1, long, readings)
    proof_stop (Refused other place reason) h = absurd h
    proof_stop Memory h = tt

    answered_by : (text : List ℕ) (result : Result Answer Stop) → IsTextOf third names.proof Proof (Ok text) → IsAnswerOn bs (stated_problem s p) text result →
        IsChecked all names result
    answered_by text (Ok a) read h = (
      bs,
      stated_problem s p,
      h.0,
      record {
        quiet = quiet_all read.0;
        rules = rules_all;
        problem = problem_all;
        samples = problem.2;
        proof = record { text = text; held = rw (same' names.proof) at read.1; short = read.2; reads = h.1.0 };
        sound = h.1.1;
      },
      h.2,
    )
    answered_by text (Err BadWords) read h = h
    answered_by text (Err (ReadFault other)) read h = absurd h
    answered_by text (Err (TooLong other)) read h = absurd h
    answered_by text (Err (Refused other place reason)) read h =
        let P : File → Type 0 = λ f. HasStopCause all (check names) (Refused f place reason) in
        subst P (sym h.0) (
          quiet_all read.0,
          record {
            book = bs;
            rules = rules_all;
            problem = stated_problem s p;
            is = problem_all;
            proof = record { text = text; held = rw (same' names.proof) at read.1; short = read.2; reads = h.1 };
          },
        )
    answered_by text (Err Memory) read h = tt

    pub checked_by : (text bytes : List ℕ) (result : Result Answer Stop) → bytes ≡ text → IsTextOf third names.proof Proof (Ok text) → IsAnswerOn bs (stated_problem s p) bytes result →
        IsChecked all names result
    checked_by text bytes result same_text read h = answered_by text result read (subst (λ (t : List ℕ). IsAnswerOn bs (stated_problem s p) t result) same_text h)
