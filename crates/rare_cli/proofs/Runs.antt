-- What the parts of a run say of the whole.
use Rattle.std.proofs.lemmas.List.{length-replicate}
use Rattle.std.proofs.lemmas.List.Elements.{All-nil, All-cons}
use Rattle.std.specs.List.{list_any}
use Rattle.std.proofs.Common.{◌≡◌, ◌≢◌, ℕ, suc, ◌+◌, ◌≤◌, ◌&&◌, not, Bool, true, false, All, if◌then◌else◌, [], ◌∷◌, map, replicate, IfSome, IsErrOf, arith, ◌^◌, ◌<◌, List, length, Option, Some, None, Result, Ok, Err, refl, sym, ◌∙◌, ap, subst, inl, inr}
use Rattle.rare_base.specs.declared.answers.Status.TheVariants as status
use Rattle.rare_base.specs.Outside.{Rose}
use Rattle.rare_base.specs.declared.outside.ReadError.{ReadError}
use Rattle.rare_base.specs.declared.outside.ReadError.TheVariants as read
use Rattle.rare_check.specs.Checking.{Checking, start, answer}
use Rattle.rare_base.specs.Answers.{Refusal}
use Rattle.rare_rule.specs.Books.{BookRule, rule_names}
use Rattle.rare_proof_text.specs.ProofText.{proof_of}
use Rattle.rare_proof_text.specs.ProofCommands.{ProofCommand}
use Rattle.rare_check.specs.declared.report.Verdict.{Verdict}
use Rattle.rare_check.specs.Verdicts.{Bad, IsSound, checked, first_bad, names_rule, on_proof, report_by, report_of, trusted_by, trusted_of}
use Rattle.rare_term.specs.State.{State}
use Rattle.rare_text.specs.declared.problem.Rewrite.{Rewrite}
use Rattle.rare_text.specs.declared.problem.Problem.{Problem}
use Rattle.rare_text.specs.Stated.{stated_problem, stated_rewrite}
use Rattle.rare_check.specs.declared.report.Report.{Report}
use Rattle.rare_text.specs.Problems.{StatedProblem}
use Rattle.rare_sort.specs.declared.tree.Tree.{Tree}
use Rattle.rare_cli.specs.declared.outcome.File.{File}
use Rattle.rare_cli.specs.declared.outcome.Stop.{Stop}
use Rattle.rare_cli.specs.declared.outcome.Stop.TheVariants.{BadWords, ReadFault, TooLong, Refused, Memory}
use Rattle.rare_cli.specs.declared.outcome.Answer.{Answer}
use Rattle.rare_cli.specs.WordForms.{FilesOfCheck, check, types, asked_by}
use Rattle.rare_cli.specs.Outcomes.{Outcome, stop_outcome, report_lines, report_text, report_status, report_outcome}
use Rattle.rare_cli.specs.Calls.{Files, IsQuiet, Tells}
use Rattle.rare_cli.specs.Causes.{IsTooLong, Allowed, bad_words, stopped, answered, listed}
use Rattle.rare_cli.specs.inner.Prepared.{TrustsAmong, answer_outcome, Becomes, IsTextOf, IsChecked, IsListed, outcome_in, stop_of_read}

-- a text under a name, whether it is told or not
some_long : (told : Option (List ℕ)) (n : ℕ) → IfSome told (λ all. n < length all) → (text : List ℕ) × Tells told text × (n < length text)
some_long None n long = (replicate (n + 1) 0, tt, omega (arith, length-replicate {A = ℕ} (n + 1) 0))
some_long (Some all) n long = (all, refl, long)

is_long : (told : Option (List ℕ)) → IfSome told (λ all. 2 ^ 28 < length all) → IsTooLong told
is_long told long = let t = some_long told (2 ^ 28) long in record { text = t.0; held = t.1; long = t.2 }

-- a file that can't be read whole
pub unread : (files : Files) (name : List ℕ) (f : File) (e : ReadError) (stop : Stop) → stop ≡ stop_of_read f e →
    (IsErrOf {T = List ℕ} (Err e) read.Failed → Rose (files.before name) (files.after name)) →
    (IsErrOf {T = List ℕ} (Err e) read.TooLong → IfSome (files.told name) (λ all. 2 ^ 28 < length all)) →
    (◌≢◌ {A = Result (List ℕ) ReadError} (Err e) (Err read.Failed) → IsQuiet files) → IsTextOf files name f (Err stop)
unread files name f e stop is failed long quiet = let P : Stop → Type 0 = λ s. IsTextOf files name f (Err s) in subst P (sym is) (by e failed long quiet)
  where
    by : (e : ReadError) → (IsErrOf {T = List ℕ} (Err e) read.Failed → Rose (files.before name) (files.after name)) →
        (IsErrOf {T = List ℕ} (Err e) read.TooLong → IfSome (files.told name) (λ all. 2 ^ 28 < length all)) →
        (◌≢◌ {A = Result (List ℕ) ReadError} (Err e) (Err read.Failed) → IsQuiet files) → IsTextOf files name f (Err (stop_of_read f e))
    by read.Failed failed long quiet = (refl, failed refl)
    by read.TooLong failed long quiet = (refl, quiet (λ x. cc), is_long _ (long refl))
    by read.Memory failed long quiet = tt

-- the report of a new checker
pub report_started : (c : Checking) (book : List BookRule) (p : StatedProblem) (proof : List ℕ) (report : Report) → c ≡ start book p → answer c proof ≡ checked book p proof → answer c proof ≡ Ok report →
    IsSound c.book c.problem report → (checked book p proof ≡ Ok report) × IsSound book p report
report_started c book p proof report new whole is sound =
    let P : Checking → Type 0 = λ c. IsSound c.book c.problem report in
    (sym whole ∙ is, subst P new sound)

-- what is written of a problem speaks of the names of its rewrites alone
names_stated : (ts : List Tree) (rewrites : List Rewrite) → map (λ r. r.name) (map (stated_rewrite ts) rewrites) ≡ map (λ r. r.name) rewrites
names_stated ts [] = refl
names_stated ts (r ∷ rs) = ap (λ names. r.name ∷ names) (names_stated ts rs)

pub answer_of_report : (s : State) (book : List BookRule) (p : Problem) (names rules : List (List ℕ)) (a : Answer) (report : Report) → names ≡ map (λ r. r.name) p.rewrites → rules ≡ rule_names book →
    a.text ≡ report_lines names rules report → a.status ≡ report_status report → answer_outcome a ≡ report_outcome book (stated_problem s p) report
answer_of_report s book p names rules a report e e' text status =
    let full : a.text ≡ report_text book (stated_problem s p) report =
    text ∙ (λ i. report_lines ((e ∙ sym (names_stated s.trees p.rewrites)) i) (e' i) report) in
    λ i. record { text = full i; status = status i }

-- the rules that a report trusts are of the book
trusted_below : (test : ℕ → Bool) (j : ℕ) (bs : List BookRule) (n : ℕ) → j + length bs ≤ n → All (λ k. k < n) (trusted_by test j bs)
trusted_below test j [] n le = All-nil (λ k. k < n)
trusted_below test j (b ∷ bs) n le = by (not b.shipped && test j) (trusted_below test (suc j) bs n (omega (arith, le)))
  where
    by : (x : Bool) → All (λ k. k < n) (trusted_by test (suc j) bs) → All (λ k. k < n) (if x then j ∷ trusted_by test (suc j) bs else trusted_by test (suc j) bs)
    by true rest = All-cons (λ k. k < n) j (trusted_by test (suc j) bs) (omega (arith, le)) rest
    by false rest = rest

pub trusts_among : (book : List BookRule) (p : StatedProblem) (text : List ℕ) (report : Report) → checked book p text ≡ Ok report → TrustsAmong (length book) report
trusts_among book p text report is = by (proof_of p book text) is
  where
    one : (bad : Option Bad) (vs : List Verdict) (commands : List ProofCommand) → TrustsAmong (length book) (report_by bad vs (trusted_of book commands))
    one None vs commands = trusted_below (λ k. list_any (names_rule k) commands) 0 book (length book) (omega arith)
    one (Some bad) vs commands = tt

    by : (read : Result (List ProofCommand) Refusal) → on_proof (report_of p.declared book p.rewrites) read ≡ Ok report → TrustsAmong (length book) report
    by (Err fault) e = absurd cc
    by (Ok commands) e =
        let same : report_of p.declared book p.rewrites commands ≡ report = cc in
        subst (TrustsAmong (length book)) same (one (first_bad p.declared book p.rewrites [] commands) _ commands)

-- what is checked is allowed
pub checked_allowed : (files : Files) (words : List (List ℕ)) (names : FilesOfCheck) (result : Result Answer Stop) → asked_by words ≡ Some (check names) →
    IsChecked files names result → Allowed files words (outcome_in result)
checked_allowed files words names (Ok a) form h = answered names form h.0 h.1 h.2 h.3 h.4
checked_allowed files words names (Err stop) form h = stopped (check names) form stop h refl

-- what is listed is allowed
pub listed_allowed : (files : Files) (words : List (List ℕ)) (rules : Option (List ℕ)) (result : Result Answer Stop) → asked_by words ≡ Some (types rules) →
    IsListed files rules result → Allowed files words (outcome_in result)
listed_allowed files words rules (Ok a) form h = listed rules form h.0 h.1 h.2 h.3
listed_allowed files words rules (Err stop) form h = stopped (types rules) form stop h refl

-- want of memory may come in place of a line
memory_instead : (files : Files) (words : List (List ℕ)) (stop : Stop) (o : Outcome) → (stop_outcome stop).status ≡ status.BadText → Allowed files words (stop_outcome stop) → o ≡ stop_outcome Memory →
    Allowed files words o
memory_instead files words stop o bad (bad_words none is) e = absurd (let s : status.BadText ≡ status.BadWords = sym bad ∙ ap (λ x. x.status) is in cc)
memory_instead files words stop o bad (stopped names form other cause is) e = stopped names form Memory tt e
memory_instead files words stop o bad (answered names form bs p report holds is) e = stopped (check names) form Memory tt e
memory_instead files words stop o bad (listed rules form bs quiet are is) e = stopped (types rules) form Memory tt e

pub becomes_allowed : (files : Files) (words : List (List ℕ)) (stop : Stop) (o : Outcome) → Allowed files words (stop_outcome stop) → Becomes stop o → Allowed files words o
becomes_allowed files words BadWords o a e = let P : Outcome → Type 0 = λ o. Allowed files words o in subst P (sym e) a
becomes_allowed files words (ReadFault f) o a e = let P : Outcome → Type 0 = λ o. Allowed files words o in subst P (sym e) a
becomes_allowed files words (TooLong f) o a e = let P : Outcome → Type 0 = λ o. Allowed files words o in subst P (sym e) a
becomes_allowed files words Memory o a e = let P : Outcome → Type 0 = λ o. Allowed files words o in subst P (sym e) a
becomes_allowed files words (Refused f place reason) o a (inl e) = let P : Outcome → Type 0 = λ o. Allowed files words o in subst P (sym e) a
becomes_allowed files words (Refused f place reason) o a (inr e) = memory_instead files words (Refused f place reason) o refl a e
