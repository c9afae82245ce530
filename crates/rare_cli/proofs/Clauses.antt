-- The clauses of a run, from what it may mean to write and what was delivered.
use Rattle.std.proofs.Common.{◌≡◌, ◌≢◌, ◌⊎◌, ℕ, ◌-◌, ◌^◌, ◌<◌, ◌≤◌, All, Bool, true, false, nat_lt, List, length, Option, Some, None, Result, Ok, Err, refl, sym, ◌∙◌, ap, subst, inl, inr, arith, if◌then◌else◌}
use Rattle.std.proofs.lemmas.Option.{none-some, same_Some}
use Rattle.std.specs.List.{list_all}
use Rattle.rare_base.specs.declared.answers.Status.{Status}
use Rattle.rare_base.specs.declared.answers.Status.TheVariants as status
use Rattle.rare_base.specs.Answers.{Refusal}
use Rattle.rare_base.specs.Outside.{Rose, grown}
use Rattle.rare_check.specs.declared.report.Report.{Report}
use Rattle.rare_check.specs.declared.report.Report.TheVariants.{Checked, Invalid}
use Rattle.rare_book.specs.RuleFile.{rules_of}
use Rattle.rare_rule.specs.Books.{BookRule}
use Rattle.rare_text.specs.ProblemText.{problem_of}
use Rattle.rare_text.specs.Problems.{StatedProblem}
use Rattle.rare_check.specs.Verdicts.{checked, TrustedHold}
use Rattle.rare_cli.specs.declared.outcome.File.{File}
use Rattle.rare_cli.specs.declared.outcome.File.TheVariants.{Rules, Problem, Proof}
use Rattle.rare_cli.specs.declared.outcome.Stop.{Stop}
use Rattle.rare_cli.specs.declared.outcome.Stop.TheVariants.{BadWords, ReadFault, TooLong, Refused, Memory}
use Rattle.rare_cli.specs.WordForms.{FilesOfCheck, Form, check, types, asked_by}
use Rattle.rare_cli.specs.Outcomes.{Outcome, stop_status, stop_outcome, is_valid, report_text, report_status, report_outcome, unless_long, unless_file_refused, with_rules, outcome_of, outcome_of_rules, types_outcome}
use Rattle.rare_cli.specs.Calls.{Files, Tells, Written, Takes}
use Rattle.rare_cli.specs.Causes.{IsReadAs, IsTooLong, IsLongFile, IsUnread, AreRefusedRules, HasStopCause, IsReport, AreRules, Allowed, bad_words, stopped, answered, listed}
use Rattle.rare_cli.specs.Statuses.{AllAreTrue, StopsBy, IsToldOutcome, IsToldRules, Says}
use Rattle.std.proofs.lemmas.List.Elements.{All-nil}
use Rattle.rare_meaning.specs.Interpretations.{FunctionClass, AnyFunctions}
use Rattle.rare_proof.specs.RulesHold.{HoldsAt}
use Rattle.rare_cli.specs.inner.Prepared.{Delivers, whole, cut}
use Rattle.rare_cli.proofs.Truths.{all_true}

-- ---- the outcome of texts, step by step

ltb_no : (m n : ℕ) → n ≤ m → nat_lt m n ≡ false
ltb_no m n le = grind arith

ltb_yes : (m n : ℕ) → m < n → nat_lt m n ≡ true
ltb_yes m n lt = grind arith

short_passes : (file : File) (text : List ℕ) (rest : Outcome) → length text ≤ 2 ^ 28 → unless_long file text rest ≡ rest
short_passes file text rest short = rw (ltb_no (2 ^ 28) (length text) short) refl

long_stops : (file : File) (text : List ℕ) (rest : Outcome) → 2 ^ 28 < length text → unless_long file text rest ≡ stop_outcome (TooLong file)
long_stops file text rest long = rw (ltb_yes (2 ^ 28) (length text) long) refl

-- what follows on the rules
abbrev pub after_rules : List BookRule → List ℕ → List ℕ → Outcome
after_rules book problem proof =
    unless_long Problem problem (unless_file_refused Problem (problem_of problem) (λ p.
    unless_long Proof proof (unless_file_refused Proof (checked book p proof) (report_outcome book p))))

module _ (book : List BookRule) where
  -- what follows on the text of the problem
  abbrev after_problem : List ℕ → Result StatedProblem Refusal → Outcome
  after_problem proof read = unless_file_refused Problem read (λ p. unless_long Proof proof (unless_file_refused Proof (checked book p proof) (report_outcome book p)))

  on_problem : (problem proof : List ℕ) (read : Result StatedProblem Refusal) → length problem ≤ 2 ^ 28 → problem_of problem ≡ read → after_rules book problem proof ≡ after_problem proof read
  on_problem problem proof read short e = short_passes Problem problem _ short ∙ ap (after_problem proof) e

  on_proof : (problem proof : List ℕ) (p : StatedProblem) (read : Result Report Refusal) → length problem ≤ 2 ^ 28 → problem_of problem ≡ Ok p → length proof ≤ 2 ^ 28 → checked book p proof ≡ read →
      after_rules book problem proof ≡ unless_file_refused Proof read (report_outcome book p)
  on_proof problem proof p read short e short' e' =
      on_problem problem proof (Ok p) short e ∙ short_passes Proof proof _ short' ∙ ap (λ r. unless_file_refused Proof r (report_outcome book p)) e'

-- ---- texts that are told

told_text : (told : Option (List ℕ)) (all text : List ℕ) → told ≡ Some all → Tells told text → text ≡ all
told_text told all text e t = let P : Option (List ℕ) → Type 0 = λ told. Tells told text in sym (subst P e t)

told_long : (told : Option (List ℕ)) (all : List ℕ) → told ≡ Some all → IsTooLong told → 2 ^ 28 < length all
told_long told all e t = let P : List ℕ → Type 0 = λ text. 2 ^ 28 < length text in subst P (told_text told all t.text e t.held) t.long

told_short : {A : Type 0} (told : Option (List ℕ)) (all : List ℕ) (read : List ℕ → Result A Refusal) (r : Result A Refusal) → told ≡ Some all → IsReadAs told read r → length all ≤ 2 ^ 28
told_short told all read r e t = let P : List ℕ → Type 0 = λ text. length text ≤ 2 ^ 28 in subst P (told_text told all t.text e t.held) t.short

told_read : {A : Type 0} (told : Option (List ℕ)) (all : List ℕ) (read : List ℕ → Result A Refusal) (r : Result A Refusal) → told ≡ Some all → IsReadAs told read r → read all ≡ r
told_read told all read r e t = ap read (sym (told_text told all t.text e t.held)) ∙ t.reads

pub not_rose : (before after : ℕ) → before < 2 ^ 64 - 1 → after ≡ before → Rose before after → ⊥
not_rose before after lt same rose = omega arith

on_rules : (rules : List ℕ) (rest : List BookRule → Outcome) (read : Result (List BookRule) Refusal) → length rules ≤ 2 ^ 28 → rules_of rules ≡ read →
    with_rules (Some rules) rest ≡ unless_file_refused Rules read rest
on_rules rules rest read short e = short_passes Rules rules _ short ∙ ap (λ r. unless_file_refused Rules r rest) e

-- the outcome, or want of memory
abbrev IsOr : Stop → Outcome → Type 0
IsOr stop t = (stop_outcome stop ≡ t) ⊎ (stop ≡ Memory)

is_told : (stop : Stop) (s t : Outcome) → t ≡ s → IsOr stop s → IsOr stop t
is_told stop s t same (inl e) = inl (e ∙ sym same)
is_told stop s t same (inr e) = inr e

module _ (files : Files) (words : List (List ℕ)) where
  -- over texts that are told, where no count rose
  module _ (calm : (w : List ℕ) → Rose (files.before w) (files.after w) → ⊥) where
    -- the rules of a text that is told
    module _ (rest : List BookRule → Outcome) where
      rules_read : (name text : Option (List ℕ)) → IsToldRules files name text → (bs : List BookRule) → AreRules files name bs → with_rules text rest ≡ rest bs
      rules_read None text told bs are = ap (λ t. with_rules t rest) told ∙ ap rest (sym are)
      rules_read (Some name) text told bs are =
          ap (λ t. with_rules t rest) told.2
          ∙ on_rules told.0 rest (Ok bs) (told_short _ told.0 rules_of (Ok bs) told.1 are) (told_read _ told.0 rules_of (Ok bs) told.1 are)

      rules_long : (name text : Option (List ℕ)) → IsToldRules files name text → IsLongFile files name → with_rules text rest ≡ stop_outcome (TooLong Rules)
      rules_long None text told long = absurd long
      rules_long (Some name) text told long = ap (λ t. with_rules t rest) told.2 ∙ long_stops Rules told.0 _ (told_long _ told.0 told.1 long)

      rules_refused : (name text : Option (List ℕ)) → IsToldRules files name text → (r : Refusal) → AreRefusedRules files name r → with_rules text rest ≡ stop_outcome (Refused Rules r.place r.reason)
      rules_refused None text told r are = absurd are
      rules_refused (Some name) text told r are =
          ap (λ t. with_rules t rest) told.2
          ∙ on_rules told.0 rest (Err r) (told_short _ told.0 rules_of (Err r) told.1 are) (told_read _ told.0 rules_of (Err r) told.1 are)

    all_read : (name : Option (List ℕ)) → IsUnread files name → ⊥
    all_read None cause = cause
    all_read (Some name) cause = calm name cause

    module _ (names : FilesOfCheck) (rules : Option (List ℕ)) (problem proof : List ℕ) (tr : IsToldRules files names.rules rules) (tp : files.told names.problem ≡ Some problem)
        (tq : files.told names.proof ≡ Some proof) where
      abbrev rest : List BookRule → Outcome
      rest book = after_rules book problem proof

      on_book : (bs : List BookRule) → AreRules files names.rules bs → outcome_of rules problem proof ≡ after_rules bs problem proof
      on_book bs are = rules_read rest names.rules rules tr bs are

      exact_check : (stop : Stop) → HasStopCause files (check names) stop → IsOr stop (outcome_of rules problem proof)
      exact_check BadWords cause = absurd cause
      exact_check (ReadFault Rules) cause = absurd (all_read names.rules cause.0)
      exact_check (ReadFault Problem) cause = absurd (calm _ cause.0)
      exact_check (ReadFault Proof) cause = absurd (calm _ cause.0)
      exact_check (TooLong Rules) cause = inl (sym (rules_long rest names.rules rules tr cause.1))
      exact_check (TooLong Problem) cause = inl (sym (on_book cause.2.0 cause.2.1 ∙ long_stops Problem problem _ (told_long _ problem tp cause.1)))
      exact_check (TooLong Proof) cause =
          let bs = cause.2.0.0 in
          let p = cause.2.1.0 in
          inl (sym (on_book bs cause.2.0.1
          ∙ on_problem bs problem proof (Ok p) (told_short _ problem problem_of (Ok p) tp cause.2.1.1) (told_read _ problem problem_of (Ok p) tp cause.2.1.1)
          ∙ long_stops Proof proof _ (told_long _ proof tq cause.1)))
      exact_check (Refused Rules place reason) cause = inl (sym (rules_refused rest names.rules rules tr (record { place = place; reason = reason }) cause.1))
      exact_check (Refused Problem place reason) cause =
          let r : Result StatedProblem Refusal = Err (record { place = place; reason = reason }) in
          let bs = cause.1.0.0 in
          inl (sym (on_book bs cause.1.0.1 ∙ on_problem bs problem proof r (told_short _ problem problem_of r tp cause.1.1) (told_read _ problem problem_of r tp cause.1.1)))
      exact_check (Refused Proof place reason) cause =
          let h = cause.1 in
          let bs = h.book in
          let p = h.problem in
          let r : Result Report Refusal = Err (record { place = place; reason = reason }) in
          inl (sym (on_book bs h.rules
          ∙ on_proof bs problem proof p r (told_short _ problem problem_of (Ok p) tp h.is) (told_read _ problem problem_of (Ok p) tp h.is)
          (told_short _ proof (checked bs p) r tq h.proof) (told_read _ proof (checked bs p) r tq h.proof)))
      exact_check Memory cause = inr refl

      exact_report : (bs : List BookRule) (p : StatedProblem) (report : Report) → IsReport files names bs p report → report_outcome bs p report ≡ outcome_of rules problem proof
      exact_report bs p report h =
          sym (on_book bs h.rules
          ∙ on_proof bs problem proof p (Ok report) (told_short _ problem problem_of (Ok p) tp h.problem) (told_read _ problem problem_of (Ok p) tp h.problem)
          (told_short _ proof (checked bs p) (Ok report) tq h.proof) (told_read _ proof (checked bs p) (Ok report) tq h.proof))

    exact_types : (name rules : Option (List ℕ)) → IsToldRules files name rules → (stop : Stop) → HasStopCause files (types name) stop → IsOr stop (outcome_of_rules rules)
    exact_types name rules told BadWords cause = absurd cause
    exact_types name rules told (ReadFault Rules) cause = absurd (all_read name cause.0)
    exact_types name rules told (ReadFault Problem) cause = absurd cause.0
    exact_types name rules told (ReadFault Proof) cause = absurd cause.0
    exact_types name rules told (TooLong Rules) cause = inl (sym (rules_long types_outcome name rules told cause.1))
    exact_types name rules told (TooLong Problem) cause = absurd cause.1
    exact_types name rules told (TooLong Proof) cause = absurd cause.1
    exact_types name rules told (Refused Rules place reason) cause = inl (sym (rules_refused types_outcome name rules told (record { place = place; reason = reason }) cause.1))
    exact_types name rules told (Refused Problem place reason) cause = absurd cause.1
    exact_types name rules told (Refused Proof place reason) cause = absurd cause.1
    exact_types name rules told Memory cause = inr refl

    exact_stop : (form : Form) (t : Outcome) → IsToldOutcome files form t → (stop : Stop) → HasStopCause files form stop → IsOr stop t
    exact_stop (check names) t told stop cause =
        is_told stop (outcome_of told.0 told.1 told.2) t told.6 (exact_check names told.0 told.1 told.2 told.3 told.4 told.5 stop cause)
    exact_stop (types name) t told stop cause = is_told stop (outcome_of_rules told.0) t told.2 (exact_types name told.0 told.1 stop cause)

    exact_rules : (name : Option (List ℕ)) (t : Outcome) → IsToldOutcome files (types name) t → (bs : List BookRule) → AreRules files name bs → types_outcome bs ≡ t
    exact_rules name t told bs are = sym (rules_read types_outcome name told.0 told.1 bs are) ∙ sym told.2

    module _ (form : Form) (t : Outcome) (is_form : asked_by words ≡ Some form) (told : IsToldOutcome files form t) where
      told_as : (other : Form) → asked_by words ≡ Some other → IsToldOutcome files other t
      told_as other is = subst (λ (f : Form). IsToldOutcome files f t) (same_Some form other (sym is_form ∙ is)) told

      exact : (o : Outcome) → Allowed files words o → (o ≡ t) ⊎ (o ≡ stop_outcome Memory)
      exact o (bad_words none is) = absurd (none-some form (sym none ∙ is_form))
      exact o (stopped form' is_form' stop cause is) = by (exact_stop form' t (told_as form' is_form') stop cause)
        where
          by : IsOr stop t → (o ≡ t) ⊎ (o ≡ stop_outcome Memory)
          by (inl e) = inl (is ∙ e)
          by (inr e) = inr (is ∙ ap stop_outcome e)
      exact o (answered names is_form' bs p report holds is) =
          let h = told_as (check names) is_form' in
          inl (is ∙ exact_report names h.0 h.1 h.2 h.3 h.4 h.5 bs p report holds ∙ sym h.6)
      exact o (listed rules is_form' bs quiet are is) = inl (is ∙ exact_rules rules t (told_as (types rules) is_form') bs are)

  module _ (out : Written) where
    clause_of_stop : (stop : Stop) → StopsBy files words out stop → Says files words out (stop_status stop)
    clause_of_stop BadWords s = absurd s.cause
    clause_of_stop (ReadFault file) s = (file, s)
    clause_of_stop (TooLong file) s = (file, s)
    clause_of_stop (Refused file place reason) s = (file, place, reason, s)
    clause_of_stop Memory s = s

    clause_of_report : (names : FilesOfCheck) → asked_by words ≡ Some (check names) → (bs : List BookRule) (p : StatedProblem) (report : Report) → IsReport files names bs p report →
        Takes out (report_text bs p report) → Says files words out (report_status report)
    clause_of_report names form bs p (Invalid name fault) holds took =
        record { names = names; form = form; book = bs; problem = p; report = Invalid name fault; holds = holds; status = refl; written = took }
    clause_of_report names form bs p (Checked verdicts trusted) holds took = by (list_all is_valid verdicts) refl
      where
        told_as_valid : (c : FunctionClass) → list_all is_valid verdicts ≡ true → TrustedHold c bs (Checked verdicts trusted) → AllAreTrue c p
        told_as_valid c e hold = all_true c bs p holds.proof.text verdicts trusted holds.proof.reads e (holds.sound c hold)

        by : (b : Bool) → list_all is_valid verdicts ≡ b → Says files words out (if b then status.AllGood else status.NotAll)
        by true e = inl (record {
          reports = record { names = names; form = form; book = bs; problem = p; report = Checked verdicts trusted; holds = holds; status = ap (λ b. if b then status.AllGood else status.NotAll) (sym e); written = took };
          all_true = λ c hold. told_as_valid c e hold;
          untrusting = λ none. let P : List ℕ → Type 0 = λ ks. All (HoldsAt AnyFunctions bs) ks in told_as_valid AnyFunctions e (subst P (sym none) (All-nil (HoldsAt AnyFunctions bs)));
        })
        by false e = record { names = names; form = form; book = bs; problem = p; report = Checked verdicts trusted; holds = holds; status = ap (λ b. if b then status.AllGood else status.NotAll) (sym e); written = took }

    pub says : (o : Outcome) (result : Status) → Allowed files words o → Delivers o result out → Says files words out result
    says o result a (cut is cuts) = subst (Says files words out) (sym is) (o, a, cuts)
    says o result (bad_words none e) (whole is took) =
        subst (Says files words out) (sym (is ∙ ap (λ x. x.status) e)) (none, subst (Takes out) (ap (λ x. x.text) e) took)
    says o result (stopped asked form stop cause e) (whole is took) =
        subst (Says files words out) (sym (is ∙ ap (λ x. x.status) e))
        (clause_of_stop stop (record { asked = asked; form = form; cause = cause; written = subst (Takes out) (ap (λ x. x.text) e) took }))
    says o result (answered names form bs p report holds e) (whole is took) =
        subst (Says files words out) (sym (is ∙ ap (λ x. x.status) e)) (clause_of_report names form bs p report holds (subst (Takes out) (ap (λ x. x.text) e) took))
    says o result (listed rules form bs quiet are e) (whole is took) =
        subst (Says files words out) (sym (is ∙ ap (λ x. x.status) e))
        (inr (record { rules = rules; form = form; list = bs; quiet = quiet; are = are; written = subst (Takes out) (ap (λ x. x.text) e) took }))

    module _ (o : Outcome) (result : Status) (a : Allowed files words o) (d : Delivers o result out) where
      pub clause_no_form : out.before < 2 ^ 64 - 1 → asked_by words ≡ None → out.after ≡ out.before → result ≡ status.BadWords
      clause_no_form room none same = by a d
        where
          by : Allowed files words o → Delivers o result out → result ≡ status.BadWords
          by a (cut is cuts) = absurd (not_rose out.before out.after room same cuts.failed)
          by (bad_words n e) (whole is took) = is ∙ ap (λ x. x.status) e
          by (stopped asked form stop cause e) (whole is took) = absurd (none-some asked (sym none ∙ form))
          by (answered names form bs p report holds e) (whole is took) = absurd (none-some (check names) (sym none ∙ form))
          by (listed rules form bs quiet are e) (whole is took) = absurd (none-some (types rules) (sym none ∙ form))

      pub clause_told : (form : Form) (t : Outcome) → asked_by words ≡ Some form → IsToldOutcome files form t →
          ((w : List ℕ) → Rose (files.before w) (files.after w) → ⊥) → (Rose out.before out.after → ⊥) → (result ≢ status.Memory) →
          (result ≡ t.status) × (out.now ≡ grown out.was t.text)
      clause_told form t is_form told calm still mem = by d (exact calm form t is_form told o a)
        where
          by : Delivers o result out → (o ≡ t) ⊎ (o ≡ stop_outcome Memory) → (result ≡ t.status) × (out.now ≡ grown out.was t.text)
          by (cut is cuts) e = absurd (still cuts.failed)
          by (whole is took) (inl e) = (is ∙ ap (λ x. x.status) e, took.written ∙ ap (λ x. grown out.was x.text) e)
          by (whole is took) (inr e) = absurd (mem (is ∙ ap (λ x. x.status) e))
