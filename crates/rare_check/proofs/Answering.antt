-- The answer of a proof that is checked command by command.
use Rattle.std.proofs.Common.{◌≡◌, ℕ, zero, suc, ◌+◌, ◌<◌, drop, append_assoc, arith, Bool, true, false, not, ◌&&◌, ◌||◌, nat_eq, All, List, [], ◌∷◌, ◌++◌, map, length, slice_get, Option, Some, None, Result, Ok, Err, IfErr, subst, refl, ap, sym, ◌∙◌, if◌then◌else◌}
use Rattle.std.specs.List.{list_any}
use Rattle.std.proofs.Math.Bool.{or-false, or_assoc}
use Rattle.std.proofs.lemmas.Bool.{eqb-true}
use Rattle.std.proofs.lemmas.Bool.Decides.{same_from_decides, Decides-eqb}
use Rattle.std.proofs.lemmas.List.Elements.{All-head, All-tail}
use Rattle.std.proofs.lemmas.List.Folds.{list_any-append}
use Rattle.std.proofs.lemmas.Option.{none-some, same_Some}
use Rattle.rare_base.specs.declared.answers.Fault.{Fault}
use Rattle.rare_base.specs.declared.answers.Fault.TheVariants as fault
use Rattle.rare_base.specs.Answers.{Refusal}
use Rattle.rare_sexpr.specs.declared.tree.Sexpr.{Sexpr}
use Rattle.rare_sexpr.specs.Commands.{Commands, put_first}
use Rattle.rare_sort.specs.declared.declarations.Declarations.{Declarations}
use Rattle.rare_meaning.specs.Interpretations.{FunctionClass}
use Rattle.rare_meaning.proofs.RewriteLemmas.{same_is_true}
use Rattle.rare_scope.specs.Answers.{Fails}
use Rattle.rare_scope.specs.Names.{Names}
use Rattle.rare_scope.specs.Reading.{Read, go_on}
use Rattle.rare_text.specs.Problems.{StatedProblem, StatedRewrite}
use Rattle.rare_proof.specs.declared.fault.StepFault.{StepFault}
use Rattle.rare_rule.specs.Books.{BookRule, shipped_at}
use Rattle.rare_proof.specs.RulesHold.{HoldsAt}
use Rattle.rare_proof.specs.Steps.{Refl, Cong, Trans, Evaluate, Rewrite}
use Rattle.rare_proof_text.specs.ArgumentText.{NamedRule}
use Rattle.rare_proof_text.specs.ProofText.{proof_command, proof_from}
use Rattle.rare_proof_text.specs.ProofCommands.{ProofCommand, Define, Step, Conclude, names_behind}
use Rattle.rare_check.specs.declared.report.Report.{Report}
use Rattle.rare_check.specs.declared.report.Verdict.{Verdict}
use Rattle.rare_check.specs.declared.report.Verdict.TheVariants.{Valid}
use Rattle.rare_check.specs.Verdicts.{Bad, fault_of, added_by, bad_or, first_bad, is_place, concludes, is_rule, names_rule, rewrite_place, trusted_by, verdict_by, report_by, on_proof, IsSound, TrustedHold, ValidAreTrue}
use Rattle.rare_check.specs.Checking.{Progress, bad_after, trusted_with, verdicts_with, report_with, answer_from, Refuses}
use Rattle.rare_check.specs.inner.Progress.{progress, unless_bad, by_fault, concluded_after, named_after, named_by, with_place}
use Rattle.rare_check.specs.inner.Truth.{AreSound, NamedHold}
use Rattle.rare_check.proofs.Listing.{head_drop}

-- ---- one command more

pub any-push : (p : ℕ → Bool) (ks : List ℕ) (j : ℕ) → list_any p (ks ++ j ∷ []) ≡ (list_any p ks || p j)
any-push p ks j = list_any-append p ks (j ∷ []) ∙ ap (λ b. list_any p ks || b) (or-false (p j))

eq_sym : (j k : ℕ) → nat_eq j k ≡ nat_eq k j
eq_sym j k = let d = Decides-eqb j k in let e = Decides-eqb k j in same_from_decides _ _ (λ x. sym (d.0 x), λ x. d.1 (sym x)) e

-- a place that is there already
absorbed : (k j : ℕ) (ks : List ℕ) → list_any (nat_eq j) ks ≡ true → list_any (nat_eq k) ks ≡ (list_any (nat_eq k) ks || nat_eq j k)
absorbed k j ks here = by (nat_eq j k) refl (list_any (nat_eq k) ks) refl
  where
    by : (b : Bool) → nat_eq j k ≡ b → (a : Bool) → list_any (nat_eq k) ks ≡ a → a ≡ (a || b)
    by true e a f = (sym f ∙ ap (λ n. list_any (nat_eq n) ks) (sym (eqb-true j k e)) ∙ here) ∙ always a
      where
        always : (a : Bool) → true ≡ (a || true)
        always true = refl
        always false = refl
    by false e true f = refl
    by false e false f = refl

place_more : (k : ℕ) (ks : List ℕ) (place : Option ℕ) → list_any (nat_eq k) (with_place ks place) ≡ (list_any (nat_eq k) ks || is_place place k)
place_more k ks None = sym (or-false (list_any (nat_eq k) ks))
place_more k ks (Some j) = by (list_any (nat_eq j) ks) refl
  where
    by : (b : Bool) → list_any (nat_eq j) ks ≡ b → list_any (nat_eq k) (if b then ks else (ks ++ j ∷ [])) ≡ (list_any (nat_eq k) ks || nat_eq j k)
    by true e = absorbed k j ks e
    by false e = any-push (nat_eq k) ks j ∙ ap (λ b. list_any (nat_eq k) ks || b) (eq_sym k j)

module _ (rewrites : List StatedRewrite) (concluded : List ℕ) (c : ProofCommand) (cs : List ProofCommand) where
  place_any : (k : ℕ) → (d : ProofCommand) → (list_any (nat_eq k) concluded || (concludes rewrites k d || list_any (concludes rewrites k) cs))
      ≡ (list_any (nat_eq k) (concluded_after rewrites concluded d) || list_any (concludes rewrites k) cs)
  place_any k (Define name t) = refl
  place_any k (Step s) = refl
  place_any k (Conclude name id) =
      sym (or_assoc (list_any (nat_eq k) concluded) (is_place (rewrite_place rewrites name) k) (list_any (concludes rewrites k) cs))
      ∙ ap (λ b. b || list_any (concludes rewrites k) cs) (sym (place_more k concluded (rewrite_place rewrites name)))

  verdicts_more : (k : ℕ) (rs : List StatedRewrite) → verdicts_with rewrites concluded (c ∷ cs) k rs ≡ verdicts_with rewrites (concluded_after rewrites concluded c) cs k rs
  verdicts_more k [] = refl
  verdicts_more k (r ∷ rs) = let first = ap verdict_by (place_any k c) in let rest = verdicts_more (suc k) rs in λ i. first i ∷ rest i

rule_any : (named : List ℕ) (c : ProofCommand) (cs : List ProofCommand) (k : ℕ) →
    (list_any (nat_eq k) named || (names_rule k c || list_any (names_rule k) cs)) ≡ (list_any (nat_eq k) (named_after named c) || list_any (names_rule k) cs)
rule_any named (Define name t) cs k = refl
rule_any named (Step s) cs k = by s.rule
  where
    by : (r : NamedRule) → (list_any (nat_eq k) named || (is_rule k r || list_any (names_rule k) cs)) ≡ (list_any (nat_eq k) (with_place named (named_by r)) || list_any (names_rule k) cs)
    by (Err fault) = refl
    by (Ok Refl) = refl
    by (Ok Cong) = refl
    by (Ok Trans) = refl
    by (Ok Evaluate) = refl
    by (Ok (Rewrite j args)) =
        sym (or_assoc (list_any (nat_eq k) named) (nat_eq j k) (list_any (names_rule k) cs)) ∙ ap (λ b. b || list_any (names_rule k) cs) (sym (place_more k named (Some j)))
rule_any named (Conclude name id) cs k = refl

trusted_same : (f g : ℕ → Bool) → ((k : ℕ) → f k ≡ g k) → (k : ℕ) (book : List BookRule) → trusted_by f k book ≡ trusted_by g k book
trusted_same f g same k [] = refl
trusted_same f g same k (b ∷ bs) =
    let rest = trusted_same f g same (suc k) bs in
    λ i. if not b.shipped && same k i then k ∷ rest i else rest i

trusted_more : (book : List BookRule) (named : List ℕ) (c : ProofCommand) (cs : List ProofCommand) → trusted_with book named (c ∷ cs) ≡ trusted_with book (named_after named c) cs
trusted_more book named c cs =
    trusted_same (λ k. list_any (nat_eq k) named || list_any (names_rule k) (c ∷ cs)) (λ k. list_any (nat_eq k) (named_after named c) || list_any (names_rule k) cs) (rule_any named c cs) 0 book

module _ (d : Declarations) (book : List BookRule) (rewrites : List StatedRewrite) where
  -- the report but for the trusted rules
  abbrev with_trusted : List ℕ → Progress → List ProofCommand → Report
  with_trusted trusted p cs = report_by (bad_after p.bad (first_bad d book rewrites p.earlier cs)) (verdicts_with rewrites p.concluded cs 0 rewrites) trusted

  -- a command more is the next one
  advance : (trusted : List ℕ) (p : Progress) (c : ProofCommand) (cs : List ProofCommand) → with_trusted trusted p (c ∷ cs) ≡ with_trusted trusted (progress d book rewrites p c) cs
  advance trusted p c cs = by p.bad refl
    where
      faults : (f : Option StepFault) → p.bad ≡ None → fault_of d book rewrites p.earlier c ≡ f →
          report_by (bad_or c f (first_bad d book rewrites (p.earlier ++ added_by c) cs)) (verdicts_with rewrites p.concluded (c ∷ cs) 0 rewrites) trusted
          ≡ with_trusted trusted (by_fault d book rewrites p c f) cs
      faults (Some f) good e = refl
      faults None good e =
          ap (λ vs. report_by (first_bad d book rewrites (p.earlier ++ added_by c) cs) vs trusted) (verdicts_more rewrites p.concluded c cs 0 rewrites)
          ∙ ap (λ b. report_by (bad_after b (first_bad d book rewrites (p.earlier ++ added_by c) cs)) (verdicts_with rewrites (concluded_after rewrites p.concluded c) cs 0 rewrites) trusted) (sym good)

      by : (b : Option Bad) → p.bad ≡ b → with_trusted trusted p (c ∷ cs) ≡ with_trusted trusted (progress d book rewrites p c) cs
      by (Some bad) e =
          ap (λ b. report_by (bad_after b (first_bad d book rewrites p.earlier (c ∷ cs))) (verdicts_with rewrites p.concluded (c ∷ cs) 0 rewrites) trusted) e
          ∙ sym (ap (λ q. with_trusted trusted q cs) (ap (unless_bad d book rewrites p c) e)
          ∙ ap (λ b. report_by (bad_after b (first_bad d book rewrites p.earlier cs)) (verdicts_with rewrites p.concluded cs 0 rewrites) trusted) e)
      by None e =
          ap (λ b. report_by (bad_after b (first_bad d book rewrites p.earlier (c ∷ cs))) (verdicts_with rewrites p.concluded (c ∷ cs) 0 rewrites) trusted) e
          ∙ faults (fault_of d book rewrites p.earlier c) e refl
          ∙ sym (ap (λ q. with_trusted trusted q cs) (ap (unless_bad d book rewrites p c) e))

  report_more : (p : Progress) (named : List ℕ) (c : ProofCommand) (cs : List ProofCommand) →
      report_with d book rewrites p named (c ∷ cs) ≡ report_with d book rewrites (progress d book rewrites p c) (named_after named c) cs
  report_more p named c cs = ap (λ trusted. with_trusted trusted p (c ∷ cs)) (trusted_more book named c cs) ∙ advance (trusted_with book (named_after named c) cs) p c cs

  abbrev on_command : Names → Progress → List ℕ → Commands → Read ProofCommand → Read Report
  on_command names p named rest m =
      on_proof (report_with d book rewrites p named) (go_on m (λ b. go_on (proof_from d (names_behind names b) book rest.list rest.fault) (λ cs. Ok (b ∷ cs))))

  -- a command that was read, and the answer with the commands behind it
  pub one_more : (names : Names) (p q : Progress) (named : List ℕ) (e : Sexpr) (c : ProofCommand) (rest : Commands) → proof_command d names book e ≡ Ok c → q ≡ progress d book rewrites p c →
      answer_from d book rewrites names p named (put_first e rest) ≡ answer_from d book rewrites (names_behind names c) q (named_after named c) rest
  one_more names p q named e c rest is same =
      ap (on_command names p named rest) is
      ∙ by (proof_from d (names_behind names c) book rest.list rest.fault) ∙ ap (λ r. answer_from d book rewrites (names_behind names c) r (named_after named c) rest) (sym same)
    where
      by : (r : Read (List ProofCommand)) → on_proof (report_with d book rewrites p named) (go_on r (λ cs. Ok (c ∷ cs))) ≡ on_proof (report_with d book rewrites (progress d book rewrites p c) (named_after named c)) r
      by (Ok cs) = ap Ok (report_more p named c cs)
      by (Err f) = refl

  -- a command that is refused
  pub one_refused : (names : Names) (p : Progress) (named : List ℕ) (e : Sexpr) (rest : Commands) (f : Fault) → Fails f (proof_command d names book e) →
      Refuses f (answer_from d book rewrites names p named (put_first e rest))
  one_refused names p named e rest (fault.Refused place reason) h = ap (on_command names p named rest) h
  one_refused names p named e rest fault.Memory h = tt

-- ---- a refusal, with the bytes that follow

pub refused_on : (r : Result (Unit {0}) Fault) (A B : List ℕ → Result Report Refusal) (told : Type 0) → (told → ⊥) →
    IfErr r (λ fault. (more : List ℕ) → (told → more ≡ []) → Refuses fault (A more)) → ((rest : List ℕ) → A rest ≡ B rest) → IfErr r (λ fault. (rest : List ℕ) → Refuses fault (B rest))
refused_on (Ok u) A B told never h same = tt
refused_on (Err fault) A B told never h same = λ rest.
    let P : Result Report Refusal → Type 0 = λ a. Refuses fault a in subst P (same rest) (h rest (λ t. absurd (never t)))

-- ---- the report at the end

pub verdict_more : (all : List StatedRewrite) (concluded : List ℕ) {A : Type 0} (f : A → StatedRewrite) (xs : List A) (k : ℕ) (vs : List Verdict) → k < length xs →
    vs ++ verdicts_with all concluded [] k (map f (drop k xs)) ≡ (vs ++ verdict_by (list_any (nat_eq k) concluded || false) ∷ []) ++ verdicts_with all concluded [] (k + 1) (map f (drop (k + 1) xs))
verdict_more all concluded f xs k vs lt =
    let h = head_drop xs k lt in
    let n : suc k ≡ k + 1 = omega arith in
    let v = verdict_by (list_any (nat_eq k) concluded || false) in
    ap (λ ys. vs ++ verdicts_with all concluded [] k (map f ys)) h.1 ∙ ap (λ j. vs ++ v ∷ verdicts_with all concluded [] j (map f (drop (k + 1) xs))) n
    ∙ sym (append_assoc vs (v ∷ []) (verdicts_with all concluded [] (k + 1) (map f (drop (k + 1) xs))))

verdict_at : (all : List StatedRewrite) (concluded : List ℕ) (rs : List StatedRewrite) (j k : ℕ) → slice_get (verdicts_with all concluded [] j rs) k ≡ Some Valid → list_any (nat_eq (j + k)) concluded ≡ true
verdict_at all concluded [] j k e = absurd (none-some Valid e)
verdict_at all concluded (r ∷ rs) j zero e = let n : j ≡ j + 0 = omega arith in ap (λ i. list_any (nat_eq i) concluded) (sym n) ∙ by (list_any (nat_eq j) concluded) (same_Some _ Valid e)
  where
    by : (b : Bool) → verdict_by (b || false) ≡ Valid → b ≡ true
    by true v = refl
    by false v = cc
verdict_at all concluded (r ∷ rs) j (suc k) e = let n : suc j + k ≡ j + suc k = omega arith in ap (λ i. list_any (nat_eq i) concluded) (sym n) ∙ verdict_at all concluded rs (suc j) k e

-- the trusted rules from a place on, by whether the rule at the place is one
module _ (test : ℕ → Bool) where
  trusted_by_head : (bs : List BookRule) (k j : ℕ) (s : Bool) → shipped_at bs k ≡ Some s →
      trusted_by test j (drop k bs) ≡ (if not s && test j then j ∷ trusted_by test (suc j) (drop (suc k) bs) else trusted_by test (suc j) (drop (suc k) bs))
  trusted_by_head [] k j s is = absurd (none-some s is)
  trusted_by_head (b ∷ bs) zero j s is = ap (λ x. if not x && test j then j ∷ trusted_by test (suc j) bs else trusted_by test (suc j) bs) (same_Some b.shipped s is)
  trusted_by_head (b ∷ bs) (suc k) j s is = trusted_by_head bs k j s is

  shipped_there : (bs : List BookRule) (k : ℕ) → k < length bs → (s : Bool) × (shipped_at bs k ≡ Some s)
  shipped_there [] k lt = absurd (omega (arith, lt))
  shipped_there (b ∷ bs) zero lt = (b.shipped, refl)
  shipped_there (b ∷ bs) (suc k) lt = shipped_there bs k (omega (arith, lt))

  pub trusted_further : (bs : List BookRule) (k : ℕ) (ks : List ℕ) (is : Bool) → k < length bs → ((s : Bool) → shipped_at bs k ≡ Some s → is ≡ (not s && test k)) →
      ks ++ trusted_by test k (drop k bs) ≡ (if is then ks ++ k ∷ [] else ks) ++ trusted_by test (k + 1) (drop (k + 1) bs)
  trusted_further bs k ks is lt told =
      let s = shipped_there bs k lt in
      let n : suc k ≡ k + 1 = omega arith in
      ap (λ js. ks ++ js) (trusted_by_head bs k k s.0 s.1 ∙ ap (λ j. if not s.0 && test k then k ∷ trusted_by test j (drop j bs) else trusted_by test j (drop j bs)) n)
      ∙ ap (λ x. ks ++ (if x then k ∷ rest else rest)) (sym (told s.0 s.1)) ∙ by is
    where
      rest : List ℕ
      rest = trusted_by test (k + 1) (drop (k + 1) bs)

      by : (x : Bool) → ks ++ (if x then k ∷ rest else rest) ≡ (if x then ks ++ k ∷ [] else ks) ++ rest
      by true = sym (append_assoc ks (k ∷ []) rest)
      by false = refl

-- a rule that is not shipped and that passes is among those that are trusted
trusted_at : (test : ℕ → Bool) (j : ℕ) (bs : List BookRule) (k : ℕ) → test (j + k) ≡ true → shipped_at bs k ≡ Some false → list_any (nat_eq (j + k)) (trusted_by test j bs) ≡ true
trusted_at test j [] k is at = absurd (none-some false at)
trusted_at test j (b ∷ bs) zero is at =
    let n : j + 0 ≡ j = omega arith in
    let flag = same_Some b.shipped false at in
    let passes = ap test (sym n) ∙ is in
    ap (λ x. list_any (nat_eq (j + 0)) (if not x && test j then j ∷ trusted_by test (suc j) bs else trusted_by test (suc j) bs)) flag
    ∙ ap (λ x. list_any (nat_eq (j + 0)) (if x then j ∷ trusted_by test (suc j) bs else trusted_by test (suc j) bs)) passes
    ∙ ap (λ x. x || list_any (nat_eq (j + 0)) (trusted_by test (suc j) bs)) ((Decides-eqb (j + 0) j).1 n)
trusted_at test j (b ∷ bs) (suc k) is at =
    let n : suc j + k ≡ j + suc k = omega arith in
    by (not b.shipped && test j) (ap (λ i. list_any (nat_eq i) (trusted_by test (suc j) bs)) (sym n) ∙ trusted_at test (suc j) bs k (ap test n ∙ is) at)
  where
    by_head : (x : Bool) → list_any (nat_eq (j + suc k)) (trusted_by test (suc j) bs) ≡ true → (x || list_any (nat_eq (j + suc k)) (trusted_by test (suc j) bs)) ≡ true
    by_head true rest = refl
    by_head false rest = rest

    by : (x : Bool) → list_any (nat_eq (j + suc k)) (trusted_by test (suc j) bs) ≡ true →
        list_any (nat_eq (j + suc k)) (if x then j ∷ trusted_by test (suc j) bs else trusted_by test (suc j) bs) ≡ true
    by true rest = by_head (nat_eq (j + suc k) j) rest
    by false rest = rest

-- what holds of each number of a list holds of those that are in it
among : (P : ℕ → Type 0) (ks : List ℕ) (k : ℕ) → All P ks → list_any (nat_eq k) ks ≡ true → P k
among P [] k h e = absurd cc
among P (j ∷ ks) k h e = by (nat_eq k j) refl (among P ks k (All-tail P j ks h))
  where
    by : (x : Bool) → nat_eq k j ≡ x → (list_any (nat_eq k) ks ≡ true → P k) → P k
    by true f rest = subst P (sym (eqb-true k j f)) (All-head P j ks h)
    by false f rest = rest (ap (λ x. x || list_any (nat_eq k) ks) (sym f) ∙ e)

-- where the trusted rules hold, so do those that are named
named_hold : (c : FunctionClass) (book : List BookRule) (named : List ℕ) → All (HoldsAt c book) (trusted_with book named []) → NamedHold c book named
named_hold c book named h k is at =
    let n : 0 + k ≡ k = omega arith in
    let test : ℕ → Bool = λ k. list_any (nat_eq k) named || false in
    let passes : test (0 + k) ≡ true = ap test n ∙ ap (λ b. b || false) is in
    let found = ap (λ i. list_any (nat_eq i) (trusted_by test 0 book)) (sym n) ∙ trusted_at test 0 book k passes at in
    among (HoldsAt c book) (trusted_by test 0 book) k h found

-- where what is concluded is true if the rules that are named hold, the report is sound
pub sound_report : (problem : StatedProblem) (book : List BookRule) (p : Progress) (named : List ℕ) → AreSound problem.declared book problem.rewrites named p.concluded →
    IsSound book problem (report_with problem.declared book problem.rewrites p named [])
sound_report problem book p named h c = by p.bad
  where
    verdicts : List Verdict
    verdicts = verdicts_with problem.rewrites p.concluded [] 0 problem.rewrites

    by : (b : Option Bad) → TrustedHold c book (report_by (bad_after b None) verdicts (trusted_with book named [])) → ValidAreTrue c problem (report_by (bad_after b None) verdicts (trusted_with book named []))
    by (Some bad) hold = tt
    by None hold = λ k r at v.
        let n : 0 + k ≡ k = omega arith in
        same_is_true c problem.declared r.left r.right
        (h c (named_hold c book named hold) k r (ap (λ i. list_any (nat_eq i) p.concluded) (sym n) ∙ verdict_at problem.rewrites p.concluded problem.rewrites 0 k v) at)

pub refused_as : (r : Result Report Fault) (x f : Fault) (A B : Result Report Refusal) → r ≡ Err x → x ≡ f → Refuses f A → A ≡ B → IfErr r (λ fault. Refuses fault B)
refused_as r x f A B e g h same =
    let P : Result Report Fault → Type 0 = λ q. IfErr q (λ fault. Refuses fault B) in
    let Q : Fault → Type 0 = λ y. Refuses y B in
    let R : Result Report Refusal → Type 0 = λ a. Refuses f a in
    subst P (sym e) (subst Q (sym g) (subst R same h))
