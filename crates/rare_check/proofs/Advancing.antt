-- What is kept as commands of a proof are judged one by one.
use Rattle.std.proofs.Common.{◌≡◌, ℕ, ◌+◌, ◌<◌, Bool, true, false, List, [], ◌∷◌, ◌++◌, length, slice_get, All, nat_lt, Option, Some, None, Err, refl, ap, sym, ◌∙◌, arith, subst, length-append}
use Rattle.std.specs.Option.{option_map}
use Rattle.std.proofs.lemmas.Bool.Decides.{Decides-ltb}
use Rattle.std.proofs.lemmas.List.{append-nil, map-append}
use Rattle.std.proofs.lemmas.List.Elements.{All-push}
use Rattle.rare_sort.specs.Ids.{tree_at}
use Rattle.rare_sort.specs.declared.tree.Tree.{Tree}
use Rattle.rare_term.specs.State.{State}
use Rattle.rare_rule.specs.Books.{BookRule}
use Rattle.rare_text.specs.Problems.{StatedRewrite}
use Rattle.rare_proof.specs.declared.fault.AddError.{AddError}
use Rattle.rare_proof.specs.declared.fault.AddError.TheVariants.{Invalid}
use Rattle.rare_proof.specs.Proofs.{IsAddedAt, Judges, IsProofOver, concluded_by, conclusions, stated_step, stated_steps}
use Rattle.rare_proof.specs.Steps.{Equation, equation}
use Rattle.rare_proof.specs.declared.fault.StepFault.{StepFault}
use Rattle.rare_proof.specs.declared.step.Step.{Step}
use Rattle.rare_proof_text.specs.ProofCommands.{ProofCommand, NamedStep, Define, Conclude}
use Rattle.rare_proof_text.specs.ProofCommands as text
use Rattle.rare_check.specs.Verdicts.{fault_of, name_of, named_step_fault, conclusion_fault, rewrite_place}
use Rattle.rare_check.specs.declared.judged.Judged.{Judged}
use Rattle.rare_check.specs.inner.Judging.{AreNamedRules, IsJudged, IsNamedRule, earlier_of, named_equations, bad_of, bad_in}
use Rattle.rare_check.specs.Checking.{Progress}
use Rattle.rare_check.specs.inner.Progress.{progress_of, progress, by_fault, unless_bad, with_place}
use Rattle.rare_check.proofs.Naming.{named_push, named_kept}
use Rattle.rare_check.proofs.Judgements.{places_within, concluded_length}
use Rattle.rare_check.proofs.Listing.{there}

-- ---- a proof with a step more, or with none

-- the fault of a step that was not added
pub invalid_is : (fault : Option StepFault) (e : AddError) (f : StepFault) → e ≡ Invalid f → Judges {X = ℕ} fault (Err e) → fault ≡ Some f
invalid_is fault e f is h = subst (λ (x : AddError). Judges {X = ℕ} fault (Err x)) is h

pub added_behind : (old : List Step) (s : Step) (new : List Step) (k : ℕ) → IsAddedAt old s new k → (more : List Step) × (new ≡ old ++ more)
added_behind old s new k h = by (nat_lt k (length old)) refl
  where
    by : (b : Bool) → nat_lt k (length old) ≡ b → (more : List Step) × (new ≡ old ++ more)
    by true e = ([], h.earlier ((Decides-ltb k (length old)).0 e) ∙ sym (append-nil old))
    by false e = (s ∷ [], (h.last (λ lt. let t : nat_lt k (length old) ≡ true = (Decides-ltb k (length old)).1 lt in let f : true ≡ false = sym t ∙ e in cc)).1)

concluded_more : (ts : List Tree) (old more : List Step) → concluded_by ts (old ++ more) ≡ concluded_by ts old ++ concluded_by ts more
concluded_more ts old more = ap conclusions (map-append (stated_step ts) old more) ∙ map-append (λ s. s.concluded) (stated_steps ts old) (stated_steps ts more)

module _ (s : State) (book : List BookRule) (old new : Judged) (more : List Step) (h : IsJudged s book old) (proof : new.proof ≡ old.proof ++ more)
    (over : IsProofOver s book new.proof) where
  -- the equations under ids stay
  named_stay : named_equations (concluded_by s.trees new.proof) old.ids old.places ≡ earlier_of s.trees old
  named_stay =
      ap (λ ss. named_equations (concluded_by s.trees ss) old.ids old.places) proof ∙ ap (λ es. named_equations es old.ids old.places) (concluded_more s.trees old.proof more)
      ∙ named_kept (concluded_by s.trees old.proof) (concluded_by s.trees more) old.ids old.places (places_within s book old h)

  within_stay : All (λ k. k < length new.proof) old.places
  within_stay = λ k d lt. let b = h.within k d lt in let n = ap length proof ∙ length-append old.proof more in omega (arith, n, b)

  pub earlier_stay : new.ids ≡ old.ids → new.places ≡ old.places → earlier_of s.trees new ≡ earlier_of s.trees old
  earlier_stay ids places = (λ i. named_equations (concluded_by s.trees new.proof) (ids i) (places i)) ∙ named_stay

  pub judged_stay : new.ids ≡ old.ids → new.places ≡ old.places → IsJudged s book new
  judged_stay ids places = record {
    matched = ap length ids ∙ h.matched ∙ sym (ap length places);
    within = (let P : List ℕ → Type 0 = λ ks. All (λ k. k < length new.proof) ks in subst P (sym places) within_stay);
    proof = over;
  }

  pub earlier_push : (id : List ℕ) (k : ℕ) (e : Equation) → slice_get (concluded_by s.trees new.proof) k ≡ Some e → new.ids ≡ old.ids ++ id ∷ [] → new.places ≡ old.places ++ k ∷ [] →
      earlier_of s.trees new ≡ earlier_of s.trees old ++ record { id = id; concluded = e } ∷ []
  earlier_push id k e at ids places =
      let es = concluded_by s.trees new.proof in
      let one = (there es k (equation (tree_at [] 0) (tree_at [] 0)) e at).1 in
      (λ i. named_equations es (ids i) (places i)) ∙ named_push es old.ids old.places id k h.matched
      ∙ (λ i. named_stay i ++ record { id = id; concluded = one i } ∷ [])

  pub judged_push : (id : List ℕ) (k : ℕ) (e : Equation) → slice_get (concluded_by s.trees new.proof) k ≡ Some e → new.ids ≡ old.ids ++ id ∷ [] → new.places ≡ old.places ++ k ∷ [] → IsJudged s book new
  judged_push id k e at ids places =
      let es = concluded_by s.trees new.proof in
      let lt = (there es k (equation (tree_at [] 0) (tree_at [] 0)) e at).0 in
      let n = concluded_length s.trees new.proof in
      record {
        matched = ap length ids ∙ length-append old.ids (id ∷ []) ∙ ap (λ k. k + 1) h.matched ∙ sym (length-append old.places (k ∷ [])) ∙ ap length (sym places);
        within = (let P : List ℕ → Type 0 = λ ks. All (λ k. k < length new.proof) ks in subst P (sym places) (All-push (λ j. j < length new.proof) old.places k within_stay (omega (arith, n, lt))));
        proof = over;
      }

  pub progress_stay : new.ids ≡ old.ids → new.places ≡ old.places → new.concluded ≡ old.concluded → new.bad ≡ old.bad → progress_of s.trees new ≡ progress_of s.trees old
  progress_stay ids places concluded bad = λ i. record { earlier = earlier_stay ids places i; concluded = (concluded i).keys; bad = option_map bad_of (bad i) }

  -- a valid step is one equation more
  pub step_taken : (rewrites : List StatedRewrite) (k : ℕ) (x : NamedStep) → old.bad ≡ None → named_step_fault s.declared book (earlier_of s.trees old) x ≡ None →
      slice_get (concluded_by s.trees new.proof) k ≡ Some x.concluded → new.ids ≡ old.ids ++ x.id ∷ [] → new.places ≡ old.places ++ k ∷ [] → new.concluded ≡ old.concluded → new.bad ≡ old.bad →
      progress_of s.trees new ≡ progress s.declared book rewrites (progress_of s.trees old) (text.Step x)
  step_taken rewrites k x good fault at ids places concluded bad =
      let p = progress_of s.trees old in
      (λ i. record { earlier = earlier_push x.id k x.concluded at ids places i; concluded = (concluded i).keys; bad = option_map bad_of (bad i) })
      ∙ sym (ap (unless_bad s.declared book rewrites p (text.Step x)) (ap (option_map bad_of) good) ∙ ap (by_fault s.declared book rewrites p (text.Step x)) fault)

  -- a bad command is the first that is bad
  pub bad_taken : (rewrites : List StatedRewrite) (c : ProofCommand) (f : StepFault) → old.bad ≡ None → fault_of s.declared book rewrites (earlier_of s.trees old) c ≡ Some f →
      new.ids ≡ old.ids → new.places ≡ old.places → new.concluded ≡ old.concluded → new.bad ≡ Some (record { name = name_of c; fault = f }) →
      progress_of s.trees new ≡ progress s.declared book rewrites (progress_of s.trees old) c
  bad_taken rewrites c f good fault ids places concluded bad =
      let p = progress_of s.trees old in
      (λ i. record { earlier = earlier_stay ids places i; concluded = (concluded i).keys; bad = option_map bad_of (bad i) })
      ∙ sym (ap (unless_bad s.declared book rewrites p c) (ap (option_map bad_of) good) ∙ ap (by_fault s.declared book rewrites p c) fault)

-- nothing is added
pub same_proof : (old new : Judged) → new.proof ≡ old.proof → new.proof ≡ old.proof ++ []
same_proof old new e = e ∙ sym (append-nil old.proof)

pub over_same : (s : State) (book : List BookRule) (old new : Judged) → IsJudged s book old → new.proof ≡ old.proof → IsProofOver s book new.proof
over_same s book old new h e = let P : List Step → Type 0 = λ ss. IsProofOver s book ss in subst P (sym e) h.proof

-- a definition changes no progress
pub definition_taken : (s : State) (book : List BookRule) (rewrites : List StatedRewrite) (j : Judged) (name : List ℕ) (t : Tree) → j.bad ≡ None → progress_of s.trees j ≡ progress s.declared book rewrites (progress_of s.trees j) (Define name t)
definition_taken s book rewrites j name t good =
    let p = progress_of s.trees j in
    (λ i. record { earlier = sym (append-nil (earlier_of s.trees j)) i; concluded = j.concluded.keys; bad = bad_in j })
    ∙ sym (ap (unless_bad s.declared book rewrites p (Define name t)) (ap (option_map bad_of) good))

-- behind a bad command nothing counts
pub bad_stands : (s : State) (book : List BookRule) (rewrites : List StatedRewrite) (j : Judged) (c : ProofCommand) → (j.bad ≡ None → ⊥) → progress_of s.trees j ≡ progress s.declared book rewrites (progress_of s.trees j) c
bad_stands s book rewrites j c bad = by j.bad refl
  where
    by : (b : _) → j.bad ≡ b → progress_of s.trees j ≡ progress s.declared book rewrites (progress_of s.trees j) c
    by None e = absurd (bad e)
    by (Some b) e = sym (ap (unless_bad s.declared book rewrites (progress_of s.trees j) c) (ap (option_map bad_of) e))

pub conclusion_taken : (s : State) (book : List BookRule) (rewrites : List StatedRewrite) (old : Judged) (name id : List ℕ) (k : ℕ) (keys : List ℕ) → old.bad ≡ None →
    conclusion_fault rewrites (earlier_of s.trees old) name id ≡ None → rewrite_place rewrites name ≡ Some k → keys ≡ with_place old.concluded.keys (Some k) →
    ◌≡◌ {A = Progress} (record { earlier = earlier_of s.trees old; concluded = keys; bad = bad_in old }) (progress s.declared book rewrites (progress_of s.trees old) (Conclude name id))
conclusion_taken s book rewrites old name id k keys good fault place same =
    let p = progress_of s.trees old in
    (λ i. record { earlier = sym (append-nil (earlier_of s.trees old)) i; concluded = (same ∙ ap (with_place old.concluded.keys) (sym place)) i; bad = bad_in old })
    ∙ sym (ap (unless_bad s.declared book rewrites p (Conclude name id)) (ap (option_map bad_of) good) ∙ ap (by_fault s.declared book rewrites p (Conclude name id)) fault)

-- the rules of the steps are named, with one step more
pub rules_more : (named : List ℕ) (old : List Step) (s : Step) (new : List Step) (k : ℕ) → IsAddedAt old s new k → AreNamedRules named old → IsNamedRule named s.by → AreNamedRules named new
rules_more named old s new k h rules one = by (nat_lt k (length old)) refl
  where
    P : List Step → Type 0
    P ss = AreNamedRules named ss

    by : (b : Bool) → nat_lt k (length old) ≡ b → AreNamedRules named new
    by true e = subst P (sym (h.earlier ((Decides-ltb k (length old)).0 e))) rules
    by false e =
        let more = h.last (λ lt. let t : nat_lt k (length old) ≡ true = (Decides-ltb k (length old)).1 lt in let f : true ≡ false = sym t ∙ e in cc) in
        subst P (sym more.1) (All-push (λ x. IsNamedRule named x.by) old s rules one)

pub rules_same : (named : List ℕ) (old new : Judged) → new.proof ≡ old.proof → AreNamedRules named old.proof → AreNamedRules named new.proof
rules_same named old new e rules = let P : List Step → Type 0 = λ ss. AreNamedRules named ss in subst P (sym e) rules
