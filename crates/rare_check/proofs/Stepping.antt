-- A step judged while the terms grow.
use Rattle.std.proofs.Common.{◌≡◌, ℕ, false, List, [], ◌∷◌, ◌++◌, slice_get, Option, Some, None, Result, Ok, refl, ap, sym, ◌∙◌, subst}
use Rattle.rare_sexpr.specs.declared.tree.Sexpr.{Sexpr}
use Rattle.rare_sort.specs.Ids.{tree_at}
use Rattle.rare_term.specs.State.{State, Grows}
use Rattle.rare_rule.specs.Books.{BookRule}
use Rattle.rare_scope.specs.Reserved.{is_among}
use Rattle.rare_text.specs.Problems.{StatedRewrite}
use Rattle.rare_proof.specs.Proofs.{IsAddedAt, IsProofOver, IsStepOf, concluded_by, stated_step}
use Rattle.rare_proof.specs.Steps.{equation, step_fault}
use Rattle.rare_proof.specs.declared.fault.StepFault.{StepFault}
use Rattle.rare_proof.specs.declared.step.Step.{Step}
use Rattle.rare_proof.specs.declared.step.StepRule.{StepRule}
use Rattle.rare_proof.proofs.Growing.{concluded_kept, step_kept, tree_kept}
use Rattle.rare_proof_text.specs.Commands.{IsNamedRuleOf, IsReadStepOf, named_rule, named_step, premise_ids}
use Rattle.rare_proof_text.specs.ProofCommands.{NamedStep}
use Rattle.rare_proof_text.specs.ProofCommands as text
use Rattle.rare_proof_text.specs.declared.command.ReadStep.{ReadStep}
use Rattle.rare_check.specs.Verdicts.{named_step_fault}
use Rattle.rare_check.specs.declared.judged.Judged.{Judged}
use Rattle.rare_check.specs.inner.Judging.{IsJudged, earlier_of, places_named}
use Rattle.rare_check.specs.inner.Progress.{progress, progress_of}
use Rattle.rare_check.proofs.Advancing.{added_behind, bad_taken, judged_push, judged_stay, over_same, progress_stay, same_proof, step_taken}
use Rattle.rare_check.proofs.Holding.{judged_kept}
use Rattle.rare_check.proofs.Judgements.{by_places}

-- the step that is added for one that was read
abbrev pub kept_step : {E : Type 0} → ReadStep E → StepRule → List ℕ → Step
kept_step step rule premises = record { left = step.sides.left; right = step.sides.right; by = rule; premises = premises }

module _ {E : Type 0} (tree : E → Sexpr) (old_s s : State) (book : List BookRule) (g : Grows old_s s) (old : Judged) (h : IsJudged old_s book old) (good : old.bad ≡ None)
    (step : ReadStep E) (is : IsReadStepOf old_s step) (rule : StepRule) (by : step.rule ≡ Ok rule) (premises : List ℕ)
    (new_id : is_among old.ids step.id.now ≡ false) (places : places_named old.ids old.places (premise_ids tree step.premises) ≡ Some premises) where
  abbrev pub kept : Step
  kept = kept_step step rule premises

  now_judged : IsJudged s book old
  now_judged = judged_kept old_s s book old g h

  pub kept_is : IsStepOf old_s kept
  kept_is = record { left = is.sides.left; right = is.sides.right; by = subst (λ (r : Result StepRule StepFault). IsNamedRuleOf old_s r) by is.rule }

  abbrev named : NamedStep
  named = named_step tree s.trees step

  -- the fault of the step that was read is that of the step that is added
  fault_is : (f : Option StepFault) → step_fault old_s.declared book (concluded_by old_s.trees old.proof) (stated_step old_s.trees kept) ≡ f →
      named_step_fault s.declared book (earlier_of s.trees old) named ≡ f
  fault_is f e =
      let declared = g.declared in
      let concluded = concluded_kept old_s s g old.proof h.proof.are in
      let stated = step_kept old_s s g kept kept_is in
      by_places s book old now_judged named kept new_id places (ap (named_rule s.trees) by) refl ∙ (λ i. step_fault (declared i) book (concluded i) (stated i)) ∙ e

  equation_is : equation (tree_at old_s.trees step.sides.left.0) (tree_at old_s.trees step.sides.right.0) ≡ named.concluded
  equation_is =
      let left = tree_kept old_s s g step.sides.left.0 is.sides.left in
      let right = tree_kept old_s s g step.sides.right.0 is.sides.right in
      λ i. equation (sym left i) (sym right i)

  -- the step is valid, and its equation stands at a place
  module _ (new : Judged) (k : ℕ) (valid : step_fault old_s.declared book (concluded_by old_s.trees old.proof) (stated_step old_s.trees kept) ≡ None)
      (added : IsAddedAt old.proof kept new.proof k) (over : IsProofOver s book new.proof)
      (place : slice_get (concluded_by s.trees new.proof) k ≡ Some (equation (tree_at old_s.trees step.sides.left.0) (tree_at old_s.trees step.sides.right.0)))
      (concluded : new.concluded ≡ old.concluded) (bad : new.bad ≡ old.bad) where
    more : (rest : List Step) × (new.proof ≡ old.proof ++ rest)
    more = added_behind old.proof kept new.proof k added

    pub valid_taken : new.ids ≡ old.ids ++ step.id.now ∷ [] → new.places ≡ old.places ++ k ∷ [] → (rewrites : List StatedRewrite) →
        progress_of s.trees new ≡ progress s.declared book rewrites (progress_of s.trees old) (text.Step named)
    valid_taken ids places rewrites =
        step_taken s book old new more.0 now_judged more.1 over rewrites k named good (fault_is None valid) (place ∙ ap Some equation_is) ids places concluded bad

    pub valid_judged : new.ids ≡ old.ids ++ step.id.now ∷ [] → new.places ≡ old.places ++ k ∷ [] → IsJudged s book new
    valid_judged ids places = judged_push s book old new more.0 now_judged more.1 over step.id.now k named.concluded (place ∙ ap Some equation_is) ids places

    -- memory was wanting for its id
    pub unnamed_stays : new.ids ≡ old.ids → new.places ≡ old.places → progress_of s.trees new ≡ progress_of s.trees old
    unnamed_stays ids places = progress_stay s book old new more.0 now_judged more.1 over ids places concluded bad

    pub unnamed_judged : new.ids ≡ old.ids → new.places ≡ old.places → IsJudged s book new
    unnamed_judged ids places = judged_stay s book old new more.0 now_judged more.1 over ids places

  -- the step is not valid
  pub invalid_taken : (new : Judged) (f : StepFault) → step_fault old_s.declared book (concluded_by old_s.trees old.proof) (stated_step old_s.trees kept) ≡ Some f → new.proof ≡ old.proof →
      new.ids ≡ old.ids → new.places ≡ old.places → new.concluded ≡ old.concluded → new.bad ≡ Some (record { name = step.id.now; fault = f }) → (rewrites : List StatedRewrite) →
      progress_of s.trees new ≡ progress s.declared book rewrites (progress_of s.trees old) (text.Step named)
  invalid_taken new f e proof ids places concluded bad rewrites =
      bad_taken s book old new [] now_judged (same_proof old new proof) (over_same s book old new now_judged proof) rewrites (text.Step named) f good (fault_is (Some f) e) ids places concluded bad

-- a checker that stays but for its first bad command, while the terms grow
module _ (old_s s : State) (book : List BookRule) (g : Grows old_s s) (old new : Judged) (h : IsJudged old_s book old) (proof : new.proof ≡ old.proof) (ids : new.ids ≡ old.ids) (places : new.places ≡ old.places) where
  pub judged_same : IsJudged s book new
  judged_same =
      let j = judged_kept old_s s book old g h in
      judged_stay s book old new [] j (same_proof old new proof) (over_same s book old new j proof) ids places

  pub progress_same : new.concluded ≡ old.concluded → new.bad ≡ old.bad → progress_of s.trees new ≡ progress_of s.trees old
  progress_same concluded bad =
      let j = judged_kept old_s s book old g h in
      progress_stay s book old new [] j (same_proof old new proof) (over_same s book old new j proof) ids places concluded bad
