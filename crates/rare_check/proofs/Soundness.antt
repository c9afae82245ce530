-- What a proof concludes is true.
use Rattle.std.proofs.Common.{◌≡◌, ℕ, zero, suc, Bool, true, false, nat_eq, List, [], ◌∷◌, ◌++◌, slice_get, length, Option, Some, None, All, refl, sym, ap, ◌∙◌, subst, if◌then◌else◌, ◌||◌, arith}
use Rattle.std.specs.List.{list_any}
use Rattle.std.specs.Option.{option_map}
use Rattle.std.proofs.lemmas.Bool.{and_parts, eqb-true}
use Rattle.std.proofs.lemmas.List.Elements.{All-nil, All-cons}
use Rattle.std.proofs.lemmas.Option.{none-some, same_Some}
use Rattle.rare_sort.specs.Ids.{tree_at}
use Rattle.rare_sort.specs.declared.declarations.Declarations.{Declarations}
use Rattle.rare_sort.specs.declared.tree.Tree.{Tree}
use Rattle.rare_sort.specs.Sameness.{tree_eq}
use Rattle.rare_sort.proofs.SamenessLemmas.{tree_eq-Decides}
use Rattle.rare_meaning.specs.Interpretations.{FunctionClass}
use Rattle.rare_meaning.specs.TrueRewrite.{MeansSame}
use Rattle.rare_text.specs.Problems.{StatedRewrite}
use Rattle.rare_term.specs.State.{State}
use Rattle.rare_rule.specs.Books.{BookRule, shipped_at}
use Rattle.rare_rule.specs.Holds.{Holds}
use Rattle.rare_rule.specs.TypedRule.{TypedRule}
use Rattle.rare_proof.specs.Proofs.{concluded_by, stated_rule, stated_step, stated_steps}
use Rattle.rare_proof.specs.RulesHold.{HoldsAt}
use Rattle.rare_proof.specs.StepLaws.{AreTrueEquations, RuleHolds, ValidStepsAreTrue}
use Rattle.rare_proof.specs.Steps.{Equation, equation, equation_eq, needs}
use Rattle.rare_proof.specs.declared.step.Step.{Step as KeptStep}
use Rattle.rare_proof.specs.declared.step.StepRule.{StepRule}
use Rattle.rare_proof.specs.declared.step.StepRule.TheVariants as by
use Rattle.rare_proof.specs.declared.fault.StepFault.{StepFault}
use Rattle.rare_proof.specs.declared.fault.StepFault.TheVariants.{OtherEquation}
use Rattle.rare_proof_text.specs.ProofCommands.{ProofCommand, Define, Step, Conclude}
use Rattle.rare_check.specs.Verdicts.{Bad, ShippedHold, NamedEquation, equation_named, fault_of, rewrite_place, rewrite_equation, equation_of_rewrite, equation_fault, conclusion_fault}
use Rattle.rare_check.specs.Checking.{Progress}
use Rattle.rare_check.specs.declared.judged.Judged.{Judged}
use Rattle.rare_check.specs.inner.Judging.{AreNamedRules, IsJudged, IsNamedRule, earlier_of, equation_at, place_named}
use Rattle.rare_check.specs.inner.Progress.{progress, unless_bad, by_fault, with_place, concluded_after}
use Rattle.rare_check.specs.inner.Truth.{NamedHold, PlacesAreTrue}
use Rattle.rare_check.proofs.Answering.{any-push}
use Rattle.rare_check.proofs.Judgements.{places_within}
use Rattle.rare_check.proofs.Naming.{named_at, place_within}

-- a rule of the book that is shipped holds, and so does one that is named
module _ (c : FunctionClass) (book : List BookRule) (shipped : ShippedHold c book) (named : List ℕ) (hold : NamedHold c book named) where
  holds_at : (bs : List BookRule) → ShippedHold c bs → (k : ℕ) → shipped_at bs k ≡ Some true → HoldsAt c bs k
  holds_at [] h k is t at = absurd (none-some true is)
  holds_at (b ∷ bs) h zero is t at =
      let T : TypedRule → Type 0 = λ t. Holds c t.rule t.constraints in
      subst T (same_Some b.typed t at) (h.0 (same_Some b.shipped true is))
  holds_at (b ∷ bs) h (suc k) is t at = holds_at bs h.1 k is t at

  rule_holds_at : (k : ℕ) → list_any (nat_eq k) named ≡ true → HoldsAt c book k
  rule_holds_at k is t at = by (slice_get book k) refl
    where
      by : (o : Option BookRule) → slice_get book k ≡ o → Holds c t.rule t.constraints
      by None e = absurd (none-some t (sym (ap (option_map (λ b. b.typed)) e) ∙ at))
      by (Some b) e = flag b.shipped refl
        where
          flag : (x : Bool) → b.shipped ≡ x → Holds c t.rule t.constraints
          flag true f = holds_at book shipped k (ap (option_map (λ b. b.shipped)) e ∙ ap Some f) t at
          flag false f = hold k is (ap (option_map (λ b. b.shipped)) e ∙ ap Some f) t at

  pub rule_holds : (ts : List Tree) (r : StepRule) → IsNamedRule named r → RuleHolds c book (stated_rule ts r)
  rule_holds ts by.Refl h = tt
  rule_holds ts by.Cong h = tt
  rule_holds ts by.Trans h = tt
  rule_holds ts by.Evaluate h = tt
  rule_holds ts (by.Rewrite k args) h = rule_holds_at k h

  pub rules_hold : (ts : List Tree) (steps : List KeptStep) → AreNamedRules named steps → All (λ s. RuleHolds c book s.rule) (stated_steps ts steps)
  rules_hold ts [] h = All-nil (λ s. RuleHolds c book s.rule)
  rules_hold ts (s ∷ steps) h =
      All-cons (λ s. RuleHolds c book s.rule) (stated_step ts s) (stated_steps ts steps) (rule_holds ts s.by (h 0 s (omega arith)))
      (rules_hold ts steps (λ k d lt. h (suc k) d (omega arith)))

module _ (c : FunctionClass) (d : Declarations) where
  abbrev pub IsTrueOne : Equation → Type 0
  IsTrueOne e = MeansSame c d e.left e.right

  abbrev pub NamedAreTrue : List NamedEquation → Type 0
  NamedAreTrue earlier = (id : List ℕ) (e : Equation) → equation_named earlier id ≡ Some e → IsTrueOne e

  -- the equations under the ids of a proof are true, where the rules that it names hold
  pub named_true : (s : State) (book : List BookRule) (named : List ℕ) (j : Judged) → s.declared ≡ d → ValidStepsAreTrue c s.declared book → ShippedHold c book → NamedHold c book named →
      IsJudged s book j → AreNamedRules named j.proof → NamedAreTrue (earlier_of s.trees j)
  named_true s book named j same law shipped hold h rules id e is = by (place_named j.ids j.places id) refl (sym (named_at id es j.ids j.places) ∙ is)
    where
      es : List Equation
      es = concluded_by s.trees j.proof

      trues : AreTrueEquations c d es
      trues =
          (let P : Declarations → Type 0 = λ d. AreTrueEquations c d es in
          subst P same (law.proof (stated_steps s.trees j.proof) (rules_hold c book shipped named hold s.trees j.proof rules) h.proof.proof))

      by : (o : Option ℕ) → place_named j.ids j.places id ≡ o → option_map (equation_at es) o ≡ Some e → IsTrueOne e
      by None n m = absurd (none-some e m)
      by (Some k) n m =
          let lt = place_within id (length es) j.ids j.places k (places_within s book j h) n in
          subst IsTrueOne (same_Some (equation_at es k) e m) (trues k (equation (tree_at [] 0) (tree_at [] 0)) lt)

  same_sides : (s r : Equation) → equation_eq s r ≡ true → s ≡ r
  same_sides s r e =
      let both = and_parts (tree_eq s.left r.left) (tree_eq s.right r.right) e in
      let l : s.left ≡ r.left = (tree_eq-Decides s.left r.left).0 both.0 in
      let t : s.right ≡ r.right = (tree_eq-Decides s.right r.right).0 both.1 in
      λ i. record { left = l i; right = t i }

  no_fault : (r : Equation) (s : Option Equation) → equation_fault (Some r) s ≡ None → (x : Equation) × (s ≡ Some x) × (equation_eq x r ≡ true)
  no_fault r None e = absurd cc
  no_fault r (Some x) e = (x, refl, by (equation_eq x r) e)
    where
      by : (b : Bool) → needs b OtherEquation ≡ None → b ≡ true
      by true e = refl
      by false e = cc

  -- the rewrite that a valid conclusion names is true where the equations before it are
  pub true_conclusion : (rewrites : List StatedRewrite) (earlier : List NamedEquation) (name id : List ℕ) (k : ℕ) (r : StatedRewrite) → NamedAreTrue earlier →
      conclusion_fault rewrites earlier name id ≡ None → rewrite_place rewrites name ≡ Some k → slice_get rewrites k ≡ Some r → MeansSame c d r.left r.right
  true_conclusion rewrites earlier name id k r h e place at =
      let sides : equation_of_rewrite rewrites (rewrite_place rewrites name) ≡ Some (rewrite_equation r) = ap (equation_of_rewrite rewrites) place ∙ ap (option_map rewrite_equation) at in
      let fault : equation_fault (Some (rewrite_equation r)) (equation_named earlier id) ≡ None = ap (λ x. equation_fault x (equation_named earlier id)) (sym sides) ∙ e in
      let found = no_fault (rewrite_equation r) (equation_named earlier id) fault in
      subst IsTrueOne (same_sides found.0 (rewrite_equation r) found.2) (h id found.0 found.1)

-- ---- what is concluded stays true, command by command

module _ (c : FunctionClass) (d : Declarations) (book : List BookRule) (rewrites : List StatedRewrite) where
  true_place : (p : Progress) (name id : List ℕ) (j : ℕ) → NamedAreTrue c d p.earlier → PlacesAreTrue c d rewrites p.concluded → conclusion_fault rewrites p.earlier name id ≡ None →
      rewrite_place rewrites name ≡ Some j → PlacesAreTrue c d rewrites (with_place p.concluded (Some j))
  true_place p name id j t h f e k r any at = by (list_any (nat_eq j) p.concluded) any
    where
      last : (b : Bool) → list_any (nat_eq k) p.concluded ≡ b → (b || nat_eq k j) ≡ true → MeansSame c d r.left r.right
      last true is any = h k r is at
      last false is any = true_conclusion c d rewrites p.earlier name id k r t f (e ∙ ap Some (sym (eqb-true k j any))) at

      by : (b : Bool) → list_any (nat_eq k) (if b then p.concluded else (p.concluded ++ j ∷ [])) ≡ true → MeansSame c d r.left r.right
      by true any = h k r any at
      by false any = last (list_any (nat_eq k) p.concluded) refl (sym (any-push (nat_eq k) p.concluded j) ∙ any)

  true_places : (p : Progress) (name id : List ℕ) → NamedAreTrue c d p.earlier → PlacesAreTrue c d rewrites p.concluded → conclusion_fault rewrites p.earlier name id ≡ None →
      (o : Option ℕ) → rewrite_place rewrites name ≡ o → PlacesAreTrue c d rewrites (with_place p.concluded o)
  true_places p name id t h f None e = h
  true_places p name id t h f (Some j) e = true_place p name id j t h f e

  true_command : (p : Progress) (a : ProofCommand) → NamedAreTrue c d p.earlier → PlacesAreTrue c d rewrites p.concluded → fault_of d book rewrites p.earlier a ≡ None →
      PlacesAreTrue c d rewrites (concluded_after rewrites p.concluded a)
  true_command p (Define name t) truth h f = h
  true_command p (Step s) truth h f = h
  true_command p (Conclude name id) truth h f = true_places p name id truth h f (rewrite_place rewrites name) refl

  pub true_progress : (p : Progress) (a : ProofCommand) → NamedAreTrue c d p.earlier → PlacesAreTrue c d rewrites p.concluded → PlacesAreTrue c d rewrites (progress d book rewrites p a).concluded
  true_progress p a t h = by p.bad
    where
      faults : (g : Option StepFault) → fault_of d book rewrites p.earlier a ≡ g → PlacesAreTrue c d rewrites (by_fault d book rewrites p a g).concluded
      faults (Some fault) e = h
      faults None e = true_command p a t h e

      by : (b : Option Bad) → PlacesAreTrue c d rewrites (unless_bad d book rewrites p a b).concluded
      by (Some bad) = h
      by None = faults (fault_of d book rewrites p.earlier a) refl
