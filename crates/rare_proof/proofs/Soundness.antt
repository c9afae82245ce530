-- What valid steps conclude is true.
use Rattle.std.proofs.Common.{◌≡◌, ℕ, zero, suc, ◌+◌, ◌<◌, Bool, true, false, List, [], ◌∷◌, All, map, length, take, slice_get, Option, Some, None, is_some, refl, sym, ap, ◌∙◌, subst, if◌then◌else◌, arith}
use Rattle.std.specs.Option.{option_map}
use Rattle.std.proofs.lemmas.Bool.{and_parts, eqb-true}
use Rattle.std.proofs.lemmas.Option.{none-some, same_Some, get_or_from_slice_get, slice_get_within}
use Rattle.std.proofs.lemmas.List.Elements.{All-nil, All-cons, All-head, All-tail, All-push}
use Rattle.rare_sort.specs.declared.declarations.Declarations.{Declarations}
use Rattle.rare_sort.specs.declared.tree.Tree.{Tree}
use Rattle.rare_sort.specs.declared.tree.Tree.TheViews.{roll-out-Tree}
use Rattle.rare_sort.specs.Trees.{node, head_of, indices_of, args_of}
use Rattle.rare_sort.specs.Each.{EachPair}
use Rattle.rare_sort.specs.Sameness.{head_eq, linears_eq, tree_eq}
use Rattle.rare_sort.specs.Sorting.{all_of}
use Rattle.rare_meaning.specs.Interpretations.{FunctionClass}
use Rattle.rare_meaning.specs.MeaningLaws.{StepsKeepMeaning}
use Rattle.rare_meaning.specs.TrueRewrite.{MeansSame}
use Rattle.rare_meaning.proofs.RewriteLemmas.{steps_keep_meaning}
use Rattle.rare_sort.proofs.SamenessLemmas.{tree_eq-Decides, head_eq-Decides, linears_eq-Decides}
use Rattle.rare_meaning.specs.Settings.{Item}
use Rattle.rare_eval.specs.Evaluation.{evaluation}
use Rattle.rare_eval.proofs.EvaluationLemmas.{one_value_means_same}
use Rattle.rare_rule.specs.Books.{AreTyped, BookRule}
use Rattle.rare_inst.specs.InstanceLaws.{InstancesMeanSame}
use Rattle.rare_proof.specs.declared.fault.StepFault.TheVariants.{NoSuchStep, NotEqual, OtherHead, OtherPremise, NoValue, OtherValue}
use Rattle.rare_proof.specs.Steps.{Equation, StatedRule, StatedStep, Refl, Cong, Trans, Evaluate, Rewrite, equation, equations_at, first_failing, equation_eq, equations_eq, differing, have_same_head, are_joined, have_values, have_same_value, conditions, rule_fault, step_fault}
use Rattle.rare_proof.specs.Proofs.{HasArguments, IsProof, conclusions}
use Rattle.rare_proof.specs.StepLaws.{IsTrueEquation, AreTrueEquations, RuleHolds, ValidStepsAreTrue}
use Rattle.rare_proof.proofs.Instances.{all_met, need_met, true_rewrite}
use Rattle.rare_proof.proofs.Listing.{take_one}
use Rattle.rare_proof.proofs.Values.{same_answers}

same_tree : (t u : Tree) → tree_eq t u ≡ true → t ≡ u
same_tree t u e = (tree_eq-Decides t u).0 e

same_equation : (p q : Equation) → equation_eq p q ≡ true → p ≡ q
same_equation p q e =
    let both = and_parts _ _ e in
    let l : p.left ≡ q.left = same_tree p.left q.left both.0 in
    let r : p.right ≡ q.right = same_tree p.right q.right both.1 in
    λ i. equation (l i) (r i)

map_at : (steps : List StatedStep) (k : ℕ) (s : StatedStep) → slice_get steps k ≡ Some s → slice_get (conclusions steps) k ≡ Some s.concluded
map_at [] k s at = absurd (none-some s at)
map_at (x ∷ ss) zero s at = ap (λ (y : StatedStep). Some y.concluded) (same_Some x s at)
map_at (x ∷ ss) (suc k) s at = map_at ss k s at

there : (steps : List StatedStep) (k : ℕ) → k < length steps → (s : StatedStep) × (slice_get steps k ≡ Some s)
there [] k lt = absurd (omega (arith, lt))
there (x ∷ ss) zero lt = (x, refl)
there (x ∷ ss) (suc k) lt = there ss k (omega (arith, lt))

each_at : {X : Type 0} (P : X → Type 0) (xs : List X) (k : ℕ) (x : X) → All P xs → slice_get xs k ≡ Some x → P x
each_at P xs k x h at = subst P (get_or_from_slice_get xs k x x at) (h k x (slice_get_within xs k x at))

conclusions_length : (steps : List StatedStep) → length (conclusions steps) ≡ length steps
conclusions_length [] = refl
conclusions_length (s ∷ ss) = ap suc (conclusions_length ss)

taken : {X : Type 0} (xs : List X) (n : ℕ) → length xs ≡ n → take n xs ≡ xs
taken [] zero e = refl
taken [] (suc n) e = refl
taken (x ∷ xs) zero e = absurd (omega (arith, e))
taken (x ∷ xs) (suc n) e = ap (λ ys. x ∷ ys) (taken xs n (omega (arith, e)))

module _ (c : FunctionClass) (declared : Declarations) where
  abbrev IsTrue : Equation → Type 0
  IsTrue e = IsTrueEquation c declared e

  abbrev AreTrue : List Equation → Type 0
  AreTrue es = AreTrueEquations c declared es

  true_at : (es : List Equation) (k : ℕ) (e : Equation) → AreTrue es → slice_get es k ≡ Some e → IsTrue e
  true_at [] k e h at = absurd (none-some e at)
  true_at (x ∷ es) zero e h at = subst IsTrue (same_Some x e at) (All-head IsTrue x es h)
  true_at (x ∷ es) (suc k) e h at = true_at es k e (All-tail IsTrue x es h) at

  true_premises : (es : List Equation) (places : List ℕ) (ps : List Equation) → AreTrue es → equations_at es places ≡ Some ps → AreTrue ps
  true_premises es [] ps h e = subst AreTrue (same_Some [] ps e) (All-nil IsTrue)
  true_premises es (k ∷ places) ps h e = by (slice_get es k) refl (all_of (map (slice_get es) places)) refl e (true_premises es places)
    where
      by : (p : Option Equation) → slice_get es k ≡ p → (qs : Option (List Equation)) → all_of (map (slice_get es) places) ≡ qs →
          all_of (slice_get es k ∷ map (slice_get es) places) ≡ Some ps → ((rs : List Equation) → AreTrue es → equations_at es places ≡ Some rs → AreTrue rs) → AreTrue ps
      by None n qs m e ih = absurd (none-some ps (sym (ap (λ p. all_of (p ∷ map (slice_get es) places)) n) ∙ e))
      by (Some p) n None m e ih = absurd (none-some ps (sym (ap (λ x. all_of (x ∷ map (slice_get es) places)) n ∙ ap (option_map (λ xs. p ∷ xs)) m) ∙ e))
      by (Some p) n (Some qs) m e ih =
          let whole = sym (ap (λ x. all_of (x ∷ map (slice_get es) places)) n ∙ ap (option_map (λ xs. p ∷ xs)) m) ∙ e in
          subst AreTrue (same_Some (p ∷ qs) ps whole) (All-cons IsTrue p qs (true_at es k p h n) (ih qs h m))

  true_equations_eq : (ps qs : List Equation) → equations_eq ps qs ≡ true → AreTrue ps → AreTrue qs
  true_equations_eq [] [] e h = h
  true_equations_eq [] (q ∷ qs) e h = absurd cc
  true_equations_eq (p ∷ ps) [] e h = absurd cc
  true_equations_eq (p ∷ ps) (q ∷ qs) e h =
      let parts = and_parts _ _ e in
      All-cons IsTrue q qs (subst IsTrue (same_equation p q parts.0) (All-head IsTrue p ps h)) (true_equations_eq ps qs parts.1 (All-tail IsTrue p ps h))

  abbrev kept : StepsKeepMeaning c declared
  kept = steps_keep_meaning c declared

  -- arguments that are equal or equated by premises mean the same
  same_args : (ss ts : List Tree) → length ss ≡ length ts → AreTrue (differing ss ts) → EachPair (MeansSame c declared) ss ts
  same_args [] [] n h = tt
  same_args [] (t ∷ ts) n h = absurd (omega (arith, n))
  same_args (s ∷ ss) [] n h = absurd (omega (arith, n))
  same_args (s ∷ ss) (t ∷ ts) n h = by (tree_eq s t) refl h (same_args ss ts (omega (arith, n)))
    where
      by : (b : Bool) → tree_eq s t ≡ b → AreTrue (if b then differing ss ts else (equation s t ∷ differing ss ts)) →
          (AreTrue (differing ss ts) → EachPair (MeansSame c declared) ss ts) → EachPair (MeansSame c declared) (s ∷ ss) (t ∷ ts)
      by true e h ih = let P : Tree → Type 0 = λ u. MeansSame c declared s u in (subst P (same_tree s t e) (kept.reflexive s), ih h)
      by false e h ih = (All-head IsTrue (equation s t) (differing ss ts) h, ih (All-tail IsTrue (equation s t) (differing ss ts) h))

  true_cong : (a b : Tree) → have_same_head a b ≡ true → AreTrue (differing (args_of a) (args_of b)) → MeansSame c declared a b
  true_cong a b e h =
      let parts = and_parts (head_eq (head_of a) (head_of b)) _ e in
      let rest = and_parts (linears_eq (indices_of a) (indices_of b)) _ parts.1 in
      let head : head_of a ≡ head_of b = (head_eq-Decides (head_of a) (head_of b)).0 parts.0 in
      let indices : indices_of a ≡ indices_of b = (linears_eq-Decides (indices_of a) (indices_of b)).0 rest.0 in
      let args = same_args (args_of a) (args_of b) (eqb-true _ _ rest.1) h in
      let left : node (head_of a) (indices_of a) (args_of a) ≡ a = roll-out-Tree a in
      let right : node (head_of a) (indices_of a) (args_of b) ≡ b = (λ i. node (head i) (indices i) (args_of b)) ∙ roll-out-Tree b in
      let P : Tree → Type 0 = λ x. MeansSame c declared x b in
      let Q : Tree → Type 0 = λ x. MeansSame c declared (node (head_of a) (indices_of a) (args_of a)) x in
      subst P left (subst Q right (kept.congruent (head_of a) (indices_of a) (args_of a) (args_of b) args))

  true_joined : (ps : List Equation) (a b : Tree) → AreTrue ps → are_joined ps a b ≡ true → MeansSame c declared a b
  true_joined [] a b h e = absurd cc
  true_joined (p ∷ []) a b h e = absurd cc
  true_joined (p ∷ q ∷ []) a b h e =
      let parts = and_parts _ _ e in
      let joined = and_parts _ _ parts.1 in
      let start : p.left ≡ a = same_tree p.left a parts.0 in
      let middle : p.right ≡ q.left = same_tree p.right q.left joined.0 in
      let end : q.right ≡ b = same_tree q.right b joined.1 in
      let first = All-head IsTrue p (q ∷ []) h in
      let second = All-head IsTrue q [] (All-tail IsTrue p (q ∷ []) h) in
      let P : Tree → Type 0 = λ x. MeansSame c declared x q.right in
      let Q : Tree → Type 0 = λ x. MeansSame c declared x b in
      let R : Tree → Type 0 = λ x. MeansSame c declared p.left x in
      subst Q start (subst R end (kept.transitive p.left p.right q.right first (subst P (sym middle) second)))
  true_joined (p ∷ q ∷ r ∷ ps) a b h e = absurd cc

  -- sides that have one value
  true_evaluation : (a b : Tree) → have_values a b ≡ true → have_same_value a b ≡ true → MeansSame c declared a b
  true_evaluation a b have same = by (evaluation a) refl (and_parts (is_some (evaluation a)) _ have).0
    where
      by : (x : Option Item) → evaluation a ≡ x → is_some (evaluation a) ≡ true → MeansSame c declared a b
      by None e h = let none : is_some (evaluation a) ≡ false = ap is_some e in cc
      by (Some i) e h = one_value_means_same c declared a b i e (same_answers (evaluation a) (evaluation b) same i e)

  module _ (law : InstancesMeanSame) (book : List BookRule) (typed : AreTyped book) where
    -- a rule whose conditions hold for true premises
    true_by_rule : (rule : StatedRule) (a b : Tree) (ps : List Equation) → RuleHolds c book rule → HasArguments declared rule → AreTrue ps →
        first_failing (conditions declared book rule a b ps) ≡ None → MeansSame c declared a b
    true_by_rule Refl a b ps holds args h e =
        let met = all_met (conditions declared book Refl a b ps) e in
        let same = need_met (tree_eq a b) NotEqual met.1.0 in
        let P : Tree → Type 0 = λ x. MeansSame c declared a x in
        subst P (same_tree a b same) (kept.reflexive a)
    true_by_rule Cong a b ps holds args h e =
        let pairs = differing (args_of a) (args_of b) in
        let met = all_met (conditions declared book Cong a b ps) e in
        let head = need_met (have_same_head a b) OtherHead met.0 in
        let premises = need_met (equations_eq ps pairs) OtherPremise met.1.1.0 in
        true_cong a b head (true_equations_eq ps pairs premises h)
    true_by_rule Trans a b ps holds args h e =
        let met = all_met (conditions declared book Trans a b ps) e in
        true_joined ps a b h (need_met (are_joined ps a b) OtherPremise met.1.0)
    true_by_rule Evaluate a b ps holds args h e =
        let met = all_met (conditions declared book Evaluate a b ps) e in
        let have = need_met (have_values a b) NoValue met.1.0 in
        true_evaluation a b have (need_met (have_same_value a b) OtherValue met.1.1.0)
    true_by_rule (Rewrite k args) a b ps holds given h e = true_rewrite c declared law book typed k args a b ps holds given h e

    true_step : (earlier : List Equation) (s : StatedStep) → RuleHolds c book s.rule → HasArguments declared s.rule → AreTrue earlier →
        step_fault declared book earlier s ≡ None → IsTrue s.concluded
    true_step earlier s holds args h e = by (equations_at earlier s.premises) refl e
      where
        by : (ps : Option (List Equation)) → equations_at earlier s.premises ≡ ps → rule_fault declared book s.rule s.concluded ps ≡ None → IsTrue s.concluded
        by None m e = absurd (none-some NoSuchStep (sym e))
        by (Some ps) m e = true_by_rule s.rule s.concluded.left s.concluded.right ps holds args (true_premises earlier s.premises ps h m) e

    -- the first steps of a proof
    true_front : (steps : List StatedStep) → All (λ s. RuleHolds c book s.rule) steps → IsProof declared book steps → (n : ℕ) → ¬ (length steps < n) →
        AreTrue (take n (conclusions steps))
    true_front steps hold p zero le = All-nil IsTrue
    true_front steps hold p (suc n) le =
        let s = there steps n (omega (arith, le)) in
        let before = true_front steps hold p n (omega (arith, le)) in
        let holds = each_at (λ (x : StatedStep). RuleHolds c book x.rule) steps n s.0 hold s.1 in
        let args = each_at (λ (x : StatedStep). HasArguments declared x.rule) steps n s.0 p.arguments s.1 in
        let one = true_step (take n (conclusions steps)) s.0 holds args before (p.valid n s.0 s.1) in
        let next : suc n ≡ n + 1 = omega arith in
        subst AreTrue (sym (ap (λ m. take m (conclusions steps)) next ∙ take_one (conclusions steps) n s.0.concluded (map_at steps n s.0 s.1)))
        (All-push IsTrue (take n (conclusions steps)) s.0.concluded before one)

    true_proof : (steps : List StatedStep) → All (λ s. RuleHolds c book s.rule) steps → IsProof declared book steps → AreTrue (conclusions steps)
    true_proof steps hold p =
        subst AreTrue (taken (conclusions steps) (length steps) (conclusions_length steps)) (true_front steps hold p (length steps) (omega arith))

    pub valid_steps : ValidStepsAreTrue c declared book
    valid_steps = record { step = true_step; proof = true_proof }
