-- A proof with one step more.
use Rattle.std.proofs.Common.{◌≡◌, ℕ, zero, suc, ◌<◌, ◌&&◌, ◌||◌, Bool, true, false, nat_eq, List, [], ◌∷◌, ◌++◌, length, take, slice_get, get_or, position, Option, Some, None, refl, sym, ap, ◌∙◌, subst, arith, ◌⊎◌, inl, inr}
use Rattle.std.specs.List.{list_any}
use Rattle.std.proofs.Math.Seq.{take-append_seam}
use Rattle.std.proofs.lemmas.Bool.{eqb-true, and_parts}
use Rattle.std.proofs.lemmas.Bool.Decides.{Decides-eqb}
use Rattle.std.proofs.lemmas.List.{map-append, length-map, take-append-le}
use Rattle.std.proofs.lemmas.List.Elements.{All-nil, All-push}
use Rattle.std.proofs.lemmas.List.Quantifiers.{position-Some}
use Rattle.std.proofs.lemmas.Option.{none-some, same_Some, slice_get-get_or}
use Rattle.rare_sort.specs.Ids.{tree_at, IsOneToOne}
use Rattle.rare_sort.specs.declared.declarations.Declarations.{Declarations}
use Rattle.rare_sort.specs.declared.tree.TermId.{TermId}
use Rattle.rare_sort.specs.declared.tree.Tree.{Tree}
use Rattle.rare_term.specs.State.{State, Grows}
use Rattle.rare_rule.specs.Books.{BookRule}
use Rattle.rare_proof.specs.declared.step.Step.{Step}
use Rattle.rare_proof.specs.Steps.{Equation, StatedRule, StatedStep, equation, step_fault}
use Rattle.rare_proof.specs.Proofs.{HasArguments, IsProof, IsProofOver, IsStepOf, conclusions, concluded_by, is_equation, stated_rule, stated_step, stated_steps}
use Rattle.rare_proof.proofs.Growing.{concluded_kept, proof_kept, rule_kept, step_is, step_kept, tree_kept}
use Rattle.rare_proof.proofs.Premises.{concluded_at, step_at}

or_true : (a b : Bool) → b ≡ true → (a || b) ≡ true
or_true true b e = refl
or_true false b e = e

module _ {X : Type 0} where
  shift : (z : X) (xs : List X) (x : X) (k : ℕ) (y : X) → ((k < length xs) × (slice_get xs k ≡ Some y)) ⊎ ((k ≡ length xs) × (x ≡ y)) →
      ((suc k < length (z ∷ xs)) × (slice_get xs k ≡ Some y)) ⊎ ((suc k ≡ length (z ∷ xs)) × (x ≡ y))
  shift z xs x k y (inl h) = inl (omega (arith, h.0), h.1)
  shift z xs x k y (inr h) = inr (ap suc h.0, h.1)

  at_push : (xs : List X) (x : X) (k : ℕ) (y : X) → slice_get (xs ++ x ∷ []) k ≡ Some y → ((k < length xs) × (slice_get xs k ≡ Some y)) ⊎ ((k ≡ length xs) × (x ≡ y))
  at_push [] x zero y e = inr (refl, same_Some x y e)
  at_push [] x (suc k) y e = absurd (none-some y e)
  at_push (z ∷ xs) x zero y e = inl (omega arith, e)
  at_push (z ∷ xs) x (suc k) y e = shift z xs x k y (at_push xs x k y e)

  at_last : (xs : List X) (x : X) → slice_get (xs ++ x ∷ []) (length xs) ≡ Some x
  at_last [] x = refl
  at_last (z ∷ xs) x = at_last xs x

  any_at : (p : X → Bool) (xs : List X) (k : ℕ) (x : X) → slice_get xs k ≡ Some x → p x ≡ true → list_any p xs ≡ true
  any_at p [] k x at is = absurd (none-some x at)
  any_at p (z ∷ xs) zero x at is = ap (λ b. b || list_any p xs) (ap p (same_Some z x at) ∙ is)
  any_at p (z ∷ xs) (suc k) x at is = or_true (p z) (list_any p xs) (any_at p xs k x at is)

-- ---- stated steps

conclusions_push : (steps : List StatedStep) (s : StatedStep) → conclusions (steps ++ s ∷ []) ≡ conclusions steps ++ s.concluded ∷ []
conclusions_push steps s = map-append (λ t. t.concluded) steps (s ∷ [])

module _ (d : Declarations) (book : List BookRule) (steps : List StatedStep) (s : StatedStep) (h : IsProof d book steps)
    (valid : step_fault d book (conclusions steps) s ≡ None) (arguments : HasArguments d s.rule)
    (new : (k : ℕ) → slice_get (conclusions steps) k ≡ Some s.concluded → ⊥) where
  valid_at : (k : ℕ) (t : StatedStep) → ((k < length steps) × (slice_get steps k ≡ Some t)) ⊎ ((k ≡ length steps) × (s ≡ t)) → step_fault d book (take k (conclusions steps ++ s.concluded ∷ [])) t ≡ None
  valid_at k t (inl p) =
      let n = length-map steps (λ (x : StatedStep). x.concluded) in
      ap (λ es. step_fault d book es t) (take-append-le k (conclusions steps) (s.concluded ∷ []) (omega (arith, p.0, n))) ∙ h.valid k t p.1
  valid_at k t (inr p) =
      let n = length-map steps (λ (x : StatedStep). x.concluded) in
      let whole : take k (conclusions steps ++ s.concluded ∷ []) ≡ conclusions steps =
      ap (λ m. take m (conclusions steps ++ s.concluded ∷ [])) (p.0 ∙ sym n) ∙ take-append_seam (conclusions steps) (s.concluded ∷ []) in
      (λ i. step_fault d book (whole i) (sym p.1 i)) ∙ valid

  differ_at : (j k : ℕ) (e : Equation) → ((j < length (conclusions steps)) × (slice_get (conclusions steps) j ≡ Some e)) ⊎ ((j ≡ length (conclusions steps)) × (s.concluded ≡ e)) →
      ((k < length (conclusions steps)) × (slice_get (conclusions steps) k ≡ Some e)) ⊎ ((k ≡ length (conclusions steps)) × (s.concluded ≡ e)) → j ≡ k
  differ_at j k e (inl p) (inl q) = h.differ j k e p.1 q.1
  differ_at j k e (inl p) (inr q) = absurd (new j (p.1 ∙ ap Some (sym q.1)))
  differ_at j k e (inr p) (inl q) = absurd (new k (q.1 ∙ ap Some (sym p.1)))
  differ_at j k e (inr p) (inr q) = p.0 ∙ sym q.0

  one_more : IsProof d book (steps ++ s ∷ [])
  one_more = record {
    valid = λ k t at. ap (λ es. step_fault d book (take k es) t) (conclusions_push steps s) ∙ valid_at k t (at_push steps s k t at);
    arguments = All-push (λ (x : StatedStep). HasArguments d x.rule) steps s h.arguments arguments;
    differ = λ j k e a b.
        differ_at j k e (at_push (conclusions steps) s.concluded j e (ap (λ es. slice_get es j) (sym (conclusions_push steps s)) ∙ a))
        (at_push (conclusions steps) s.concluded k e (ap (λ es. slice_get es k) (sym (conclusions_push steps s)) ∙ b));
  }

-- ---- steps by ids

module _ (book : List BookRule) (now : State) (one : IsOneToOne now.trees) (steps : List Step) (s : Step) (h : IsProofOver now book steps) (is : IsStepOf now s) where
  abbrev ts : List Tree
  ts = now.trees

  abbrev here : Equation
  here = equation (tree_at ts s.left.0) (tree_at ts s.right.0)

  same_ids : (t : Step) → IsStepOf now t → equation (tree_at ts t.left.0) (tree_at ts t.right.0) ≡ here → is_equation s.left s.right t ≡ true
  same_ids t g e =
      let l : s.left.0 ≡ t.left.0 = one s.left.0 t.left.0 is.left g.left (sym (ap (λ x. x.left) e)) in
      let r : s.right.0 ≡ t.right.0 = one s.right.0 t.right.0 is.right g.right (sym (ap (λ x. x.right) e)) in
      both (nat_eq s.left.0 t.left.0) (nat_eq s.right.0 t.right.0) ((Decides-eqb s.left.0 t.left.0).1 l) ((Decides-eqb s.right.0 t.right.0).1 r)
    where
      both : (x y : Bool) → x ≡ true → y ≡ true → (x && y) ≡ true
      both true y e f = f
      both false y e f = cc

  there : (k : ℕ) (t : Step) → slice_get steps k ≡ Some t → slice_get (concluded_by ts steps) k ≡ Some here → is_equation s.left s.right t ≡ true
  there k t at e = same_ids t (step_at now steps k t h.are at) (same_Some _ here (sym (concluded_at ts steps k t at) ∙ e))

  not_there : list_any (is_equation s.left s.right) steps ≡ false → (k : ℕ) → slice_get (concluded_by ts steps) k ≡ Some here → ⊥
  not_there none k e = by (slice_get steps k) refl
    where
      by : (o : Option Step) → slice_get steps k ≡ o → ⊥
      by (Some t) at = let f : list_any (is_equation s.left s.right) steps ≡ true = any_at (is_equation s.left s.right) steps k t at (there k t at e) in cc
      by None at = none-some here (sym (past steps k at) ∙ e)
        where
          past : (xs : List Step) (j : ℕ) → slice_get xs j ≡ None → slice_get (concluded_by ts xs) j ≡ None
          past [] j at = refl
          past (x ∷ xs) zero at = absurd (none-some x (sym at))
          past (x ∷ xs) (suc j) at = past xs j at

  -- with the step behind the others
  proof_grows : step_fault now.declared book (concluded_by ts steps) (stated_step ts s) ≡ None → HasArguments now.declared (stated_rule ts s.by) →
      list_any (is_equation s.left s.right) steps ≡ false → IsProofOver now book (steps ++ s ∷ [])
  proof_grows valid arguments none = record {
    are = All-push (IsStepOf now) steps s h.are is;
    proof = subst (IsProof now.declared book) (sym (map-append (stated_step ts) steps (s ∷ [])))
        (one_more now.declared book (stated_steps ts steps) (stated_step ts s) h.proof valid arguments (not_there none));
  }

-- the proof without steps
pub no_steps : (book : List BookRule) (now : State) → IsProofOver now book []
no_steps book now = record {
  are = All-nil (IsStepOf now);
  proof = record {
    valid = λ k s at. absurd (none-some s at);
    arguments = All-nil (λ (s : StatedStep). HasArguments now.declared s.rule);
    differ = λ j k e at b. absurd (none-some e at);
  };
}

-- what the last step concludes
concluded_last : (ts : List Tree) (steps : List Step) (s : Step) → slice_get (concluded_by ts (steps ++ s ∷ [])) (length steps) ≡ Some (equation (tree_at ts s.left.0) (tree_at ts s.right.0))
concluded_last ts steps s = concluded_at ts (steps ++ s ∷ []) (length steps) s (at_last steps s)

-- the equation at the place that was found
concluded_found : (ts : List Tree) (steps : List Step) (left right : TermId) (k : ℕ) → position (is_equation left right) steps ≡ Some k →
    slice_get (concluded_by ts steps) k ≡ Some (equation (tree_at ts left.0) (tree_at ts right.0))
concluded_found ts steps left right k at =
    let d : Step = record { left = left; right = right; by = Rattle.rare_proof.specs.declared.step.StepRule.TheVariants.Refl; premises = [] } in
    let found = position-Some (is_equation left right) steps k d at in
    let t = get_or steps k d in
    let parts = and_parts (nat_eq left.0 t.left.0) (nat_eq right.0 t.right.0) found.1 in
    let l = eqb-true left.0 t.left.0 parts.0 in
    let r = eqb-true right.0 t.right.0 parts.1 in
    concluded_at ts steps k t (slice_get-get_or steps k d found.0) ∙ ap Some (λ i. equation (tree_at ts (sym l i)) (tree_at ts (sym r i)))

-- ---- where terms grew since the step was tested

module _ (book : List BookRule) (old new : State) (g : Grows old new) (steps : List Step) (s : Step) (is : IsStepOf old s) where
  pub proof_grows_on : IsOneToOne new.trees → IsProofOver old book steps → step_fault old.declared book (concluded_by old.trees steps) (stated_step old.trees s) ≡ None →
      HasArguments old.declared (stated_rule old.trees s.by) → list_any (is_equation s.left s.right) steps ≡ false → IsProofOver new book (steps ++ s ∷ [])
  proof_grows_on one h valid arguments none =
      let declared = g.declared in
      let concluded = concluded_kept old new g steps h.are in
      let step = step_kept old new g s is in
      let P : Declarations → Type 0 = λ d. HasArguments d (stated_rule new.trees s.by) in
      let Q : StatedRule → Type 0 = λ r. HasArguments old.declared r in
      proof_grows book new one steps s (proof_kept old new g book steps h) (step_is old new g s is) ((λ i. step_fault (declared i) book (concluded i) (step i)) ∙ valid)
      (subst P (sym declared) (subst Q (sym (rule_kept old new g s.by is.by)) arguments)) none

  here_kept : Some (equation (tree_at new.trees s.left.0) (tree_at new.trees s.right.0)) ≡ Some (equation (tree_at old.trees s.left.0) (tree_at old.trees s.right.0))
  here_kept = let left = tree_kept old new g s.left.0 is.left in let right = tree_kept old new g s.right.0 is.right in λ i. Some (equation (left i) (right i))

  -- what the last step concludes
  pub last_kept : slice_get (concluded_by new.trees (steps ++ s ∷ [])) (length steps) ≡ Some (equation (tree_at old.trees s.left.0) (tree_at old.trees s.right.0))
  last_kept = concluded_last new.trees steps s ∙ here_kept

  -- the equation at the place that was found
  pub found_kept : (k : ℕ) → position (is_equation s.left s.right) steps ≡ Some k →
      slice_get (concluded_by new.trees steps) k ≡ Some (equation (tree_at old.trees s.left.0) (tree_at old.trees s.right.0))
  found_kept k at = concluded_found new.trees steps s.left s.right k at ∙ here_kept
