-- The conditions of a step by a rule of a book, one after the other, as terms grow.
use Rattle.std.proofs.Common.{◌≡◌, ℕ, suc, ◌+◌, ◌<◌, Bool, true, false, ◌&&◌, nat_eq, List, [], ◌∷◌, ◌++◌, length, drop, get_or, Option, Some, None, Result, Ok, Err, refl, sym, ap, ◌∙◌, subst, arith}
use Rattle.std.specs.Option.{option_map}
use Rattle.std.proofs.Math.Seq.{drop-cons}
use Rattle.rare_sort.specs.Ids.{tree_at}
use Rattle.rare_sort.specs.declared.declarations.Declarations.{Declarations}
use Rattle.rare_sort.specs.declared.tree.Tree.{Tree}
use Rattle.rare_term.specs.State.{State, Grows}
use Rattle.rare_inst.specs.Admission.{IsAdmitted, admission_fault}
use Rattle.rare_inst.specs.Answers.{AreGiven}
use Rattle.rare_inst.specs.Arguments.{Argument, arguments_of}
use Rattle.rare_inst.specs.Instance.{left_of, premise_of, result_of}
use Rattle.rare_inst.specs.declared.arg.Arg.{Arg}
use Rattle.rare_inst.specs.declared.fault.InstFault.{InstFault}
use Rattle.rare_rule.specs.TypedRule.{TypedRule}
use Rattle.rare_proof.specs.declared.fault.AddError.{AddError}
use Rattle.rare_proof.specs.declared.fault.StepFault.{StepFault}
use Rattle.rare_proof.specs.declared.fault.StepFault.TheVariants.{ArgCount, OtherLeft, OtherPremise, OtherRight, PremiseCount}
use Rattle.rare_proof.specs.declared.sides.Sides.{Sides}
use Rattle.rare_proof.specs.Proofs.{Judges}
use Rattle.rare_proof.specs.Sided.{AllAreSides, equation_of, equations_of}
use Rattle.rare_proof.specs.Steps.{Equation, exists, first_failing, instance_conditions, instance_fault, is_part, needs, premise_conditions, says_true}
use Rattle.rare_proof.proofs.Growing.{arguments_kept, equation_kept, equations_kept, tree_kept}
use Rattle.rare_proof.proofs.Judging.{over, passed, passed_all, stopped_all}

-- the same numbers
pub counts_as : (n a m b : ℕ) (fault : StepFault) → m ≡ n → b ≡ a → needs (nat_eq n a) fault ≡ None → needs (nat_eq m b) fault ≡ None
counts_as n a m b fault p q h = (λ i. needs (nat_eq (p i) (q i)) fault) ∙ h

-- the conditions on the right side
abbrev pub right : Declarations → TypedRule → List Argument → Tree → List (Option StepFault)
right d t args b = exists (result_of d t.rule args) ∷ needs (is_part (result_of d t.rule args) b) OtherRight ∷ []

module _ (d : Declarations) (t : TypedRule) (args : List Argument) (a b : Tree) (es : List Equation) where
  abbrev starts : List (Option StepFault)
  starts = needs (nat_eq (length args) (length t.rule.params)) ArgCount ∷ option_map instance_fault (admission_fault d t args) ∷ []

  abbrev left : List (Option StepFault)
  left = exists (left_of d t.rule args) ∷ needs (is_part (left_of d t.rule args) a) OtherLeft ∷ []

  abbrev counts : Option StepFault
  counts = needs (nat_eq (length es) (length t.rule.premises)) PremiseCount

  abbrev premises : List (Option StepFault)
  premises = premise_conditions d t args 0 es

  abbrev rights : List (Option StepFault)
  rights = right d t args b

  module _ (X : Type 0) where
    abbrev Answers : Result X AddError → Type 0
    Answers r = Judges (first_failing (instance_conditions d t args a b es)) r

    module _ (start : first_failing starts ≡ None) where
      after_arguments : (r : Result X AddError) → Judges (first_failing (left ++ counts ∷ (premises ++ rights))) r → Answers r
      after_arguments r h = passed_all X starts (left ++ counts ∷ (premises ++ rights)) r start h

      module _ (same_left : first_failing left ≡ None) where
        after_left : (r : Result X AddError) → Judges (first_failing (counts ∷ (premises ++ rights))) r → Answers r
        after_left r h = after_arguments r (passed_all X left (counts ∷ (premises ++ rights)) r same_left h)

        module _ (as_many : counts ≡ None) where
          after_count : (r : Result X AddError) → Judges (first_failing (premises ++ rights)) r → Answers r
          after_count r h = after_left r (passed X counts (premises ++ rights) r as_many h)

          pub at_premises : (e : AddError) → Judges {X = X} (first_failing premises) (Err e) → Answers (Err e)
          at_premises e h = after_count (Err e) (stopped_all X premises rights e h)

          pub at_right : first_failing premises ≡ None → (r : Result X AddError) → Judges (first_failing rights) r → Answers r
          at_right hold r h = after_count r (passed_all X premises rights r hold h)

-- ---- where terms grew since the conditions before

module _ (old new : State) (g : Grows old new) (t : TypedRule) (xs : List Arg) (given : AreGiven old xs) where
  pub admitted_kept : IsAdmitted old.declared t (arguments_of old.trees xs) → IsAdmitted new.declared t (arguments_of new.trees xs)
  admitted_kept h = let d = g.declared in let args = arguments_kept old new g xs given in (λ i. admission_fault (d i) t (args i)) ∙ h

  pub premises_kept : (ps : List Sides) → AllAreSides (length old.trees) ps →
      premise_conditions new.declared t (arguments_of new.trees xs) 0 (equations_of new.trees ps) ≡ premise_conditions old.declared t (arguments_of old.trees xs) 0 (equations_of old.trees ps)
  premises_kept ps are =
      let d = g.declared in
      let args = arguments_kept old new g xs given in
      let es = equations_kept old new g ps are in
      λ i. premise_conditions (d i) t (args i) 0 (es i)

  pub right_kept : (k : ℕ) → k < length old.trees → right new.declared t (arguments_of new.trees xs) (tree_at new.trees k) ≡ right old.declared t (arguments_of old.trees xs) (tree_at old.trees k)
  right_kept k lt =
      let d = g.declared in
      let args = arguments_kept old new g xs given in
      let b = tree_kept old new g k lt in
      λ i. right (d i) t (args i) (b i)

-- ---- premises, one after the other

abbrev pub premise : Declarations → TypedRule → List Argument → ℕ → Equation → List (Option StepFault)
premise d t args k e = exists (premise_of d t.rule args k) ∷ needs (says_true (premise_of d t.rule args k) e) OtherPremise ∷ []

module _ (old now : State) (g : Grows old now) (t : TypedRule) (xs : List Arg) (given : AreGiven old xs) (ps : List Sides) (are : AllAreSides (length old.trees) ps) (k : ℕ) (other : Sides)
    (lt : k < length ps) where
  abbrev args : List Argument
  args = arguments_of old.trees xs

  abbrev here : Sides
  here = get_or ps k other

  abbrev from : ℕ → List Sides → List (Option StepFault)
  from j qs = premise_conditions old.declared t args j (equations_of old.trees qs)

  split : drop k ps ≡ here ∷ drop (suc k) ps
  split = drop-cons ps k other lt

  here_kept : first_failing (premise now.declared t (arguments_of now.trees xs) k (equation_of now.trees here)) ≡ first_failing (premise old.declared t args k (equation_of old.trees here))
  here_kept =
      let d = g.declared in
      let ys = arguments_kept old now g xs given in
      let e = equation_kept old now g here (are k other lt) in
      λ i. first_failing (premise (d i) t (ys i) k (e i))

  pub premise_fails : (X : Type 0) (e : AddError) → Judges {X = X} (first_failing (premise now.declared t (arguments_of now.trees xs) k (equation_of now.trees here))) (Err e) →
      Judges {X = X} (first_failing (from k (drop k ps))) (Err e)
  premise_fails X e h =
      let P : List Sides → Type 0 = λ qs. Judges {X = X} (first_failing (from k qs)) (Err e) in
      let Q : Option StepFault → Type 0 = λ o. Judges {X = X} o (Err e) in
      subst P (sym split) (stopped_all X (premise old.declared t args k (equation_of old.trees here)) (from (suc k) (drop (suc k) ps)) e (subst Q here_kept h))

  pub premise_holds : first_failing (premise now.declared t (arguments_of now.trees xs) k (equation_of now.trees here)) ≡ None → first_failing (from k (drop k ps)) ≡ first_failing (from (k + 1) (drop (k + 1) ps))
  premise_holds e =
      let next : suc k ≡ k + 1 = omega arith in
      ap (λ qs. first_failing (from k qs)) split ∙ over (premise old.declared t args k (equation_of old.trees here)) (from (suc k) (drop (suc k) ps)) (sym here_kept ∙ e)
      ∙ ap (λ j. first_failing (from j (drop j ps))) next
