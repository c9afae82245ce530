-- A valid step by a rule of a book concludes a true equation, where the rule holds.
use Rattle.std.proofs.Common.{◌≡◌, ℕ, zero, suc, Bool, true, false, nat_eq, List, [], ◌∷◌, ◌++◌, map, length, drop, Option, Some, None, Result, Ok, Err, refl, sym, ap, subst, arith}
use Rattle.std.specs.Option.{option_map}
use Rattle.std.proofs.lemmas.Bool.{and_parts, eqb-true}
use Rattle.std.proofs.lemmas.Option.{none-some, same_Some}
use Rattle.std.proofs.lemmas.List.Elements.{All-head, All-tail}
use Rattle.rare_sort.specs.Each.{Each, EachPair}
use Rattle.rare_sort.specs.Ids.{tree_at}
use Rattle.rare_sort.specs.Trees.{node}
use Rattle.rare_sort.specs.declared.declarations.Declarations.{Declarations}
use Rattle.rare_sort.specs.declared.head.Head.TheVariants.{True}
use Rattle.rare_sort.specs.declared.tree.Tree.{Tree}
use Rattle.rare_sort.proofs.SamenessLemmas.{tree_eq-Decides}
use Rattle.rare_meaning.specs.Interpretations.{FunctionClass}
use Rattle.rare_meaning.specs.TrueRewrite.{MeansSame}
use Rattle.rare_rule.specs.Books.{BookRule, AreTyped, typed_at}
use Rattle.rare_rule.specs.Holds.{Holds}
use Rattle.rare_rule.specs.TypedRule.{TypedRule, IsTypedRule}
use Rattle.rare_rule.specs.declared.rule.Rule.{Rule}
use Rattle.rare_inst.specs.Admission.{IsAdmitted, admission_fault}
use Rattle.rare_inst.specs.Arguments.{Argument}
use Rattle.rare_inst.specs.Instance.{OtherSide, part_of, left_of, premise_of, result_of}
use Rattle.rare_inst.specs.InstanceLaws.{IsArgument, IsInstance, Parts, HasParts, InstancesMeanSame}
use Rattle.rare_inst.specs.declared.fault.InstFault.{InstFault}
use Rattle.rare_proof.specs.declared.fault.StepFault.{StepFault}
use Rattle.rare_proof.specs.declared.fault.StepFault.TheVariants.{PremiseCount, OtherPremise, OtherLeft, OtherRight}
use Rattle.rare_proof.specs.Steps.{Equation, needs, first_failing, instance_fault, is_part, says_true, premise_conditions, instance_conditions, rewrite_conditions}
use Rattle.rare_proof.specs.RulesHold.{HoldsAt}
use Rattle.rare_proof.specs.StepLaws.{IsTrueEquation, AreTrueEquations}

-- ---- conditions

-- where none is the first that fails, none fails
pub all_met : (cs : List (Option StepFault)) → first_failing cs ≡ None → Each (λ o. o ≡ None) cs
all_met [] e = tt
all_met (None ∷ cs) e = (refl, all_met cs e)
all_met (Some fault ∷ cs) e = absurd (none-some fault (sym e))

pub need_met : (b : Bool) (fault : StepFault) → needs b fault ≡ None → b ≡ true
need_met true fault e = refl
need_met false fault e = absurd (none-some fault (sym e))

module _ {A : Type 0} (P : A → Type 0) where
  front : (xs ys : List A) → Each P (xs ++ ys) → Each P xs
  front [] ys h = tt
  front (x ∷ xs) ys h = (h.0, front xs ys h.1)

  back : (xs ys : List A) → Each P (xs ++ ys) → Each P ys
  back [] ys h = h
  back (x ∷ xs) ys h = back xs ys h.1

-- ---- parts

part_is : (part : Result Tree InstFault) (u : Tree) → is_part part u ≡ true → part ≡ Ok u
part_is (Ok t) u e = ap Ok ((tree_eq-Decides t u).0 e)
part_is (Err fault) u e = cc

is_admitted : (o : Option InstFault) → option_map instance_fault o ≡ None → o ≡ None
is_admitted None e = refl
is_admitted (Some fault) e = absurd (none-some (instance_fault fault) (sym e))

-- the rest of a list from a place on, by its first item
rest_at : (whole : List Tree) (k : ℕ) (p : Tree) (ps : List Tree) → drop k whole ≡ p ∷ ps → (tree_at whole k ≡ p) × (drop (suc k) whole ≡ ps)
rest_at [] zero p ps e = cc
rest_at [] (suc k) p ps e = cc
rest_at (x ∷ xs) zero p ps e = (cc, cc)
rest_at (x ∷ xs) (suc k) p ps e = rest_at xs k p ps e

module _ (c : FunctionClass) (d : Declarations) where
  module _ (t : TypedRule) (args : List Argument) where
    abbrev r : Rule
    r = t.rule

    abbrev HasPart : Tree → Tree → Type 0
    HasPart p u = part_of d r args OtherSide p ≡ Ok u

    abbrev SaysTrue : Equation → Type 0
    SaysTrue e = node True [] [] ≡ e.right

    abbrev lefts : List Equation → List Tree
    lefts es = map (λ e. e.left) es

    -- the premises of the rule from place k on, and the equations that say that they are true
    premises_met : (k : ℕ) (ps : List Tree) (es : List Equation) → drop k r.premises ≡ ps → length es ≡ length ps →
        Each (λ o. o ≡ None) (premise_conditions d t args k es) → EachPair HasPart ps (lefts es) × Each SaysTrue es
    premises_met k [] [] at n h = (tt, tt)
    premises_met k [] (e ∷ es) at n h = absurd (omega (arith, n))
    premises_met k (p ∷ ps) [] at n h = absurd (omega (arith, n))
    premises_met k (p ∷ ps) (e ∷ es) at n h =
        let next = rest_at r.premises k p ps at in
        let rest = premises_met (suc k) ps es next.1 (omega (arith, n)) h.1.1 in
        let says = and_parts (is_part (premise_of d r args k) e.left) _ (need_met (says_true (premise_of d r args k) e) OtherPremise h.1.0) in
        let here : HasPart p e.left = subst (λ q. HasPart q e.left) next.0 (part_is (premise_of d r args k) e.left says.0) in
        ((here, rest.0), ((tree_eq-Decides (node True [] []) e.right).0 says.1, rest.1))

    are_truths : (es : List Equation) → AreTrueEquations c d es → Each SaysTrue es → Each (λ p. MeansSame c d p (node True [] [])) (lefts es)
    are_truths [] h says = tt
    are_truths (e ∷ es) h says =
        (subst (λ u. MeansSame c d e.left u) (sym says.0) (All-head (IsTrueEquation c d) e es h), are_truths es (All-tail (IsTrueEquation c d) e es h) says.1)

    -- at arguments that the rule admits
    true_instance : InstancesMeanSame → (a b : Tree) (es : List Equation) → IsTypedRule t → Holds c r t.constraints → Each (IsArgument d) args → AreTrueEquations c d es →
        first_failing (instance_conditions d t args a b es) ≡ None → MeansSame c d a b
    true_instance law a b es typed holds arguments true_es e =
        let h = all_met (instance_conditions d t args a b es) e in
        let admitted : IsAdmitted d t args = is_admitted (admission_fault d t args) h.1.0 in
        let left : left_of d r args ≡ Ok a = part_is (left_of d r args) a (need_met (is_part (left_of d r args) a) OtherLeft h.1.1.1.0) in
        let count : length es ≡ length r.premises = eqb-true _ _ (need_met (nat_eq (length es) (length r.premises)) PremiseCount h.1.1.1.1.0) in
        let more = h.1.1.1.1.1 in
        let premises = premises_met 0 r.premises es refl count (front (λ o. o ≡ None) (premise_conditions d t args 0 es) _ more) in
        let last = back (λ o. o ≡ None) (premise_conditions d t args 0 es) _ more in
        let result : result_of d r args ≡ Ok b = part_is (result_of d r args) b (need_met (is_part (result_of d r args) b) OtherRight last.1.0) in
        let x : Parts = record { left = a; premises = lefts es; result = b } in
        let parts : HasParts d r args x = record { left = left; premises = premises.0; result = result } in
        let i : IsInstance d t args = record { typed = typed; arguments = arguments; admitted = admitted } in
        law c d t args x i parts holds (are_truths es true_es premises.1)

  -- the rule at its place in the book
  typed_here : (book : List BookRule) (k : ℕ) (t : TypedRule) → AreTyped book → typed_at book k ≡ Some t → IsTypedRule t
  typed_here [] k t h at = absurd (none-some t at)
  typed_here (b ∷ book) zero t h at = subst IsTypedRule (same_Some b.typed t at) h.0
  typed_here (b ∷ book) (suc k) t h at = typed_here book k t h.1 at

  pub true_rewrite : InstancesMeanSame → (book : List BookRule) → AreTyped book → (k : ℕ) (args : List Argument) (a b : Tree) (es : List Equation) → HoldsAt c book k →
      Each (IsArgument d) args → AreTrueEquations c d es → first_failing (rewrite_conditions d (typed_at book k) args a b es) ≡ None → MeansSame c d a b
  true_rewrite law book typed k args a b es holds arguments true_es e = by (typed_at book k) refl e
    where
      by : (o : Option TypedRule) → typed_at book k ≡ o → first_failing (rewrite_conditions d o args a b es) ≡ None → MeansSame c d a b
      by None at e = cc
      by (Some t) at e = true_instance t args law a b es (typed_here book k t typed at) (holds t at) arguments true_es e
