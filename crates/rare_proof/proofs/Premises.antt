-- The equations at places, one place after the other.
use Rattle.std.proofs.Common.{◌≡◌, ℕ, zero, suc, ◌+◌, ◌<◌, List, [], ◌∷◌, ◌++◌, All, map, length, take, drop, slice_get, Option, Some, None, refl, sym, ap, ◌∙◌, subst, arith}
use Rattle.std.specs.Option.{option_map}
use Rattle.std.proofs.lemmas.List.{map-append}
use Rattle.std.proofs.lemmas.Option.{none-some, same_Some}
use Rattle.std.proofs.lemmas.List.Elements.{All-head, All-tail}
use Rattle.rare_sort.specs.Sorting.{all_of}
use Rattle.rare_sort.specs.declared.tree.Tree.{Tree}
use Rattle.rare_term.specs.State.{State}
use Rattle.rare_proof.specs.declared.step.Step.{Step}
use Rattle.rare_proof.specs.Steps.{Equation, equations_at}
use Rattle.rare_proof.specs.Sided.{equation_of}
use Rattle.rare_proof.specs.Proofs.{IsStepOf, concluded_by}
use Rattle.rare_proof.proofs.Listing.{split_at, take_one}

module _ {A : Type 0} where
  some_first : (x : A) (os : List (Option A)) (ys : List A) → all_of (Some x ∷ os) ≡ Some ys → (zs : List A) × (all_of os ≡ Some zs) × (ys ≡ x ∷ zs)
  some_first x os ys e = by (all_of os) refl e
    where
      by : (o : Option (List A)) → all_of os ≡ o → option_map (λ xs. x ∷ xs) o ≡ Some ys → (zs : List A) × (all_of os ≡ Some zs) × (ys ≡ x ∷ zs)
      by None n e = absurd (none-some ys e)
      by (Some zs) n e = (zs, n, sym (same_Some (x ∷ zs) ys e))

  all_push : (os : List (Option A)) (x : A) (xs : List A) → all_of os ≡ Some xs → all_of (os ++ Some x ∷ []) ≡ Some (xs ++ x ∷ [])
  all_push [] x xs e = ap (λ ys. Some (ys ++ x ∷ [])) (same_Some [] xs e)
  all_push (None ∷ os) x xs e = absurd (none-some xs e)
  all_push (Some y ∷ os) x xs e =
      let f = some_first y os xs e in
      ap (option_map (λ ys. y ∷ ys)) (all_push os x f.0 f.1) ∙ ap (λ ys. Some (ys ++ x ∷ [])) (sym f.2)

  all_fail : (os more : List (Option A)) → all_of (os ++ None ∷ more) ≡ None
  all_fail [] more = refl
  all_fail (None ∷ os) more = refl
  all_fail (Some y ∷ os) more = ap (option_map (λ ys. y ∷ ys)) (all_fail os more)

pub equations_more : (es : List Equation) (places : List ℕ) (k place : ℕ) (ps : List Equation) (p : Equation) → equations_at es (take k places) ≡ Some ps → slice_get places k ≡ Some place →
    slice_get es place ≡ Some p → equations_at es (take (k + 1) places) ≡ Some (ps ++ p ∷ [])
equations_more es places k place ps p e at found =
    ap (equations_at es) (take_one places k place at) ∙ ap all_of (map-append (slice_get es) (take k places) (place ∷ []) ∙ ap (λ o. map (slice_get es) (take k places) ++ o ∷ []) found)
    ∙ all_push (map (slice_get es) (take k places)) p ps e

pub equations_stop : (es : List Equation) (places : List ℕ) (k place : ℕ) → slice_get places k ≡ Some place → slice_get es place ≡ None → equations_at es places ≡ None
equations_stop es places k place at none =
    ap (equations_at es) (split_at places k place at)
    ∙ ap all_of (map-append (slice_get es) (take k places) (place ∷ drop (suc k) places) ∙ ap (λ o. map (slice_get es) (take k places) ++ o ∷ map (slice_get es) (drop (suc k) places)) none)
    ∙ all_fail (map (slice_get es) (take k places)) (map (slice_get es) (drop (suc k) places))

-- what a step concludes, at its place
pub concluded_at : (ts : List Tree) (steps : List Step) (k : ℕ) (s : Step) → slice_get steps k ≡ Some s → slice_get (concluded_by ts steps) k ≡ Some (equation_of ts (record { left = s.left; right = s.right }))
concluded_at ts [] k s at = absurd (none-some s at)
concluded_at ts (x ∷ steps) zero s at = ap (λ (y : Step). Some (equation_of ts (record { left = y.left; right = y.right }))) (same_Some x s at)
concluded_at ts (x ∷ steps) (suc k) s at = concluded_at ts steps k s at

pub none_at : (ts : List Tree) (steps : List Step) (k : ℕ) → ¬ (k < length steps) → slice_get (concluded_by ts steps) k ≡ None
none_at ts [] k past = refl
none_at ts (x ∷ steps) zero past = absurd (past (omega arith))
none_at ts (x ∷ steps) (suc k) past = none_at ts steps k (λ lt. past (omega (arith, lt)))

-- a step at its place
pub step_at : (s : State) (steps : List Step) (k : ℕ) (x : Step) → All (IsStepOf s) steps → slice_get steps k ≡ Some x → IsStepOf s x
step_at s [] k x h at = absurd (none-some x at)
step_at s (y ∷ steps) zero x h at = subst (IsStepOf s) (same_Some y x at) (All-head (IsStepOf s) y steps h)
step_at s (y ∷ steps) (suc k) x h at = step_at s steps k x (All-tail (IsStepOf s) y steps h) at
