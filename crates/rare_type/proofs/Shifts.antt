-- A difference that is shifted by one, in either order.
use Rattle.std.proofs.Common.{◌≡◌, ℕ, ◌+◌, ◌≤◌, ◌<◌, ◌^◌, Bool, true, false, not, Decides, Ok, ℤ, pos, negsuc, ◌+ℤ◌, ◌-ℤ◌, ◌*ℤ◌, ◌⊎◌, inl, inr, arith, FitsSigned, [], refl, sym, ap, ◌∙◌, subst}
use Rattle.std.specs.Int.{w128}
use borrow.Author.Differences.{up, down}
use Rattle.std.proofs.lemmas.Int.{ints}
use Rattle.rare_linear.specs.Linears.{LinearExpression, IsNormal, linear, number, add, with_parts, scaled_parts}
use Rattle.rare_linear.specs.Entailment.{minus}
use Rattle.rare_linear.specs.PartialSums.{IsWithin, AllFit}
use Rattle.rare_linear.specs.EntailmentTest.{is_within}
use Rattle.rare_linear.proofs.EntailmentTestLemmas.{is_within-Decides}
use Rattle.rare_linear.proofs.Products.{minus_one}
use Rattle.rare_type.specs.FirstCase.{and_then, unless}
use Rattle.rare_type.specs.declared.error.TypeError.TheVariants as case
use Rattle.rare_type.specs.inner.Steps.{bounded}
use Rattle.rare_type.proofs.Typed.{bounded_not}
use Rattle.rare_linear.proofs.NormalForms.{with_parts-nil, Rises-with_parts, Rises-scaled}

abbrev IsUnit : ℤ → Type 0
IsUnit k = (k ≡ pos 1) ⊎ (k ≡ negsuc 0)

swapped : (a b k : ℤ) → (a +ℤ b) +ℤ k ≡ (a +ℤ k) +ℤ b
swapped a b k = omega (arith, ints)

module _ (a b : LinearExpression) (na : IsNormal a.parts) (nb : IsNormal b.parts) where
  parts_same : with_parts (with_parts a.parts (scaled_parts (negsuc 0) b.parts)) [] ≡ with_parts (with_parts a.parts []) (scaled_parts (negsuc 0) b.parts)
  parts_same =
      with_parts-nil 0 (with_parts a.parts (scaled_parts (negsuc 0) b.parts)) (Rises-with_parts 0 a.parts (scaled_parts (negsuc 0) b.parts) na (Rises-scaled 0 (negsuc 0) b.parts nb))
      ∙ ap (λ ps. with_parts ps (scaled_parts (negsuc 0) b.parts)) (sym (with_parts-nil 0 a.parts na))

  pub shift_same : (k : ℤ) → add (minus a b) (number k) ≡ minus (add a (number k)) b
  shift_same k = λ i. linear (swapped a.constant (negsuc 0 *ℤ b.constant) k i) (parts_same i)

plus_minus : (a b : ℤ) → a +ℤ (negsuc 0 *ℤ b) ≡ a -ℤ b
plus_minus a b = ap (λ z. a +ℤ z) (minus_one b) ∙ omega (arith, ints)

not_below : (m n : ℕ) → (m < n → ⊥) → n ≤ m
not_below m n h = omega arith

-- above i128, or below it
beyond : (z : ℤ) → (FitsSigned w128 z → ⊥) → (down z + 2 ^ 127 ≤ up z) ⊎ (up z + 2 ^ 127 < down z)
beyond (pos n) h = let m : 2 ^ 127 ≤ n = not_below n (2 ^ 127) (λ x. h (record { sfits = x })) in inl (omega arith)
beyond (negsuc n) h = let m : 2 ^ 127 ≤ n = not_below n (2 ^ 127) (λ x. h (record { sfits = x })) in inr (omega arith)

room : (a b k : ℤ) → IsUnit k → FitsSigned w128 a → FitsSigned w128 b → (down (a +ℤ k) + 2 ^ 127 ≤ up (a +ℤ k)) ⊎ (up (a +ℤ k) + 2 ^ 127 < down (a +ℤ k)) →
    FitsSigned w128 ((a +ℤ k) -ℤ b) → FitsSigned w128 (a -ℤ b)
room a b k (inl e) fa fb (inl far) h = omega (arith, ints)
room a b k (inl e) fa fb (inr far) h = omega (arith, ints)
room a b k (inr e) fa fb (inl far) h = omega (arith, ints)
room a b k (inr e) fa fb (inr far) h = omega (arith, ints)

fits_late : (a b k : ℤ) → IsUnit k → FitsSigned w128 a → FitsSigned w128 b → (FitsSigned w128 (a +ℤ k) → ⊥) → FitsSigned w128 ((a +ℤ k) +ℤ (negsuc 0 *ℤ b)) → FitsSigned w128 (a +ℤ (negsuc 0 *ℤ b))
fits_late a b k unit fa fb far h =
    subst (FitsSigned w128) (sym (plus_minus a b)) (room a b k unit fa fb (beyond (a +ℤ k) far) (subst (FitsSigned w128) (plus_minus (a +ℤ k) b) h))

module _ (a b : LinearExpression) (wa : IsWithin a) (wb : IsWithin b) (na : IsNormal a.parts) where
  same_parts : (k : ℤ) → (add a (number k)).parts ≡ a.parts
  same_parts k = with_parts-nil 0 a.parts na

  far_constant : (k : ℤ) → (IsWithin (add a (number k)) → ⊥) → FitsSigned w128 (a.constant +ℤ k) → ⊥
  far_constant k out f = out (record { constant = f; coefficients = subst AllFit (sym (same_parts k)) wa.coefficients })

  -- where the sum leaves i128, the whole does where the difference does
  pub late : (k : ℤ) → IsUnit k → (IsWithin (add a (number k)) → ⊥) → IsWithin (minus (add a (number k)) b) → IsWithin (minus a b)
  late k unit out h = record {
    constant = fits_late a.constant b.constant k unit wa.constant wb.constant (far_constant k out) h.constant;
    coefficients = subst (λ ps. AllFit (with_parts ps (scaled_parts (negsuc 0) b.parts))) (same_parts k) h.coefficients;
  }

  pub bounded_late : IsNormal b.parts → (k : ℤ) → IsUnit k → (IsWithin (add a (number k)) → ⊥) →
      and_then (bounded (minus a b)) (λ d. bounded (add d (number k))) ≡ bounded (minus (add a (number k)) b)
  bounded_late nb k unit out = go (is_within (minus a b)) (is_within-Decides (minus a b)) refl
    where
      go : (t : Bool) → Decides t (IsWithin (minus a b)) → is_within (minus a b) ≡ t →
          and_then (unless case.TooLarge (not t) (Ok (minus a b))) (λ d. bounded (add d (number k))) ≡ bounded (minus (add a (number k)) b)
      go true d e = ap bounded (shift_same a b na nb k)
      go false d e = sym (bounded_not (minus (add a (number k)) b) (λ h. let bad : false ≡ true = d.1 (late k unit out h) in absurd (cc)))
