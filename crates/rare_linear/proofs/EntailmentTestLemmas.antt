-- The test of entailment decides entailment.
use Rattle.std.proofs.Common.{◌≡◌, ◌≢◌, ℕ, ℤ, pos, negsuc, ◌≤ℤ◌, Bool, true, false, ◌&&◌, ◌||◌, T, List, [], ◌∷◌, Any, refl, sym, subst, Decides, int_le, FitsSigned, inl, inr, ◌⊎◌}
use Rattle.std.specs.Int.{w128}
use Rattle.std.specs.List.{list_any}
use Rattle.std.specs.Int.Signed.{le_z_yes}
use Rattle.std.proofs.lemmas.Bool.{ltb-true, lt-ltb}
use Rattle.std.proofs.lemmas.List.Folds.{Any-from_list_any, list_any-from_Any}
use Rattle.rare_linear.specs.Linears.{Part, LinearExpression, linear_value}
use Rattle.rare_linear.specs.PartialSums.{AllFit, IsWithin}
use Rattle.rare_linear.specs.Entailment.{minus, HasNoMinus, IsPlainlyMet, IsEntailed}
use Rattle.rare_linear.specs.declared.constraint.Constraint.{Constraint}
use Rattle.rare_linear.specs.EntailmentTest.{fits_i128, all_fit_i128, is_within, has_no_minus, is_plainly_met, has_part, is_entailed}

both : (b c : Bool) → (b && c) ≡ true → (b ≡ true) × (c ≡ true)
both true c e = (refl, e)
both false c e = cc

and_both : (b c : Bool) → b ≡ true → c ≡ true → (b && c) ≡ true
and_both b c p q = rw (p, q) refl

fits_i128-Decides : (z : ℤ) → Decides (fits_i128 z) (FitsSigned w128 z)
fits_i128-Decides (pos n) = (λ e. record { sfits = ltb-true _ _ e }, λ h. lt-ltb _ _ h.sfits)
fits_i128-Decides (negsuc n) = (λ e. record { sfits = ltb-true _ _ e }, λ h. lt-ltb _ _ h.sfits)

all_fit_i128-Decides : (ps : List Part) → Decides (all_fit_i128 ps) (AllFit ps)
all_fit_i128-Decides [] = (λ e. tt, λ h. refl)
all_fit_i128-Decides (p ∷ ps) =
    let a = fits_i128-Decides p.1 in
    let b = all_fit_i128-Decides ps in
    (λ e. let x = both _ _ e in (a.0 x.0, b.0 x.1), λ h. and_both _ _ (a.1 h.0) (b.1 h.1))

pub is_within-Decides : (e : LinearExpression) → Decides (is_within e) (IsWithin e)
unfolding is_within
is_within-Decides e =
    let a = fits_i128-Decides e.constant in
    let b = all_fit_i128-Decides e.parts in
    (λ t. let x = both _ _ t in record { constant = a.0 x.0; coefficients = b.0 x.1 }, λ h. and_both _ _ (a.1 h.constant) (b.1 h.coefficients))

from_T : (b : Bool) → T b → b ≡ true
from_T true t = refl
from_T false t = absurd t

order-Decides : (a b : ℤ) → Decides (int_le a b) (a ≤ℤ b)
order-Decides a b = (λ e. le_z_yes (subst T (sym e) tt), λ h. from_T _ h.le)

has_no_minus-Decides : (ps : List Part) → Decides (has_no_minus ps) (HasNoMinus ps)
has_no_minus-Decides [] = (λ e. tt, λ h. refl)
has_no_minus-Decides (p ∷ ps) =
    let a = order-Decides (pos 0) p.1 in
    let b = has_no_minus-Decides ps in
    (λ e. let x = both _ _ e in (a.0 x.0, b.0 x.1), λ h. and_both _ _ (a.1 h.0) (b.1 h.1))

plainly-Decides : (lows : ℕ → ℤ) (e : LinearExpression) → Decides (is_plainly_met lows e) (IsPlainlyMet lows e)
plainly-Decides lows e =
    let a = has_no_minus-Decides e.parts in
    let b = order-Decides (pos 0) (linear_value lows e) in
    (λ t. let x = both _ _ t in record { coefficients = a.0 x.0; least = b.0 x.1 }, λ h. and_both _ _ (a.1 h.coefficients) (b.1 h.least))

named : (ps : List Part) → Decides (has_part ps) (ps ≢ [])
named [] = (λ e. cc, λ h. absurd (h refl))
named (p ∷ ps) = (λ e. λ f. cc, λ h. refl)

or_cases : (b c : Bool) → (b || c) ≡ true → (b ≡ true) ⊎ (c ≡ true)
or_cases true c e = inl refl
or_cases false c e = inr e

or_left : (b c : Bool) → b ≡ true → (b || c) ≡ true
or_left b c p = rw p refl

or_right : (b c : Bool) → c ≡ true → (b || c) ≡ true
or_right true c p = refl
or_right false c p = p

some-Decides : {X : Type 0} (P : X → Type 0) (p : X → Bool) → ((x : X) → Decides (p x) (P x)) → (xs : List X) → Decides (list_any p xs) (Any P xs)
some-Decides P p d xs = (
  λ e. let a = Any-from_list_any p xs e in (a.0, a.1, a.2, a.3, (d a.1).0 a.4),
  λ h. list_any-from_Any p xs (h.0, h.1, h.2, h.3, (d h.1).1 h.4),
)

pub is_entailed-Decides : (lows : ℕ → ℤ) (have : List Constraint) (want : LinearExpression) → Decides (is_entailed lows have want) (IsEntailed lows have want)
unfolding is_entailed
is_entailed-Decides lows have want =
    let w = is_within-Decides want in
    let p = plainly-Decides lows want in
    let n = named want.parts in
    let s = some-Decides (λ c. IsPlainlyMet lows (minus want c.floor)) (λ c. is_plainly_met lows (minus want c.floor)) (λ c. plainly-Decides lows (minus want c.floor)) have in (
      λ e.
          let x = both _ _ e in
          record {
            within = w.0 x.0;
            met = elim (or_cases _ _ x.1) [ inl a ↦ inl (p.0 a) | inr b ↦ let y = both _ _ b in inr (n.0 y.0, s.0 y.1) ];
          },
      λ h.
          and_both _ _ (w.1 h.within)
          (elim h.met [ inl a ↦ or_left _ _ (p.1 a) | inr b ↦ or_right _ _ (and_both _ _ (n.1 b.0) (s.1 b.1)) ]),
    )
