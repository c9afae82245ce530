-- What is substituted at samples is the value there.
use Rattle.std.proofs.Common.{◌≡◌, ℕ, zero, suc, ◌<◌, ◌≤◌, ℤ, pos, negsuc, ◌+ℤ◌, ◌*ℤ◌, ◌≤ℤ◌, Bool, true, false, ◌&&◌, List, [], ◌∷◌, ◌++◌, length, refl, sym, ap, ◌∙◌, subst, arith, Decides, All}
use Rattle.std.proofs.lemmas.Int.{ints}
use Rattle.std.proofs.lemmas.List.Elements.{All-head, All-tail}
use Rattle.rare_linear.specs.Linears.{Part, LinearExpression, NamesBelow, linear, number, add, scale, scaled_parts, parts_value, linear_value, substitute, substitute_from, value_at}
use Rattle.rare_linear.specs.PartialSums.{IsWithin, SumsFit, PartialSumsFit}
use Rattle.rare_linear.specs.EntailmentTest.{fits_i128, is_within}
use Rattle.rare_linear.proofs.EntailmentTestLemmas.{is_within-Decides}
use Rattle.rare_text.specs.Samples.{sample_number, sums_fit, fits_samples}
use Rattle.rare_text.specs.inner.SampleValues.{sample_values}

-- ---- values at numbers that agree on the names

pub same_parts : (n : ℕ) (at more : ℕ → ℤ) → ((k : ℕ) → k < n → at k ≡ more k) → (ps : List Part) → NamesBelow n ps → parts_value at ps ≡ parts_value more ps
same_parts n at more same [] h = refl
same_parts n at more same (p ∷ ps) h = λ i. (p.1 *ℤ same p.0 h.0 i) +ℤ same_parts n at more same ps h.1 i

pub same_value : (n : ℕ) (at more : ℕ → ℤ) → ((k : ℕ) → k < n → at k ≡ more k) → (e : LinearExpression) → NamesBelow n e.parts → linear_value at e ≡ linear_value more e
same_value n at more same e h = ap (λ v. e.constant +ℤ v) (same_parts n at more same e.parts h)

-- ---- the numbers of samples

pub sample_before : (samples : List ℕ) (m k : ℕ) → k < length samples → sample_number samples k ≡ sample_number (samples ++ m ∷ []) k
sample_before [] m k lt = absurd (omega (arith, lt))
sample_before (n ∷ ns) m zero lt = refl
sample_before (n ∷ ns) m (suc k) lt = sample_before ns m k (omega (arith, lt))

pub sample_positive : (samples : List ℕ) (k : ℕ) → All (λ n. 1 ≤ n) samples → pos 1 ≤ℤ sample_number samples k
sample_positive [] k all = omega (arith, ints)
sample_positive (n ∷ ns) zero all = let h : 1 ≤ n = All-head (λ m. 1 ≤ m) n ns all in omega (arith, ints, h)
sample_positive (n ∷ ns) (suc k) all = sample_positive ns k (All-tail (λ m. 1 ≤ m) n ns all)

sample_value : (samples : List ℕ) (k : ℕ) → k < length samples → value_at (sample_values samples) k ≡ number (sample_number samples k)
sample_value [] k lt = absurd (omega (arith, lt))
sample_value (n ∷ ns) zero lt = refl
sample_value (n ∷ ns) (suc k) lt = sample_value ns k (omega (arith, lt))

-- ---- substitution

no_parts : (k : ℤ) → scaled_parts k [] ≡ []
no_parts (pos zero) = refl
no_parts (pos (suc n)) = refl
no_parts (negsuc n) = refl

one_more : (c k v : ℤ) → add (number c) (scale k (number v)) ≡ number (c +ℤ (k *ℤ v))
one_more c k v = ap (linear (c +ℤ (k *ℤ v))) (no_parts k)

plus_none : (c : ℤ) → c +ℤ pos 0 ≡ c
plus_none c = omega (arith, ints)

regroup : (a b c : ℤ) → (a +ℤ b) +ℤ c ≡ a +ℤ (b +ℤ c)
regroup a b c = omega (arith, ints)

both : (b c : Bool) → (b && c) ≡ true → (b ≡ true) × (c ≡ true)
both true c e = (refl, e)
both false c e = cc

and_both : (b c : Bool) → b ≡ true → c ≡ true → (b && c) ≡ true
and_both b c p q = rw (p, q) refl

and_true : (b : Bool) → (b && true) ≡ b
and_true true = refl
and_true false = refl

module _ (samples : List ℕ) where
  abbrev at : ℕ → ℤ
  at = sample_number samples

  abbrev values : ℕ → LinearExpression
  values = value_at (sample_values samples)

  next_sum : (c : ℤ) (p : Part) → p.0 < length samples → add (number c) (scale p.1 (values p.0)) ≡ number (c +ℤ (p.1 *ℤ at p.0))
  next_sum c p lt = ap (λ v. add (number c) (scale p.1 v)) (sample_value samples p.0 lt) ∙ one_more c p.1 (at p.0)

  pub value_from : (c : ℤ) (ps : List Part) → NamesBelow (length samples) ps → substitute_from values (number c) ps ≡ number (c +ℤ parts_value at ps)
  value_from c [] h = ap number (sym (plus_none c))
  value_from c (p ∷ ps) h =
      ap (λ s. substitute_from values s ps) (next_sum c p h.0)
      ∙ value_from (c +ℤ (p.1 *ℤ at p.0)) ps h.1
      ∙ ap number (regroup c (p.1 *ℤ at p.0) (parts_value at ps))

  -- the value at the samples
  pub substituted : (e : LinearExpression) → NamesBelow (length samples) e.parts → substitute values e ≡ number (linear_value at e)
  substituted e h = value_from e.constant e.parts h

  within_number : (c : ℤ) → is_within (number c) ≡ fits_i128 c
  unfolding is_within
  within_number c = and_true (fits_i128 c)

  number-Decides : (c : ℤ) → Decides (fits_i128 c) (IsWithin (number c))
  number-Decides c = let d = is_within-Decides (number c) in (λ t. d.0 (within_number c ∙ t), λ w. sym (within_number c) ∙ d.1 w)

  sums-Decides : (c : ℤ) (ps : List Part) → NamesBelow (length samples) ps → Decides (sums_fit at c ps) (SumsFit values (number c) ps)
  sums-Decides c [] h = number-Decides c
  sums-Decides c (p ∷ ps) h =
      let a = number-Decides c in
      let b = sums-Decides (c +ℤ (p.1 *ℤ at p.0)) ps h.1 in
      let s = next_sum c p h.0 in (
        (λ t. let x = both _ _ t in (a.0 x.0, subst (λ u. SumsFit values u ps) (sym s) (b.0 x.1))),
        (λ w. and_both _ _ (a.1 w.0) (b.1 (subst (λ u. SumsFit values u ps) s w.1))),
      )

  -- the partial sums at the samples are those of a substitution
  pub fits-Decides : (e : LinearExpression) → NamesBelow (length samples) e.parts → Decides (fits_samples samples e) (PartialSumsFit values e)
  fits-Decides e h = sums-Decides e.constant e.parts h

  not_true : (b : Bool) → (b ≡ true → ⊥) → b ≡ false
  not_true true h = absurd (h refl)
  not_true false h = refl

  pub fits_not : (e : LinearExpression) → NamesBelow (length samples) e.parts → ¬ PartialSumsFit values e → fits_samples samples e ≡ false
  fits_not e h out = not_true (fits_samples samples e) (λ t. out ((fits-Decides e h).0 t))
