-- What follows by itself: the test, one part after another.
use Rattle.std.proofs.Common.{◌≡◌, ℕ, zero, suc, Some, FitsSigned, ◌<◌, length, get_or, ◌+◌, ◌-◌, ◌*◌, ℤ, pos, negsuc, ◌+ℤ◌, ◌-ℤ◌, ◌*ℤ◌, ◌≤ℤ◌, ◌<ℤ◌, Bool, true, false, ◌&&◌, ◌||◌, T, List, [], ◌∷◌, Option, arith, refl, sym, ap, ◌∙◌, nat_eq, unsigned_abs}
use Rattle.std.specs.Prelude.{int_le}
use Rattle.std.specs.Int.Signed.{le_z_yes}
use Rattle.std.proofs.lemmas.Bool.Decides.{nat_tests}
use Rattle.std.specs.Int.{w128}
use Rattle.std.proofs.lemmas.Int.{ints}
use Rattle.std.proofs.Math.IntN.{pos-*ℤ-pos}
use Rattle.rare_linear.specs.Linears.{Part, LinearExpression, parts_value, linear_value}
use Rattle.rare_linear.specs.EntailmentTest.{has_no_minus, has_part, is_plainly_met, is_entailed}
use Rattle.rare_linear.specs.PartialSums.{IsWithin, AllFit}
use Rattle.rare_linear.proofs.EntailmentTestLemmas.{is_within-Decides}
use Rattle.rare_rule.specs.Params.{low_of_kind, kind_at, rule_lows}
use Rattle.rare_rule.specs.declared.param.Param.{Param}
use Rattle.rare_rule.specs.declared.param.ParamKind.{ParamKind}
use Rattle.rare_rule.specs.declared.param.ParamKind.TheVariants as kind
use Rattle.rare_type.specs.inner.Steps.{Falls}

both : (b c : Bool) → (b && c) ≡ true → (b ≡ true) × (c ≡ true)
both true c e = (refl, e)
both false c e = cc

same_T : (b c : Bool) → (T b → T c) → (T c → T b) → b ≡ c
same_T true true f g = refl
same_T false false f g = refl
same_T true false f g = absurd (f tt)
same_T false true f g = absurd (g tt)

same_le : (a b c d : ℤ) → (a ≤ℤ b → c ≤ℤ d) → (c ≤ℤ d → a ≤ℤ b) → int_le a b ≡ int_le c d
same_le a b c d f g = same_T (int_le a b) (int_le c d) (λ t. (f (le_z_yes t)).le) (λ t. (g (le_z_yes t)).le)

-- a natural number
abbrev IsNatural : ℤ → Type 0
IsNatural z = (n : ℕ) × (z ≡ pos n)

natural : (z : ℤ) → int_le (pos 0) z ≡ true → IsNatural z
natural (pos n) h = (n, refl)
natural (negsuc n) h = cc

low_natural : (o : Option ParamKind) → IsNatural (low_of_kind o)
low_natural (Some kind.Width) = (1, refl)
low_natural o = (0, refl)

module _ (params : List Param) where
  abbrev lows : ℕ → ℤ
  lows = rule_lows params

  -- what is left covers what is missing
  abbrev pub Left : ℕ → List Part → Bool
  Left m ps = has_no_minus ps && int_le (pos m) (parts_value lows ps)

  value : (p : Part) (ps : List Part) (n l q : ℕ) → p.1 ≡ pos n → lows p.0 ≡ pos l → parts_value lows ps ≡ pos q → parts_value lows (p ∷ ps) ≡ pos (n * l + q)
  value p ps n l q a b c =
      (λ i. (a i *ℤ b i) +ℤ c i) ∙ ap (λ z. z +ℤ pos q) (pos-*ℤ-pos n l) ∙ sum (n * l) q
    where
      sum : (x y : ℕ) → pos x +ℤ pos y ≡ pos (x + y)
      sum x y = omega (arith, ints)

  value_natural : (ps : List Part) → has_no_minus ps ≡ true → IsNatural (parts_value lows ps)
  value_natural [] h = (0, refl)
  value_natural (p ∷ ps) h =
      let x = both _ _ h in
      let n = natural p.1 x.0 in
      let l = low_natural (kind_at params p.0) in
      let q = value_natural ps x.1 in
      (n.0 * l.0 + q.0, value p ps n.0 l.0 q.0 n.1 l.1 q.1)

  covered : (m x q : ℕ) → int_le (pos m) (pos (x + q)) ≡ int_le (pos (m - x)) (pos q)
  covered m x q = same_le (pos m) (pos (x + q)) (pos (m - x)) (pos q) (λ h. omega (arith, ints)) (λ h. omega (arith, ints))

  pub left_step : (p : Part) (ps : List Part) (m l : ℕ) → pos l ≡ lows p.0 → pos 0 ≤ℤ p.1 → Left m (p ∷ ps) ≡ Left (m - unsigned_abs p.1 * l) ps
  left_step p ps m l low h = go (has_no_minus ps) refl
    where
      yes : (b : Bool) → T b → b ≡ true
      yes true t = refl
      yes false t = absurd t

      neither : (a : Bool) → ((a && false) && int_le (pos m) (parts_value lows (p ∷ ps))) ≡ false
      neither true = refl
      neither false = refl

      go : (b : Bool) → has_no_minus ps ≡ b → Left m (p ∷ ps) ≡ Left (m - unsigned_abs p.1 * l) ps
      go true e =
          let t : int_le (pos 0) p.1 ≡ true = yes _ h.le in
          let n = natural p.1 t in
          let q = value_natural ps e in
          let size : unsigned_abs p.1 ≡ n.0 = ap unsigned_abs n.1 in
          rw (t, e) (
          ap (int_le (pos m)) (value p ps n.0 l q.0 n.1 (sym low) q.1)
          ∙ covered m (n.0 * l) q.0
          ∙ (λ i. int_le (pos (m - sym size i * l)) (sym q.1 i)))
      go false e = rw e (neither (int_le (pos 0) p.1))

  pub left_negative : (p : Part) (ps : List Part) (m : ℕ) → p.1 <ℤ pos 0 → Left m (p ∷ ps) ≡ false
  left_negative p ps m h = go p.1 h
    where
      go : (z : ℤ) → z <ℤ pos 0 → ((int_le (pos 0) z && has_no_minus ps) && int_le (pos m) ((z *ℤ lows p.0) +ℤ parts_value lows ps)) ≡ false
      go (pos n) h = absurd (omega (arith, ints))
      go (negsuc n) h = refl

  pub left_none : (m : ℕ) → nat_eq m 0 ≡ Left m []
  left_none m = by m
    where
      by : (m : ℕ) → nat_eq m 0 ≡ int_le (pos m) (pos 0)
      by m = grind (arith, nat_tests)

  pub met_is : (e : LinearExpression) (d : ℕ) → Falls e.constant d → is_plainly_met lows e ≡ Left d e.parts
  met_is e d falls = go (has_no_minus e.parts) refl
    where
      by : (z : ℤ) (q : ℕ) → Falls z d → int_le (pos 0) (z +ℤ pos q) ≡ int_le (pos d) (pos q)
      by (pos c) q f =
          let z : d ≡ 0 = f.1 (omega (arith, ints)) in
          same_le (pos 0) (pos c +ℤ pos q) (pos d) (pos q) (λ h. omega (arith, ints)) (λ h. omega (arith, ints))
      by (negsuc c) q f =
          let z : pos d ≡ pos 0 -ℤ negsuc c = f.0 (omega (arith, ints)) in
          same_le (pos 0) (negsuc c +ℤ pos q) (pos d) (pos q) (λ h. omega (arith, ints)) (λ h. omega (arith, ints))

      go : (b : Bool) → has_no_minus e.parts ≡ b → (has_no_minus e.parts && int_le (pos 0) (linear_value lows e)) ≡ Left d e.parts
      go true is =
          let q = value_natural e.parts is in
          rw is (ap (λ z. int_le (pos 0) (e.constant +ℤ z)) q.1 ∙ by e.constant q.0 falls ∙ ap (int_le (pos d)) (sym q.1))
      go false is = rw is refl

  pub entailed_is : (e : LinearExpression) → IsWithin e → is_entailed lows [] e ≡ is_plainly_met lows e
  unfolding is_entailed
  entailed_is e h = rw ((is_within-Decides e).1 h) (go (is_plainly_met lows e) (has_part e.parts))
    where
      go : (a b : Bool) → (a || (b && false)) ≡ a
      go true b = refl
      go false true = refl
      go false false = refl

pub fit_at : (ps : List Part) (i : ℕ) (d : Part) → AllFit ps → i < length ps → FitsSigned w128 (get_or ps i d).1
fit_at [] i d h lt = absurd (omega arith)
fit_at (p ∷ ps) zero d h lt = h.0
fit_at (p ∷ ps) (suc i) d h lt = fit_at ps i d h.1 (omega arith)
