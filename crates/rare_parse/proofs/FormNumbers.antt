-- The names of linear expressions of a rule are those of whole numbers: sums and multiples, and what a text reads as.
use Rattle.std.proofs.Common.{◌≡◌, ℕ, zero, suc, ◌^◌, ◌≤◌, Bool, true, false, List, [], ◌∷◌, map, nat_lt, nat_eq, Option, Some, None, Ok, refl, subst, arith}
use Rattle.std.specs.Prelude.{ℤ, pos, negsuc, ◌+ℤ◌, ◌*ℤ◌, nat_le, if◌then◌else◌}
use Rattle.std.proofs.lemmas.Bool.{leb-true, lt-ltb}
use Rattle.std.proofs.lemmas.Option.{none-some, same_Some}
use Rattle.rare_base.specs.declared.answers.Reason.TheVariants as reason
use Rattle.rare_linear.specs.Entailment.{minus}
use Rattle.rare_linear.specs.EntailmentTest.{fits_i128, is_within}
use Rattle.rare_linear.specs.Linears.{Part, LinearExpression, number, with_coefficient, with_part, with_parts, add, scaled_parts, scale}
use Rattle.rare_sort.specs.SortRules.{less_one, number_in}
use Rattle.rare_sort.proofs.NeedsLemmas.{both, and_both}
use Rattle.rare_sexpr.specs.declared.tree.Sexpr.{Sexpr}
use Rattle.rare_scope.specs.declared.sign.Sign.{Sign}
use Rattle.rare_scope.specs.declared.sign.Sign.TheVariants as sign
use Rattle.rare_scope.specs.Reading.{refused}
use Rattle.rare_scope.specs.LinearText.{WidthNames, size_by, fitting, joined, times_by, linear_at}
use Rattle.rare_scope.specs.Numbers.{LARGEST_SMALL, up_to, digits_number}
use Rattle.rare_scope.proofs.InOrder.{same_Ok}
use Rattle.rare_scope.proofs.Naming.{fitting_is}
use Rattle.rare_rule.specs.Params.{kind_at, is_number_kind}
use Rattle.rare_rule.specs.ParamForms.{are_numbers}
use Rattle.rare_rule.specs.declared.param.Param.{Param}
use Rattle.rare_parse.proofs.FormLinear.{linear_kept}

module _ (ps : List Param) where
  -- a parameter that stands for a whole number
  abbrev pub IsNumber : ℕ → Type 0
  IsNumber k = is_number_kind (kind_at ps k) ≡ true

  abbrev AreOver : List Part → Type 0
  AreOver qs = are_numbers ps qs ≡ true

  -- each name of the expression is such a parameter
  abbrev pub IsOver : LinearExpression → Type 0
  IsOver e = are_numbers ps e.parts ≡ true

  -- ---- sums and multiples

  coefficient_over : (k : ℕ) (c : ℤ) (qs : List Part) → IsNumber k → AreOver qs → AreOver (with_coefficient k c qs)
  coefficient_over k (pos zero) qs n h = h
  coefficient_over k (pos (suc m)) qs n h = and_both _ _ n h
  coefficient_over k (negsuc m) qs n h = and_both _ _ n h

  placed_over : (p q : Part) (qs : List Part) (less same : Bool) → IsNumber p.0 → AreOver (q ∷ qs) → AreOver (with_part p qs) →
      AreOver (if less then (p ∷ q ∷ qs) else (if same then (with_coefficient q.0 (p.1 +ℤ q.1) qs) else (q ∷ with_part p qs)))
  placed_over p q qs true same n h ih = and_both _ _ n h
  placed_over p q qs false true n h ih = let x = both _ _ h in coefficient_over q.0 (p.1 +ℤ q.1) qs x.0 x.1
  placed_over p q qs false false n h ih = and_both _ _ (both _ _ h).0 ih

  part_over : (p : Part) (qs : List Part) → IsNumber p.0 → AreOver qs → AreOver (with_part p qs)
  part_over p [] n h = and_both _ _ n refl
  part_over p (q ∷ qs) n h = placed_over p q qs (nat_lt p.0 q.0) (nat_eq p.0 q.0) n h (part_over p qs n (both _ _ h).1)

  parts_over : (rs qs : List Part) → AreOver rs → AreOver qs → AreOver (with_parts rs qs)
  parts_over [] qs g h = h
  parts_over (p ∷ rs) qs g h = let x = both _ _ g in part_over p (with_parts rs qs) x.0 (parts_over rs qs x.1 h)

  add_over : (a b : LinearExpression) → IsOver a → IsOver b → IsOver (add a b)
  add_over a b g h = parts_over a.parts b.parts g h

  multiples_over : (k : ℤ) (qs : List Part) → AreOver qs → AreOver (map (λ p. (p.0, k *ℤ p.1)) qs)
  multiples_over k [] h = refl
  multiples_over k (q ∷ qs) h = let x = both _ _ h in and_both _ _ x.0 (multiples_over k qs x.1)

  scaled_over : (k : ℤ) (qs : List Part) → AreOver qs → AreOver (scaled_parts k qs)
  scaled_over (pos zero) qs h = refl
  scaled_over (pos (suc n)) qs h = multiples_over (pos (suc n)) qs h
  scaled_over (negsuc n) qs h = multiples_over (negsuc n) qs h

  scale_over : (k : ℤ) (e : LinearExpression) → IsOver e → IsOver (scale k e)
  scale_over k e h = scaled_over k e.parts h

  pub minus_over : (a b : LinearExpression) → IsOver a → IsOver b → IsOver (minus a b)
  minus_over a b g h = add_over a (scale (negsuc 0) b) g (scale_over (negsuc 0) b h)

  pub less_one_over : (e : LinearExpression) → IsOver e → IsOver (less_one e)
  less_one_over e h = minus_over e (number (pos 1)) h refl

  -- ---- what fits

  pub fitting_over : (e : Sexpr) (l r : LinearExpression) → fitting e l ≡ Ok r → IsOver l → IsOver r
  fitting_over e l r is h = subst IsOver (fitting_is e l r is) h

  product_over : (e : Sexpr) (l m r : LinearExpression) (j k : Option ℤ) → times_by e l m j k ≡ Ok r → IsOver l → IsOver m → IsOver r
  product_over e l m r (Some j) k is g h = fitting_over e (scale j m) r is (scale_over j m h)
  product_over e l m r None (Some k) is g h = fitting_over e (scale k l) r is (scale_over k l g)
  product_over e l m r None None is g h = absurd cc

  joined_over : (e : Sexpr) (s : Sign) (l m r : LinearExpression) → joined e s l m ≡ Ok r → IsOver l → IsOver m → IsOver r
  joined_over e sign.Plus l m r is g h = fitting_over e (add l m) r is (add_over l m g h)
  joined_over e sign.Minus l m r is g h = fitting_over e (minus l m) r is (minus_over l m g h)
  joined_over e sign.Times l m r is g h = product_over e l m r (number_in l) (number_in m) is g h

  -- the numbers of names are those of such parameters, and so are the names of sizes
  pub record AreNumbers (w : WidthNames) : Type 0 where
    pub numbers : (text : List ℕ) (k : ℕ) → w.number text ≡ Some k → IsNumber k
    pub sizes : (text : List ℕ) (l : LinearExpression) → size_by w.size text ≡ Some l → IsOver l

  pub linear_over : (w : WidthNames) → AreNumbers w → (e : Sexpr) (l : LinearExpression) → linear_at w e ≡ Ok l → IsOver l
  linear_over w h =
      linear_kept IsOver w (record {
        numbers = λ text k is. refl;
        names = λ text k is. and_both _ _ (h.numbers text k is) refl;
        sizes = h.sizes;
        joins = joined_over;
        negates = λ e l r is over. fitting_over e (scale (negsuc 0) l) r is (scale_over (negsuc 0) l over);
      })

-- ---- the constant

-- the constant is an i128
abbrev pub IsNarrow : LinearExpression → Type 0
IsNarrow e = fits_i128 e.constant ≡ true

within_narrow : (l : LinearExpression) → is_within l ≡ true → IsNarrow l
unfolding is_within
within_narrow l h = (both _ _ h).0

fitting_narrow : (e : Sexpr) (l r : LinearExpression) → fitting e l ≡ Ok r → IsNarrow r
fitting_narrow e l r is = go (is_within l) refl is
  where
    go : (b : Bool) → is_within l ≡ b → (if b then Ok l else refused e reason.TermLimit) ≡ Ok r → IsNarrow r
    go true h is = subst IsNarrow (same_Ok l r is) (within_narrow l h)
    go false h is = absurd cc

joined_narrow : (e : Sexpr) (s : Sign) (l m r : LinearExpression) → joined e s l m ≡ Ok r → IsNarrow r
joined_narrow e sign.Plus l m r is = fitting_narrow e (add l m) r is
joined_narrow e sign.Minus l m r is = fitting_narrow e (minus l m) r is
joined_narrow e sign.Times l m r is = go (number_in l) (number_in m) is
  where
    go : (j k : Option ℤ) → times_by e l m j k ≡ Ok r → IsNarrow r
    go (Some j) k is = fitting_narrow e (scale j m) r is
    go None (Some k) is = fitting_narrow e (scale k l) r is
    go None None is = absurd cc

pub small_narrow : (n k : ℕ) → up_to LARGEST_SMALL n ≡ Some k → nat_lt k (2 ^ 127) ≡ true
small_narrow n k is = go (nat_le n LARGEST_SMALL) refl is
  where
    go : (b : Bool) → nat_le n LARGEST_SMALL ≡ b → (if b then Some n else None) ≡ Some k → nat_lt k (2 ^ 127) ≡ true
    go true le is =
        let below : n ≤ LARGEST_SMALL = leb-true n LARGEST_SMALL le in
        let P : ℕ → Type 0 = λ j. nat_lt j (2 ^ 127) ≡ true in
        subst P (same_Some n k is) (lt-ltb n (2 ^ 127) (omega (arith, below)))
    go false le is = absurd (none-some k is)

pub linear_narrow : (w : WidthNames) → ((text : List ℕ) (l : LinearExpression) → size_by w.size text ≡ Some l → IsNarrow l) → (e : Sexpr) (l : LinearExpression) → linear_at w e ≡ Ok l → IsNarrow l
linear_narrow w h =
    linear_kept IsNarrow w (record {
      numbers = λ text k is. small_narrow (digits_number 10 text) k is;
      names = λ text k is. refl;
      sizes = h;
      joins = λ e s l m r is g h. joined_narrow e s l m r is;
      negates = λ e l r is h. fitting_narrow e (scale (negsuc 0) l) r is;
    })
