-- Sums and multiples of linear expressions whose names are such have such names, and what is read is kept.
use Rattle.std.proofs.Common.{◌≡◌, ℕ, zero, suc, ◌^◌, Bool, true, false, List, [], ◌∷◌, map, nat_lt, nat_eq, Option, Some, None, Ok, refl, subst, arith}
use Rattle.std.specs.Prelude.{ℤ, pos, negsuc, ◌+ℤ◌, ◌*ℤ◌, if◌then◌else◌}
use Rattle.std.proofs.lemmas.Bool.{ltb-true}
use Rattle.rare_base.specs.declared.answers.Reason.TheVariants as reason
use Rattle.rare_linear.specs.Entailment.{minus}
use Rattle.rare_linear.specs.EntailmentTest.{is_within}
use Rattle.rare_linear.specs.Linears.{Part, LinearExpression, number, with_coefficient, with_part, with_parts, IsNormal, add, scaled_parts, scale}
use Rattle.rare_linear.proofs.EntailmentTestLemmas.{is_within-Decides}
use Rattle.rare_linear.proofs.NormalForms.{Rises-with_parts, Rises-scaled}
use Rattle.rare_sort.specs.SortRules.{less_one, number_in}
use Rattle.rare_sort.specs.Sorting.{name}
use Rattle.rare_sexpr.specs.declared.tree.Sexpr.{Sexpr}
use Rattle.rare_scope.specs.declared.sign.Sign.{Sign}
use Rattle.rare_scope.specs.declared.sign.Sign.TheVariants as sign
use Rattle.rare_scope.specs.Reading.{refused}
use Rattle.rare_scope.specs.LinearText.{WidthNames, size_by, fitting, joined, times_by, linear_at}
use Rattle.rare_scope.specs.Numbers.{small_number, digits_number}
use Rattle.rare_scope.proofs.InOrder.{same_Ok}
use Rattle.rare_reread.specs.Readable.{IsKeptLinear}
use Rattle.rare_parse.proofs.FormLinear.{linear_kept}
use Rattle.rare_parse.proofs.FormNumbers.{small_narrow}

module _ (Is : ℕ → Type 0) where
  -- each name of the parts is such
  abbrev pub AllNames : List Part → Type 0
  AllNames [] = Unit {0}
  AllNames (p ∷ ps) = Is p.0 × AllNames ps

  -- ---- sums and multiples

  coefficient_names : (k : ℕ) (c : ℤ) (qs : List Part) → Is k → AllNames qs → AllNames (with_coefficient k c qs)
  coefficient_names k (pos zero) qs n h = h
  coefficient_names k (pos (suc m)) qs n h = (n, h)
  coefficient_names k (negsuc m) qs n h = (n, h)

  placed_names : (p q : Part) (qs : List Part) (less same : Bool) → Is p.0 → AllNames (q ∷ qs) → AllNames (with_part p qs) →
      AllNames (if less then (p ∷ q ∷ qs) else (if same then (with_coefficient q.0 (p.1 +ℤ q.1) qs) else (q ∷ with_part p qs)))
  placed_names p q qs true same n h ih = (n, h)
  placed_names p q qs false true n h ih = coefficient_names q.0 (p.1 +ℤ q.1) qs h.0 h.1
  placed_names p q qs false false n h ih = (h.0, ih)

  part_names : (p : Part) (qs : List Part) → Is p.0 → AllNames qs → AllNames (with_part p qs)
  part_names p [] n h = (n, tt)
  part_names p (q ∷ qs) n h = placed_names p q qs (nat_lt p.0 q.0) (nat_eq p.0 q.0) n h (part_names p qs n h.1)

  parts_names : (rs qs : List Part) → AllNames rs → AllNames qs → AllNames (with_parts rs qs)
  parts_names [] qs g h = h
  parts_names (p ∷ rs) qs g h = part_names p (with_parts rs qs) g.0 (parts_names rs qs g.1 h)

  multiples_names : (k : ℤ) (qs : List Part) → AllNames qs → AllNames (map (λ p. (p.0, k *ℤ p.1)) qs)
  multiples_names k [] h = tt
  multiples_names k (q ∷ qs) h = (h.0, multiples_names k qs h.1)

  scaled_names : (k : ℤ) (qs : List Part) → AllNames qs → AllNames (scaled_parts k qs)
  scaled_names (pos zero) qs h = tt
  scaled_names (pos (suc n)) qs h = multiples_names (pos (suc n)) qs h
  scaled_names (negsuc n) qs h = multiples_names (negsuc n) qs h

  -- ---- what sums and multiples keep

  -- in normal form, and each name is such
  pub record IsSum (l : LinearExpression) : Type 0 where
    pub normal : IsNormal l.parts
    pub names : AllNames l.parts

  add_sum : (a b : LinearExpression) → IsSum a → IsSum b → IsSum (add a b)
  add_sum a b g h = record { normal = Rises-with_parts 0 a.parts b.parts g.normal h.normal; names = parts_names a.parts b.parts g.names h.names }

  scale_sum : (k : ℤ) (e : LinearExpression) → IsSum e → IsSum (scale k e)
  scale_sum k e h = record { normal = Rises-scaled 0 k e.parts h.normal; names = scaled_names k e.parts h.names }

  minus_sum : (a b : LinearExpression) → IsSum a → IsSum b → IsSum (minus a b)
  minus_sum a b g h = add_sum a (scale (negsuc 0) b) g (scale_sum (negsuc 0) b h)

  number_sum : (c : ℤ) → IsSum (number c)
  number_sum c = record { normal = tt; names = tt }

  name_sum : (k : ℕ) → Is k → IsSum (name k)
  name_sum k is = record { normal = (omega arith, (λ e. cc), tt); names = (is, tt) }

  -- in normal form and within i128, and each name is such
  pub record IsSpoken (l : LinearExpression) : Type 0 where
    pub kept : IsKeptLinear l
    pub names : AllNames l.parts

  sum_of : (l : LinearExpression) → IsSpoken l → IsSum l
  sum_of l h = record { normal = h.kept.normal; names = h.names }

  fitting_spoken : (e : Sexpr) (l r : LinearExpression) → fitting e l ≡ Ok r → IsSum l → IsSpoken r
  fitting_spoken e l r is h = go (is_within l) refl is
    where
      go : (b : Bool) → is_within l ≡ b → (if b then Ok l else refused e reason.TermLimit) ≡ Ok r → IsSpoken r
      go true within is = subst IsSpoken (same_Ok l r is) (record { kept = record { normal = h.normal; within = (is_within-Decides l).0 within }; names = h.names })
      go false within is = absurd cc

  product_spoken : (e : Sexpr) (l m r : LinearExpression) (j k : Option ℤ) → times_by e l m j k ≡ Ok r → IsSpoken l → IsSpoken m → IsSpoken r
  product_spoken e l m r (Some j) k is g h = fitting_spoken e (scale j m) r is (scale_sum j m (sum_of m h))
  product_spoken e l m r None (Some k) is g h = fitting_spoken e (scale k l) r is (scale_sum k l (sum_of l g))
  product_spoken e l m r None None is g h = absurd cc

  joined_spoken : (e : Sexpr) (s : Sign) (l m r : LinearExpression) → joined e s l m ≡ Ok r → IsSpoken l → IsSpoken m → IsSpoken r
  joined_spoken e sign.Plus l m r is g h = fitting_spoken e (add l m) r is (add_sum l m (sum_of l g) (sum_of m h))
  joined_spoken e sign.Minus l m r is g h = fitting_spoken e (minus l m) r is (minus_sum l m (sum_of l g) (sum_of m h))
  joined_spoken e sign.Times l m r is g h = product_spoken e l m r (number_in l) (number_in m) is g h

  -- differences, as constraints have them
  pub minus_spoken : (e : Sexpr) (a b r : LinearExpression) → fitting e (minus a b) ≡ Ok r → IsSpoken a → IsSpoken b → IsSpoken r
  minus_spoken e a b r is g h = fitting_spoken e (minus a b) r is (minus_sum a b (sum_of a g) (sum_of b h))

  pub less_one_spoken : (e : Sexpr) (a r : LinearExpression) → fitting e (less_one a) ≡ Ok r → IsSpoken a → IsSpoken r
  less_one_spoken e a r is g = fitting_spoken e (less_one a) r is (minus_sum a (number (pos 1)) (sum_of a g) (number_sum (pos 1)))

  -- ---- what is read

  small_spoken : (text : List ℕ) (k : ℕ) → small_number text ≡ Some k → IsSpoken (number (pos k))
  small_spoken text k is =
      let below = ltb-true k (2 ^ 127) (small_narrow (digits_number 10 text) k is) in
      record { kept = record { normal = tt; within = record { constant = record { sfits = omega arith }; coefficients = tt } }; names = tt }

  pub name_spoken : (k : ℕ) → Is k → IsSpoken (name k)
  name_spoken k is = record { kept = record { normal = (name_sum k is).normal; within = record { constant = record { sfits = omega arith }; coefficients = (record { sfits = omega arith }, tt) } }; names = (is, tt) }

  -- over widths of such names, and sizes of such expressions
  pub linear_spoken : (w : WidthNames) → ((text : List ℕ) (k : ℕ) → w.number text ≡ Some k → Is k) → ((text : List ℕ) (l : LinearExpression) → size_by w.size text ≡ Some l → IsSpoken l) →
      (e : Sexpr) (l : LinearExpression) → linear_at w e ≡ Ok l → IsSpoken l
  linear_spoken w names sizes =
      linear_kept IsSpoken w (record {
        numbers = small_spoken;
        names = λ text k is. name_spoken k (names text k is);
        sizes = sizes;
        joins = joined_spoken;
        negates = λ e l r is h. fitting_spoken e (scale (negsuc 0) l) r is (scale_sum (negsuc 0) l (sum_of l h));
      })
