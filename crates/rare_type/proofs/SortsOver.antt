-- Rules of sorts keep to the numbers of a rule: sums, multiples, widths and sorts.
use Rattle.std.proofs.Common.{◌≡◌, ℕ, zero, suc, ℤ, pos, negsuc, ◌+ℤ◌, ◌*ℤ◌, Bool, true, false, List, [], ◌∷◌, map, length, nat_lt, nat_eq, Option, Some, None, refl, subst, if◌then◌else◌}
use Rattle.std.specs.Prelude.{nat_le}
use Rattle.std.specs.Option.{option_map, option_and_then}
use Rattle.std.proofs.lemmas.Option.{none-some, same_Some}
use Rattle.rare_linear.specs.Entailment.{minus}
use Rattle.rare_linear.specs.Linears.{Part, LinearExpression, number, with_coefficient, with_part, with_parts, add, scaled_parts, scale}
use Rattle.rare_sort.specs.Each.{Each}
use Rattle.rare_sort.specs.SortRules.{basic_sort, boxed, width, array_parts, less_one, width_needs, boxed_needs, SortRule, gives, each_is, counts, outcome_sort, total_from, total, is_number, product, slice_width, slice_needs, sort_rule}
use Rattle.rare_sort.specs.declared.family.Basic.{Basic}
use Rattle.rare_sort.specs.declared.family.Basic.TheVariants as basic
use Rattle.rare_sort.specs.declared.family.Family.{Family}
use Rattle.rare_sort.specs.declared.family.Family.TheVariants as kind
use Rattle.rare_sort.specs.declared.family.Outcome.{Outcome}
use Rattle.rare_sort.specs.declared.family.Outcome.TheVariants as outcome
use Rattle.rare_sort.specs.declared.sort.Sort.{Sort, Bool as BoolSort, Int, BitVec, Array', Named, Row_of-Sort, end_of-Sort, more_of-Sort}
use Rattle.rare_sort.proofs.NeedsLemmas.{both, and_both}
use Rattle.rare_sort.proofs.Options.{if_some, map_some, then_some}
use Rattle.rare_sort.proofs.SortingLemmas.{Each-append}
use Rattle.rare_rule.specs.Params.{kind_at, is_number_kind}
use Rattle.rare_rule.specs.ParamForms.{are_numbers, all_are_numbers, is_sort_over, is_boxed_over}
use Rattle.rare_rule.specs.declared.param.Param.{Param}

module _ (ps : List Param) where
  -- a parameter that stands for a whole number
  abbrev pub IsNumber : ℕ → Type 0
  IsNumber k = is_number_kind (kind_at ps k) ≡ true

  abbrev AreOver : List Part → Type 0
  AreOver qs = are_numbers ps qs ≡ true

  -- each name of the expression is such a parameter
  abbrev pub IsOver : LinearExpression → Type 0
  IsOver e = are_numbers ps e.parts ≡ true

  -- each name of a width in the sort is one, and its sort names are sorts
  abbrev pub IsSortOver : Sort → Type 0
  IsSortOver s = is_sort_over ps s ≡ true

  -- ---- expressions

  coefficient_over : (k : ℕ) (c : ℤ) (qs : List Part) → IsNumber k → AreOver qs → AreOver (with_coefficient k c qs)
  coefficient_over k (pos zero) qs n h = h
  coefficient_over k (pos (suc m)) qs n h = and_both _ _ n h
  coefficient_over k (negsuc m) qs n h = and_both _ _ n h

  placed_over : (p q : Part) (qs : List Part) (less same : Bool) → IsNumber p.0 → AreOver (q ∷ qs) → AreOver (with_part p qs) →
      AreOver (if less then (p ∷ q ∷ qs) else (if same then (with_coefficient q.0 (p.1 +ℤ q.1) qs) else (q ∷ with_part p qs)))
  placed_over p q qs true same n h ih = and_both _ _ n h
  placed_over p q qs false true n h ih = let x = both _ _ h in coefficient_over q.0 (p.1 +ℤ q.1) qs x.0 x.1
  placed_over p q qs false false n h ih = and_both _ _ (both _ _ h).0 ih

  part_over : (p : Part) (qs : List Part) → IsNumber p.0 → AreOver qs → AreOver (with_part p qs)
  part_over p [] n h = and_both _ _ n refl
  part_over p (q ∷ qs) n h = placed_over p q qs (nat_lt p.0 q.0) (nat_eq p.0 q.0) n h (part_over p qs n (both _ _ h).1)

  parts_over : (ps' qs : List Part) → AreOver ps' → AreOver qs → AreOver (with_parts ps' qs)
  parts_over [] qs g h = h
  parts_over (p ∷ ps') qs g h = let x = both _ _ g in part_over p (with_parts ps' qs) x.0 (parts_over ps' qs x.1 h)

  pub add_over : (a b : LinearExpression) → IsOver a → IsOver b → IsOver (add a b)
  add_over a b g h = parts_over a.parts b.parts g h

  multiples_over : (k : ℤ) (qs : List Part) → AreOver qs → AreOver (map (λ p. (p.0, k *ℤ p.1)) qs)
  multiples_over k [] h = refl
  multiples_over k (q ∷ qs) h = let x = both _ _ h in and_both _ _ x.0 (multiples_over k qs x.1)

  scaled_over : (k : ℤ) (qs : List Part) → AreOver qs → AreOver (scaled_parts k qs)
  scaled_over (pos zero) qs h = refl
  scaled_over (pos (suc n)) qs h = multiples_over (pos (suc n)) qs h
  scaled_over (negsuc n) qs h = multiples_over (negsuc n) qs h

  pub scale_over : (k : ℤ) (e : LinearExpression) → IsOver e → IsOver (scale k e)
  scale_over k e h = scaled_over k e.parts h

  pub minus_over : (a b : LinearExpression) → IsOver a → IsOver b → IsOver (minus a b)
  minus_over a b g h = add_over a (scale (negsuc 0) b) g (scale_over (negsuc 0) b h)

  less_one_over : (e : LinearExpression) → IsOver e → IsOver (less_one e)
  less_one_over e h = minus_over e (number (pos 1)) h refl

  pub indices_over : (ix : List LinearExpression) → all_are_numbers ps ix ≡ true → Each IsOver ix
  indices_over [] h = tt
  indices_over (e ∷ ix) h = let x = both _ _ h in (x.0, indices_over ix x.1)

  -- ---- sorts

  width_over : (s : Sort) (w : LinearExpression) → IsSortOver s → width s ≡ Some w → IsOver w
  width_over (BitVec v) w h e = subst IsOver (same_Some v w e) h
  width_over s w h e = absurd (none-some w e)

  boxed_over : {n : _} (row : Row_of-Sort n) → is_boxed_over ps row ≡ true → IsSortOver (boxed row)
  boxed_over end_of-Sort h = refl
  boxed_over (more_of-Sort s rest) h = h

  abbrev AreBothOver : Sort × Sort → Type 0
  AreBothOver p = IsSortOver p.0 × IsSortOver p.1

  array_over : (s : Sort) (p : Sort × Sort) → IsSortOver s → array_parts s ≡ Some p → AreBothOver p
  array_over (Array' x keys y entries) p h e =
      let b = both _ _ h in
      subst AreBothOver (same_Some (boxed keys, boxed entries) p e) (boxed_over keys b.0, boxed_over entries b.1)
  array_over s p h e = absurd (none-some p e)

  mutual
    pub widths_over : (s : Sort) → IsSortOver s → Each IsOver (width_needs s)
    widths_over BoolSort h = tt
    widths_over Int h = tt
    widths_over (BitVec w) h = (less_one_over w h, tt)
    widths_over (Array' x keys y entries) h =
        let b = both _ _ h in Each-append IsOver (boxed_needs keys) (boxed_needs entries) (boxed_widths_over keys b.0) (boxed_widths_over entries b.1)
    widths_over (Named k) h = tt

    boxed_widths_over : {n : _} (row : Row_of-Sort n) → is_boxed_over ps row ≡ true → Each IsOver (boxed_needs row)
    boxed_widths_over end_of-Sort h = tt
    boxed_widths_over (more_of-Sort s rest) h = widths_over s h

  -- ---- the rule of sorts of an application

  pub record IsRuleOver (r : SortRule) : Type 0 where
    pub sort : IsSortOver r.sort
    pub needs : Each IsOver r.needs

  basic_over : (b : Basic) → IsSortOver (basic_sort b)
  basic_over basic.Bool = refl
  basic_over basic.Int = refl

  outcome_over : (o : Outcome) (w : LinearExpression) → IsOver w → IsSortOver (outcome_sort o w)
  outcome_over outcome.SameWidth w h = h
  outcome_over outcome.OneBit w h = refl
  outcome_over outcome.Bool w h = refl

  total_over : (z : LinearExpression) (ss : List Sort) (w : LinearExpression) → IsOver z → Each IsSortOver ss → total_from z ss ≡ Some w → IsOver w
  total_over z [] w n h e = subst IsOver (same_Some z w e) n
  total_over z (s ∷ ss) w n h e =
      let f = then_some (λ v. total_from (add z v) ss) (width s) w e in
      total_over (add z f.0) ss w (add_over z f.0 n (width_over s f.0 h.0 f.1)) h.1 f.2

  product_over : (k m w : LinearExpression) → IsOver k → IsOver m → product k m ≡ Some w → IsOver w
  product_over k m w g h e = go (is_number k) (is_number m) e
    where
      go : (a b : Bool) → (if a then (Some (scale k.constant m)) else (if b then (Some (scale m.constant k)) else None)) ≡ Some w → IsOver w
      go true b t = subst IsOver (same_Some _ w t) (scale_over k.constant m h)
      go false true t = subst IsOver (same_Some _ w t) (scale_over m.constant k g)
      go false false t = absurd (none-some w t)

  -- a rule that asks for nothing
  abbrev plain : Sort → List (Sort × Sort) → SortRule
  plain s es = gives s es []

  if_over : (b : Bool) (s : Sort) (es : List (Sort × Sort)) (r : SortRule) → IsSortOver s → (if b then (Some (plain s es)) else None) ≡ Some r → IsRuleOver r
  if_over b s es r h e = subst IsRuleOver (if_some b (plain s es) r e).1 (record { sort = h; needs = tt })

  some_over : (x r : SortRule) → IsRuleOver x → Some x ≡ Some r → IsRuleOver r
  some_over x r h e = subst IsRuleOver (same_Some x r e) h

  -- a rule that is made from what is there
  from_over : {X : Type 0} (f : X → SortRule) (o : Option X) (r : SortRule) → ((x : X) → o ≡ Some x → IsRuleOver (f x)) → option_map f o ≡ Some r → IsRuleOver r
  from_over f o r h e = let q = map_some f o r e in subst IsRuleOver q.2 (h q.0 q.1)

  if_from_over : {X : Type 0} (b : Bool) (f : X → SortRule) (o : Option X) (r : SortRule) → ((x : X) → o ≡ Some x → IsRuleOver (f x)) →
      (if b then (option_map f o) else None) ≡ Some r → IsRuleOver r
  if_from_over true f o r h e = from_over f o r h e
  if_from_over false f o r h e = absurd (none-some r e)

  -- an application without symbols of a problem, whose indices and arguments are over numbers, has a sort and needs over numbers
  pub rule_over : (least : ℕ) (f : Family) (ix : List LinearExpression) (ss : List Sort) (r : SortRule) →
      Each IsOver ix → Each IsSortOver ss → sort_rule (λ k. None) least f ix ss ≡ Some r → IsRuleOver r
  rule_over least (kind.Fixed c s t) [] ss r n h e = if_over (counts c least (length ss)) (basic_sort t) (each_is (basic_sort s) ss) r (basic_over t) e
  rule_over least kind.Alike [] (s ∷ ss) r n h e = if_over (nat_le least (length (s ∷ ss))) BoolSort (each_is s ss) r refl e
  rule_over least kind.Choice [] (c ∷ s ∷ t ∷ []) r n h e = some_over (plain s ((c, BoolSort) ∷ (t, s) ∷ [])) r (record { sort = h.1.0; needs = tt }) e
  rule_over least kind.Select [] (m ∷ k ∷ []) r n h e =
      from_over (λ p. plain p.1 ((k, p.0) ∷ [])) (array_parts m) r (λ p is. record { sort = (array_over m p h.0 is).1; needs = tt }) e
  rule_over least kind.Store [] (m ∷ k ∷ v ∷ []) r n h e =
      from_over (λ p. plain m ((k, p.0) ∷ (v, p.1) ∷ [])) (array_parts m) r (λ p is. record { sort = h.0; needs = tt }) e
  rule_over least (kind.BitVectors c o) [] (s ∷ ss) r n h e =
      if_from_over (counts c least (length (s ∷ ss))) (λ w. plain (outcome_sort o w) (each_is s ss)) (width s) r
      (λ w is. record { sort = outcome_over o w (width_over s w h.0 is); needs = tt }) e
  rule_over least kind.Concat [] ss r n h e =
      if_from_over (nat_le least (length ss)) (λ w. plain (BitVec w) []) (total ss) r (λ w is. record { sort = total_over (number (pos 0)) ss w refl h is; needs = tt }) e
  rule_over least kind.Extract (j ∷ i ∷ []) (s ∷ []) r n h e =
      from_over (λ m. gives (BitVec (slice_width j i)) [] (slice_needs j i m)) (width s) r
      (λ m is. record {
        sort = add_over (minus j i) (number (pos 1)) (minus_over j i n.0 n.1.0) refl;
        needs = (n.1.0, (minus_over j i n.0 n.1.0, (minus_over (less_one m) j (less_one_over m (width_over s m h.0 is)) n.0, tt)));
      }) e
  rule_over least kind.Extend (k ∷ []) (s ∷ []) r n h e =
      from_over (λ m. gives (BitVec (add m k)) [] (k ∷ [])) (width s) r (λ m is. record { sort = add_over m k (width_over s m h.0 is) n.0; needs = n }) e
  rule_over least kind.Rotate (k ∷ []) (s ∷ []) r n h e =
      from_over (λ (m : LinearExpression). gives s [] (k ∷ [])) (width s) r (λ m is. record { sort = h.0; needs = n }) e
  rule_over least kind.Repeat (k ∷ []) (s ∷ []) r n h e =
      from_over (λ w. gives (BitVec w) [] (less_one k ∷ [])) (option_and_then (λ m. product k m) (width s)) r
      (λ w is. let q = then_some (λ m. product k m) (width s) w is in record {
        sort = product_over k q.0 w n.0 (width_over s q.0 h.0 q.1) q.2;
        needs = (less_one_over k n.0, tt);
      }) e
  rule_over least kind.Bits (w ∷ []) [] r n h e =
      some_over (gives (BitVec w) [] (less_one w ∷ [])) r (record { sort = n.0; needs = (less_one_over w n.0, tt) }) e
  rule_over least kind.Literal (v ∷ w ∷ []) [] r n h e =
      some_over (gives (BitVec w) [] (less_one w ∷ [])) r (record { sort = n.1.0; needs = (less_one_over w n.1.0, tt) }) e
  rule_over least (kind.Symbol k) [] ss r n h e = absurd (none-some r e)
  rule_over least (kind.Symbol k) (i ∷ ix) ss r n h e = absurd (none-some r e)
  rule_over least f ix ss r n h e = absurd (none-some r e)
