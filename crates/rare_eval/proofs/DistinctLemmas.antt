-- Values that differ, by their ordinals.
use Rattle.std.proofs.Common.{◌≡◌, ℕ, zero, suc, Bool as Test, true, false, not, ◌&&◌, ◌||◌, List, [], ◌∷◌, ◌++◌, map, take, length, Option, Some, refl, sym, ap, ◌∙◌, subst, arith, inl, inr, eq-eqb}
use Rattle.std.proofs.lemmas.Bool.{eqb-true}
use Rattle.std.specs.Prelude.{ℤ, pos, negsuc, nat_eq, ◌⊎◌, ◌≢◌, nat_le}
use Rattle.std.specs.List.{list_any}
use Rattle.rare_linear.specs.Linears.{LinearExpression, number}
use Rattle.rare_sort.specs.Each.{Each, EachPair}
use Rattle.rare_sort.specs.SortRules.{SortRule, sort_rule, gives, each_is, number_in}
use Rattle.rare_sort.specs.Sorting.{IsOne, all_of}
use Rattle.rare_sort.specs.declared.family.Family.TheVariants as kind
use Rattle.rare_sort.specs.declared.sort.Signature.{Signature}
use Rattle.rare_sort.specs.declared.sort.Sort.{Sort, Bool, Int, BitVec, Array', Named}
use Rattle.rare_sort.proofs.Options.{if_some}
use Rattle.rare_meaning.specs.Values.{Value, Truth, Whole, Bits, value_eq, bit_of}
use Rattle.rare_meaning.specs.Settings.{Item}
use Rattle.rare_meaning.specs.Splicing.{values, equals_any, all_differ}
use Rattle.rare_meaning.proofs.ValueLemmas.{value_cases}
use Rattle.rare_eval.specs.inner.Ordinals.{whole_ordinal, value_ordinal}
use Rattle.rare_eval.specs.inner.Sorted.{IsValueOf}

whole_ordinals : (y z : ℤ) → whole_ordinal y ≡ whole_ordinal z → y ≡ z
whole_ordinals (pos m) (pos n) e = ap pos (omega (arith, e))
whole_ordinals (pos m) (negsuc n) e = absurd (omega (arith, e))
whole_ordinals (negsuc m) (pos n) e = absurd (omega (arith, e))
whole_ordinals (negsuc m) (negsuc n) e = ap negsuc (omega (arith, e))

-- two tests that agree where both are decided
by_ordinals : (v w : Value) (m n : ℕ) → (v ≡ w → m ≡ n) → (m ≡ n → v ≡ w) → value_eq v w ≡ nat_eq m n
by_ordinals v w m n there back = go (value_cases v w)
  where
    other : (b : Test) → nat_eq m n ≡ b → (v ≢ w) → b ≡ false
    other true e ne = absurd (ne (back (eqb-true m n e)))
    other false e ne = refl

    go : ((value_eq v w ≡ true) × (v ≡ w)) ⊎ ((value_eq v w ≡ false) × (v ≢ w)) → value_eq v w ≡ nat_eq m n
    go (inl (t, e)) = t ∙ sym (eq-eqb m n (there e))
    go (inr (f, ne)) = f ∙ sym (other (nat_eq m n) refl ne)

bit_ordinals : (a b : Test) → bit_of a ≡ bit_of b → a ≡ b
bit_ordinals true true e = refl
bit_ordinals false false e = refl
bit_ordinals true false e = cc
bit_ordinals false true e = cc

ordinals_same : (s : Sort) (i j : Item) → IsValueOf s i → IsValueOf s j → value_eq i.value j.value ≡ nat_eq (value_ordinal i.value) (value_ordinal j.value)
ordinals_same Bool i j (a, p) (b, q) =
    subst (λ x. value_eq x.value j.value ≡ nat_eq (value_ordinal x.value) (value_ordinal j.value)) (sym p)
    (subst (λ y. value_eq (Truth a) y.value ≡ nat_eq (bit_of a) (value_ordinal y.value)) (sym q)
    (by_ordinals (Truth a) (Truth b) (bit_of a) (bit_of b) (λ e. ap value_ordinal e) (λ e. ap Truth (bit_ordinals a b e))))
ordinals_same Int i j (a, p) (b, q) =
    subst (λ x. value_eq x.value j.value ≡ nat_eq (value_ordinal x.value) (value_ordinal j.value)) (sym p)
    (subst (λ y. value_eq (Whole a) y.value ≡ nat_eq (whole_ordinal a) (value_ordinal y.value)) (sym q)
    (by_ordinals (Whole a) (Whole b) (whole_ordinal a) (whole_ordinal b) (λ e. ap value_ordinal e) (λ e. ap (λ z. Whole z) (whole_ordinals a b e))))
ordinals_same (BitVec w) i j h k =
    let same : h.width ≡ k.width = let e : number (pos h.width) ≡ number (pos k.width) = sym h.named ∙ k.named in cc (ap (λ x. x.constant) e) in
    subst (λ x. value_eq x.value j.value ≡ nat_eq (value_ordinal x.value) (value_ordinal j.value)) (sym h.is)
    (subst (λ y. value_eq (Bits h.width h.bits_of) y.value ≡ nat_eq h.bits_of (value_ordinal y.value)) (sym k.is)
    (by_ordinals (Bits h.width h.bits_of) (Bits k.width k.bits_of) h.bits_of k.bits_of (λ e. ap value_ordinal e) (λ e. λ x. Bits (same x) (e x))))
ordinals_same (Array' p k q e) i j h l = absurd h
ordinals_same (Named k) i j h l = absurd h

any_same : (s : Sort) (is : List Item) (v : Item) → Each (IsValueOf s) is → IsValueOf s v →
    list_any (λ u. value_eq u v.value) (values is) ≡ list_any (λ n. nat_eq n (value_ordinal v.value)) (map (λ i. value_ordinal i.value) is)
any_same s [] v h k = refl
any_same s (i ∷ is) v h k = λ x. ordinals_same s i v h.0 k x || any_same s is v h.1 k x

equals_more : (x : Value) (vs : List Value) (v : Value) → equals_any x (vs ++ v ∷ []) ≡ (equals_any x vs || value_eq x v)
equals_more x [] v = nothing (value_eq x v)
  where
    nothing : (b : Test) → (b || false) ≡ b
    nothing true = refl
    nothing false = refl
equals_more x (u ∷ vs) v = ap (λ b. value_eq x u || b) (equals_more x vs v) ∙ regroup (value_eq x u) _ _
  where
    regroup : (a b c : Test) → (a || (b || c)) ≡ ((a || b) || c)
    regroup true b c = refl
    regroup false b c = refl

differ_more : (vs : List Value) (v : Value) → all_differ (vs ++ v ∷ []) ≡ (all_differ vs && not (list_any (λ u. value_eq u v) vs))
differ_more [] v = refl
differ_more (x ∷ vs) v =
    (λ i. not (equals_more x vs v i) && differ_more vs v i) ∙ regroup (equals_any x vs) (value_eq x v) (all_differ vs) (list_any (λ u. value_eq u v) vs)
  where
    regroup : (e b d a : Test) → (not (e || b) && (d && not a)) ≡ ((not e && d) && not (b || a))
    regroup true b d a = refl
    regroup false true true a = refl
    regroup false true false a = refl
    regroup false false d a = refl

values_append : (is js : List Item) → values (is ++ js) ≡ values is ++ values js
values_append [] js = refl
values_append (i ∷ is) js = ap (λ vs. i.value ∷ vs) (values_append is js)

-- whether all differ with one value more, by the ordinals
pub ordinals_more : (s : Sort) (is : List Item) (v : Item) → Each (IsValueOf s) is → IsValueOf s v →
    all_differ (values (is ++ v ∷ [])) ≡ (all_differ (values is) && not (list_any (λ n. nat_eq n (value_ordinal v.value)) (map (λ i. value_ordinal i.value) is)))
ordinals_more s is v h k =
    ap all_differ (values_append is (v ∷ [])) ∙ differ_more (values is) v.value ∙ ap (λ b. all_differ (values is) && not b) (any_same s is v h k)

-- ---- all of one sort

alike_at : (s : Sort) (ss : List Sort) (is : List Item) → Each IsOne (each_is s ss) → (k : ℕ) → EachPair IsValueOf (take k ss) is → Each (IsValueOf s) is
alike_at s ss [] same k h = tt
alike_at s [] (i ∷ is) same zero h = absurd h
alike_at s [] (i ∷ is) same (suc k) h = absurd h
alike_at s (t ∷ ss) (i ∷ is) same zero h = absurd h
alike_at s (t ∷ ss) (i ∷ is) same (suc k) h = (subst (λ u. IsValueOf u i) same.0 h.0, alike_at s ss is same.1 k h.1)

-- values of one sort
pub record AreAlike (is : List Item) : Type 0 where
  pub sort : Sort
  pub all : Each (IsValueOf sort) is

pub alike_values : (symbols : ℕ → Option Signature) (ix : List LinearExpression) (ss : List Sort) (r : SortRule) (k : ℕ) (is : List Item) →
    sort_rule symbols 2 kind.Alike ix ss ≡ Some r → Each IsOne r.alike → EachPair IsValueOf (take k ss) is → AreAlike is
alike_values symbols [] (s ∷ ss) r k is e same h =
    let q = if_some (nat_le 2 (length (s ∷ ss))) (gives Bool (each_is s ss) []) r e in
    record { sort = s; all = go is k h (subst (λ z. Each IsOne z.alike) (sym q.1) same) }
  where
    go : (is : List Item) (k : ℕ) → EachPair IsValueOf (take k (s ∷ ss)) is → Each IsOne (each_is s ss) → Each (IsValueOf s) is
    go [] k h same = tt
    go (i ∷ is) zero h same = absurd h
    go (i ∷ is) (suc k) h same = (h.0, alike_at s ss is same k h.1)
alike_values symbols [] [] r k is e same h = absurd (let never : ⊥ = cc in never)
alike_values symbols (x ∷ ix) ss r k is e same h = absurd (let never : ⊥ = cc in never)

pub alike_indices : (symbols : ℕ → Option Signature) (ix : List LinearExpression) (ss : List Sort) (r : SortRule) → sort_rule symbols 2 kind.Alike ix ss ≡ Some r → all_of (map number_in ix) ≡ Some []
alike_indices symbols [] ss r e = refl
alike_indices symbols (x ∷ ix) ss r e = absurd (let never : ⊥ = cc in never)
