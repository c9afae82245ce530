-- A well-sorted term with a value has one of its sort.
use Rattle.std.proofs.Common.{◌≡◌, ℕ, zero, suc, ◌^◌, ◌<◌, ◌≤◌, Bool as Test, true, false, List, [], ◌∷◌, map, length, Option, Some, None, refl, sym, ap, ◌∙◌, subst, arith, inl, inr}
use Rattle.std.proofs.lemmas.Int.{ints}
use Rattle.std.specs.Prelude.{ℤ, pos, negsuc, ◌+ℤ◌, ◌-ℤ◌, ◌*ℤ◌, ◌≤ℤ◌, ◌⊎◌, ◌≢◌, if◌then◌else◌, nat_le, Any}
use Rattle.std.specs.Option.{option_map, option_and_then}
use Rattle.rare_linear.specs.Linears.{Part, LinearExpression, linear_value, linear, number, add, scaled_parts}
use Rattle.rare_linear.specs.Entailment.{IsEntailed, IsPlainlyMet, minus}
use Rattle.rare_linear.specs.declared.constraint.Constraint.{Constraint}
use Rattle.rare_sort.specs.Each.{Each, EachPair}
use Rattle.rare_sort.specs.Families.{family}
use Rattle.rare_sort.specs.SortRules.{SortRule, sort_rule, basic_sort, width, array_parts, less_one, width_needs, gives, each_is, counts, outcome_sort, total_from, total, no_names, number_in, product, slice_width, slice_needs}
use Rattle.rare_sort.specs.Sorting.{IsSorted, all_of}
use Rattle.rare_sort.specs.declared.family.Family.{Family}
use Rattle.rare_sort.specs.declared.family.Family.TheVariants as kind
use Rattle.rare_sort.specs.declared.family.Basic.{Basic}
use Rattle.rare_sort.specs.declared.family.Basic.TheVariants as basic
use Rattle.rare_sort.specs.declared.family.Outcome.{Outcome}
use Rattle.rare_sort.specs.declared.family.Outcome.TheVariants as outcome
use Rattle.rare_sort.specs.declared.head.Head.{Head}
use Rattle.rare_sort.specs.declared.head.Head.TheVariants as head
use Rattle.rare_sort.specs.declared.sort.Signature.{Signature}
use Rattle.rare_sort.specs.declared.sort.Sort.{Sort, Bool, Int, BitVec, Array', Named}
use Rattle.rare_sort.specs.declared.tree.Tree.{Tree, Tree-F, roll-Tree, ind-Tree}
use Rattle.rare_sort.proofs.Options.{if_some, map_some, then_some}
use Rattle.rare_sort.proofs.SortLawLemmas.{node_law}
use Rattle.rare_meaning.specs.Values.{Value, Truth, Whole, Bits, Element, Array, Truths, Wholes, BitVectors, Fits}
use Rattle.rare_meaning.specs.ClosedSorts.{to_nat}
use Rattle.rare_meaning.specs.Settings.{Item, Setting, item, group_of, sort_in}
use Rattle.rare_meaning.specs.Splicing.{arg}
use Rattle.rare_meaning.specs.Operators.{truth, whole, bits}
use Rattle.rare_meaning.specs.Meaning.{applied}
use Rattle.rare_meaning.specs.Interpretations.{IsInterpreted}
use Rattle.rare_meaning.specs.Fitting.{IsOf}
use Rattle.rare_meaning.proofs.FitsLemmas.{IsTermItem, fits_head, value-less_one}
use Rattle.rare_eval.specs.Evaluation.{operator_item, is_open, has_value, evaluated, evaluation}
use Rattle.rare_eval.specs.inner.Sorted.{IsValueOf}
use Rattle.rare_eval.proofs.EvaluationLemmas.{evaluation-roll, numbers_are, alike, both, turned}

-- ---- expressions and sorts without names

abbrev pub NoName : LinearExpression → Type 0
NoName e = (z : ℤ) × (e ≡ number z)

abbrev pub IsClosed : Sort → Type 0
IsClosed Bool = Unit {0}
IsClosed Int = Unit {0}
IsClosed (BitVec w) = NoName w
IsClosed (Array' p k q e) = ⊥
IsClosed (Named k) = ⊥

pub value_closed : (s : Sort) (i : Item) → IsValueOf s i → IsClosed s
value_closed Bool i h = tt
value_closed Int i h = tt
value_closed (BitVec w) i h = (pos h.width, h.named)
value_closed (Array' p k q e) i h = h
value_closed (Named k) i h = h

width_closed : (s : Sort) (w : LinearExpression) → IsClosed s → width s ≡ Some w → NoName w
width_closed Bool w c e = cc
width_closed Int w c e = cc
width_closed (BitVec v) w c e = let q : v ≡ w = cc in subst NoName q c
width_closed (Array' p k q m) w c e = absurd c
width_closed (Named k) w c e = absurd c

no_array : {X : Type 0} (s : Sort) (p : Sort × Sort) → IsClosed s → array_parts s ≡ Some p → X
no_array Bool p c e = absurd (let never : ⊥ = cc in never)
no_array Int p c e = absurd (let never : ⊥ = cc in never)
no_array (BitVec v) p c e = absurd (let never : ⊥ = cc in never)
no_array (Array' x k q m) p c e = absurd c
no_array (Named k) p c e = absurd c

pub number_is : (e : LinearExpression) (z : ℤ) → number_in e ≡ Some z → e ≡ number z
number_is e z h = go e.parts refl h
  where
    go : (ps : List Part) → e.parts ≡ ps → (if no_names ps then (Some e.constant) else None) ≡ Some z → e ≡ number z
    go [] q h = let k : e.constant ≡ z = cc in λ i. linear (k i) (q i)
    go (p ∷ ps) q h = cc

pub all_numbers : (ix : List LinearExpression) (ns : List ℤ) → all_of (map number_in ix) ≡ Some ns → Each NoName ix
all_numbers [] ns h = tt
all_numbers (e ∷ ix) ns h = go (number_in e) refl h (all_numbers ix)
  where
    go : (o : Option ℤ) → number_in e ≡ o → all_of (o ∷ map number_in ix) ≡ Some ns → ((ms : List ℤ) → all_of (map number_in ix) ≡ Some ms → Each NoName ix) → Each NoName (e ∷ ix)
    go None q h ih = cc
    go (Some z) q h ih =
        let m = map_some (λ ms. z ∷ ms) (all_of (map number_in ix)) ns h in
        ((z, number_is e z q), ih m.0 m.1)

no_parts : (k : ℤ) → scaled_parts k [] ≡ []
no_parts (pos zero) = refl
no_parts (pos (suc n)) = refl
no_parts (negsuc n) = refl

-- ---- the rule of sorts of an application of values

abbrev IsPlainFamily : Family → Type 0
IsPlainFamily (kind.Symbol k) = ⊥
IsPlainFamily f = Unit {0}

pub record IsClosedRule (r : SortRule) : Type 0 where
  pub sort : IsClosed r.sort
  pub needs : Each NoName r.needs

basic_closed : (b : Basic) → IsClosed (basic_sort b)
basic_closed basic.Bool = tt
basic_closed basic.Int = tt

outcome_closed : (o : Outcome) (w : LinearExpression) → NoName w → IsClosed (outcome_sort o w)
outcome_closed outcome.SameWidth w c = c
outcome_closed outcome.OneBit w c = (pos 1, refl)
outcome_closed outcome.Bool w c = tt

total_closed : (z : ℤ) (ss : List Sort) (w : LinearExpression) → Each IsClosed ss → total_from (number z) ss ≡ Some w → NoName w
total_closed z [] w c e = let q : number z ≡ w = cc in (z, sym q)
total_closed z (s ∷ ss) w c e =
    let f = then_some (λ v. total_from (add (number z) v) ss) (width s) w e in
    let n = width_closed s f.0 c.0 f.1 in
    total_closed (z +ℤ n.0) ss w c.1 (subst (λ v. total_from (add (number z) v) ss ≡ Some w) n.1 f.2)

product_closed : (k m w : LinearExpression) → NoName k → NoName m → product k m ≡ Some w → NoName w
product_closed k m w (a, p) (b, q) e =
    let f : product (number a) (number b) ≡ Some w = subst (λ y. product (number a) y ≡ Some w) q (subst (λ x. product x m ≡ Some w) p e) in
    let g : linear (a *ℤ b) (scaled_parts a []) ≡ w = cc in
    (a *ℤ b, sym g ∙ ap (linear (a *ℤ b)) (no_parts a))

module _ (symbols : ℕ → Option Signature) where
  closed_rule : (f : Family) (ix : List LinearExpression) (ss : List Sort) (r : SortRule) → IsPlainFamily f → Each NoName ix → Each IsClosed ss → sort_rule symbols 2 f ix ss ≡ Some r → IsClosedRule r
  closed_rule (kind.Fixed c s t) [] ss r plain n cs e =
      let q = if_some (counts c 2 (length ss)) (gives (basic_sort t) (each_is (basic_sort s) ss) []) r e in
      subst IsClosedRule q.1 (record { sort = basic_closed t; needs = tt })
  closed_rule (kind.Fixed c s t) (x ∷ ix) ss r plain n cs e = absurd (let never : ⊥ = cc in never)
  closed_rule kind.Alike [] (s ∷ ss) r plain n cs e =
      let q = if_some (nat_le 2 (length (s ∷ ss))) (gives Bool (each_is s ss) []) r e in
      subst IsClosedRule q.1 (record { sort = tt; needs = tt })
  closed_rule kind.Alike [] [] r plain n cs e = absurd (let never : ⊥ = cc in never)
  closed_rule kind.Alike (x ∷ ix) ss r plain n cs e = absurd (let never : ⊥ = cc in never)
  closed_rule kind.Choice [] (c ∷ s ∷ t ∷ []) r plain n cs e =
      let q : gives s ((c, Bool) ∷ (t, s) ∷ []) [] ≡ r = cc in
      subst IsClosedRule q (record { sort = cs.1.0; needs = tt })
  closed_rule kind.Select [] (m ∷ k ∷ []) r plain n cs e =
      let q = map_some (λ p. gives p.1 ((k, p.0) ∷ []) []) (array_parts m) r e in no_array m q.0 cs.0 q.1
  closed_rule kind.Store [] (m ∷ k ∷ v ∷ []) r plain n cs e =
      let q = map_some (λ p. gives m ((k, p.0) ∷ (v, p.1) ∷ []) []) (array_parts m) r e in no_array m q.0 cs.0 q.1
  closed_rule (kind.BitVectors c o) [] (s ∷ ss) r plain n cs e = go (counts c 2 (length (s ∷ ss))) e
    where
      go : (t : Test) → (if t then (option_map (λ w. gives (outcome_sort o w) (each_is s ss) []) (width s)) else None) ≡ Some r → IsClosedRule r
      go true e =
          let q = map_some (λ w. gives (outcome_sort o w) (each_is s ss) []) (width s) r e in
          subst IsClosedRule q.2 (record { sort = outcome_closed o q.0 (width_closed s q.0 cs.0 q.1); needs = tt })
      go false e = absurd (let never : ⊥ = cc in never)
  closed_rule (kind.BitVectors c o) [] [] r plain n cs e = absurd (let never : ⊥ = cc in never)
  closed_rule (kind.BitVectors c o) (x ∷ ix) ss r plain n cs e = absurd (let never : ⊥ = cc in never)
  closed_rule kind.Concat [] ss r plain n cs e = go (nat_le 2 (length ss)) e
    where
      go : (t : Test) → (if t then (option_map (λ w. gives (BitVec w) [] []) (total ss)) else None) ≡ Some r → IsClosedRule r
      go true e =
          let q = map_some (λ w. gives (BitVec w) [] []) (total ss) r e in
          subst IsClosedRule q.2 (record { sort = total_closed (pos 0) ss q.0 cs q.1; needs = tt })
      go false e = absurd (let never : ⊥ = cc in never)
  closed_rule kind.Concat (x ∷ ix) ss r plain n cs e = absurd (let never : ⊥ = cc in never)
  closed_rule kind.Extract (j ∷ i ∷ []) (s ∷ []) r plain n cs e =
      let q = map_some (λ m. gives (BitVec (slice_width j i)) [] (slice_needs j i m)) (width s) r e in
      let m = width_closed s q.0 cs.0 q.1 in
      subst IsClosedRule q.2 (record {
        sort = subst (λ y. NoName (slice_width j y)) (sym n.1.0.1) (subst (λ x. NoName (slice_width x (number n.1.0.0))) (sym n.0.1) (_, refl));
        needs = (
          n.1.0,
          (
            subst (λ y. NoName (minus j y)) (sym n.1.0.1) (subst (λ x. NoName (minus x (number n.1.0.0))) (sym n.0.1) (_, refl)),
            (
              subst (λ y. NoName (minus (less_one q.0) y)) (sym n.0.1) (subst (λ x. NoName (minus (less_one x) (number n.0.0))) (sym m.1) (_, refl)),
              tt,
            ),
          ),
        );
      })
  closed_rule kind.Extend (k ∷ []) (s ∷ []) r plain n cs e =
      let q = map_some (λ m. gives (BitVec (add m k)) [] (k ∷ [])) (width s) r e in
      let m = width_closed s q.0 cs.0 q.1 in
      subst IsClosedRule q.2 (record {
        sort = subst (λ y. NoName (add q.0 y)) (sym n.0.1) (subst (λ x. NoName (add x (number n.0.0))) (sym m.1) (_, refl));
        needs = (n.0, tt);
      })
  closed_rule kind.Rotate (k ∷ []) (s ∷ []) r plain n cs e =
      let q = map_some (λ m. gives s [] (k ∷ [])) (width s) r e in
      subst IsClosedRule q.2 (record { sort = cs.0; needs = (n.0, tt) })
  closed_rule kind.Repeat (k ∷ []) (s ∷ []) r plain n cs e =
      let q = map_some (λ w. gives (BitVec w) [] (less_one k ∷ [])) (option_and_then (λ m. product k m) (width s)) r e in
      let f = then_some (λ m. product k m) (width s) q.0 q.1 in
      let m = width_closed s f.0 cs.0 f.1 in
      subst IsClosedRule q.2 (record {
        sort = product_closed k f.0 q.0 n.0 m f.2;
        needs = (subst (λ x. NoName (less_one x)) (sym n.0.1) (_, refl), tt);
      })
  closed_rule kind.Bits (w ∷ []) [] r plain n cs e =
      let q : gives (BitVec w) [] (less_one w ∷ []) ≡ r = cc in
      subst IsClosedRule q (record { sort = n.0; needs = (subst (λ x. NoName (less_one x)) (sym n.0.1) (_, refl), tt) })
  closed_rule kind.Literal (v ∷ w ∷ []) [] r plain n cs e =
      let q : gives (BitVec w) [] (less_one w ∷ []) ≡ r = cc in
      subst IsClosedRule q (record { sort = n.1.0; needs = (subst (λ x. NoName (less_one x)) (sym n.1.0.1) (_, refl), tt) })
  closed_rule (kind.Symbol k) ix ss r plain n cs e = absurd plain
  closed_rule f ix ss r plain n cs e = absurd (let never : ⊥ = cc in never)

-- ---- what is entailed of numbers

pub plus_nothing : (z : ℤ) → (z +ℤ pos 0) ≡ z
plus_nothing z = omega (arith, ints)

pub entailed_number : (lows : ℕ → ℤ) (have : List Constraint) (z : ℤ) → IsEntailed lows have (number z) → pos 0 ≤ℤ z
entailed_number lows have z h = go h.met
  where
    go : IsPlainlyMet lows (number z) ⊎ (((number z).parts ≢ []) × Any (λ c. IsPlainlyMet lows (minus (number z) c.floor)) have) → pos 0 ≤ℤ z
    go (inl plain) = let least = plain.least in let e = plus_nothing z in omega (arith, ints, least, e)
    go (inr by) = absurd (by.0 refl)

-- what holds at numbers
abbrev AtNumbers : (ℕ → ℤ) → LinearExpression → Type 0
AtNumbers at n = pos 0 ≤ℤ linear_value at n

pub number_holds : (lows at : ℕ → ℤ) (have : List Constraint) (e : LinearExpression) → NoName e → IsEntailed lows have e → pos 0 ≤ℤ linear_value at e
number_holds lows at have e n h =
    let z = entailed_number lows have n.0 (subst (IsEntailed lows have) n.1 h) in
    subst (λ x. pos 0 ≤ℤ linear_value at x) (sym n.1) (subst (λ x. pos 0 ≤ℤ x) (sym (plus_nothing n.0)) z)

needs_hold : (lows at : ℕ → ℤ) (have : List Constraint) (ns : List LinearExpression) → Each NoName ns → Each (IsEntailed lows have) ns → Each (AtNumbers at) ns
needs_hold lows at have [] n h = tt
needs_hold lows at have (e ∷ ns) n h =
    let z = entailed_number lows have n.0.0 (subst (IsEntailed lows have) n.0.1 h.0) in
    (subst (AtNumbers at) (sym n.0.1) (subst (λ x. pos 0 ≤ℤ x) (sym (plus_nothing n.0.0)) z), needs_hold lows at have ns n.1 h.1)

widths_closed : (s : Sort) → IsClosed s → Each NoName (width_needs s)
widths_closed Bool c = tt
widths_closed Int c = tt
widths_closed (BitVec w) c = (subst (λ x. NoName (less_one x)) (sym c.1) (_, refl), tt)
widths_closed (Array' p k q e) c = absurd c
widths_closed (Named k) c = absurd c

-- ---- values of a sort

truth_is : (i : Item) → IsOf Truths i → (b : Test) × (i ≡ truth b)
truth_is i h = go i.value refl h.fits
  where
    go : (v : Value) → i.value ≡ v → Fits v Truths → (b : Test) × (i ≡ truth b)
    go (Truth b) e f = (b, λ k. item (h.sorted k) (e k))
    go (Whole z) e f = absurd f
    go (Bits w n) e f = absurd f
    go (Element s n) e f = absurd f
    go (Array m) e f = absurd f

whole_is : (i : Item) → IsOf Wholes i → (z : ℤ) × (i ≡ whole z)
whole_is i h = go i.value refl h.fits
  where
    go : (v : Value) → i.value ≡ v → Fits v Wholes → (z : ℤ) × (i ≡ whole z)
    go (Truth b) e f = absurd f
    go (Whole z) e f = (z, λ k. item (h.sorted k) (e k))
    go (Bits w n) e f = absurd f
    go (Element s n) e f = absurd f
    go (Array m) e f = absurd f

bits_are : (w : ℕ) (i : Item) → IsOf (BitVectors w) i → (n : ℕ) × (n < 2 ^ w) × (i ≡ bits w n)
bits_are w i h = go i.value refl h.fits
  where
    go : (v : Value) → i.value ≡ v → Fits v (BitVectors w) → (n : ℕ) × (n < 2 ^ w) × (i ≡ bits w n)
    go (Truth b) e f = absurd f
    go (Whole z) e f = absurd f
    go (Bits v n) e f = (n, subst (λ u. n < 2 ^ u) f.0 (subst (λ u. n < 2 ^ u) (sym f.0) f.1), λ k. item (h.sorted k) ((e ∙ ap (λ u. Bits u n) f.0) k))
    go (Element s n) e f = absurd f
    go (Array m) e f = absurd f

some_width : (z : ℤ) → pos 0 ≤ℤ (z -ℤ pos 1) → (m : ℕ) × (z ≡ pos m) × (1 ≤ m)
some_width (pos zero) h = absurd (omega (arith, ints, h))
some_width (pos (suc m)) h = (suc m, refl, omega arith)
some_width (negsuc m) h = absurd (omega (arith, ints, h))

module _ (symbols : ℕ → Option Signature) (e : Setting) where
  of_value : (s : Sort) (i : Item) → IsOf (sort_in e s) i → IsClosed s → Each (AtNumbers e.number) (width_needs s) → IsValueOf s i
  of_value Bool i h c w = truth_is i h
  of_value Int i h c w = whole_is i h
  of_value (BitVec x) i h c w =
      let z = c.0 in
      let lv : linear_value e.number x ≡ z = ap (linear_value e.number) c.1 ∙ plus_nothing z in
      let less = value-less_one e.number x in
      let least = w.0 in
      let low : pos 0 ≤ℤ (z -ℤ pos 1) = omega (arith, ints, lv, less, least) in
      let m = some_width z low in
      let at : to_nat (linear_value e.number x) ≡ m.0 = ap (λ y. to_nat (linear_value e.number y)) c.1 ∙ ap to_nat (plus_nothing z ∙ m.1) in
      let b = bits_are m.0 i (subst (λ u. IsOf (BitVectors u) i) at h) in
      record { width = m.0; bits_of = b.0; named = c.1 ∙ ap number m.1; some = m.2; below = b.1; is = b.2 }
  of_value (Array' p k q y) i h c w = absurd c
  of_value (Named k) i h c w = absurd c

  term_item : (s : Sort) (i : Item) → IsValueOf s i → IsTermItem symbols e s i
  term_item Bool i h = record { of = subst (IsOf Truths) (sym h.1) (record { sorted = refl; fits = tt }); widths = tt }
  term_item Int i h = record { of = subst (IsOf Wholes) (sym h.1) (record { sorted = refl; fits = tt }); widths = tt }
  term_item (BitVec x) i h =
      let at : to_nat (linear_value e.number x) ≡ h.width = ap (λ y. to_nat (linear_value e.number y)) h.named ∙ ap to_nat (plus_nothing (pos h.width)) in
      record {
        of = subst (λ u. IsOf (BitVectors u) i) (sym at) (subst (IsOf (BitVectors h.width)) (sym h.is) (record { sorted = refl; fits = (refl, h.below) }));
        widths = (
          let lv : linear_value e.number x ≡ pos h.width = ap (linear_value e.number) h.named ∙ plus_nothing (pos h.width) in
              let less = value-less_one e.number x in
              let some = h.some in
              omega (arith, ints, lv, less, some),
          tt,
        );
      }
  term_item (Array' p k q y) i h = absurd h
  term_item (Named k) i h = absurd h

  term_items : (ss : List Sort) (is : List Item) → EachPair IsValueOf ss is → EachPair (IsTermItem symbols e) ss is
  term_items [] [] h = tt
  term_items [] (i ∷ is) h = absurd h
  term_items (s ∷ ss) [] h = absurd h
  term_items (s ∷ ss) (i ∷ is) h = (term_item s i h.0, term_items ss is h.1)

all_closed : (ss : List Sort) (is : List Item) → EachPair IsValueOf ss is → Each IsClosed ss
all_closed [] [] h = tt
all_closed [] (i ∷ is) h = absurd h
all_closed (s ∷ ss) [] h = absurd h
all_closed (s ∷ ss) (i ∷ is) h = (value_closed s i h.0, all_closed ss is h.1)

plain_head : (h : Head) (is : List Item) → is_open h is ≡ false → IsPlainFamily (family h)
plain_head (head.Free k) is o = cc
plain_head h is o = tt

applied_alike : (e : Setting) (h : Head) (ns : List ℤ) (is : List Item) → is_open h is ≡ false → applied e h ns (group_of Truths is) ≡ operator_item h ns is
applied_alike e (head.Free k) ns is c = cc
applied_alike e (head.Param k) ns is c = cc
applied_alike e head.Hole ns is c = cc
applied_alike e head.Select ns is c = cc
applied_alike e head.Store ns is c = cc
applied_alike e head.Div ns is c = ap (λ g. arg 0 g.items) (alike e head.Div ns is c)
applied_alike e head.Mod ns is c = ap (λ g. arg 0 g.items) (alike e head.Mod ns is c)
applied_alike e h ns is c = refl

module _ (symbols : ℕ → Option Signature) (lows : ℕ → ℤ) (have : List Constraint) (e : Setting)
    (known : (k : ℕ) (g : Signature) → symbols k ≡ Some g → IsInterpreted e k g) where
  abbrev Good : Tree → Sort → Type 0
  Good = IsSorted symbols lows have

  abbrev Claim : Tree → Type 0
  Claim t = (s : Sort) → Good t s → (i : Item) → evaluation t ≡ Some i → IsValueOf s i

  args_are : (ts : List ((t : Tree) × Claim t)) (ss : List Sort) (is : List Item) → EachPair Good (map (λ t. t.0) ts) ss → all_of (map evaluation (map (λ t. t.0) ts)) ≡ Some is → EachPair IsValueOf ss is
  args_are [] [] is g w = let q : [] ≡ is = cc in subst (EachPair IsValueOf []) q tt
  args_are [] (s ∷ ss) is g w = absurd g
  args_are (t ∷ ts) [] is g w = absurd g
  args_are (t ∷ ts) (s ∷ ss) is g w = go (evaluation t.0) refl w (args_are ts ss)
    where
      go : (o : Option Item) → evaluation t.0 ≡ o → all_of (o ∷ map evaluation (map (λ t. t.0) ts)) ≡ Some is →
          ((js : List Item) → EachPair Good (map (λ t. t.0) ts) ss → all_of (map evaluation (map (λ t. t.0) ts)) ≡ Some js → EachPair IsValueOf ss js) → EachPair IsValueOf (s ∷ ss) is
      go None h w ih = absurd (let never : ⊥ = cc in never)
      go (Some i) h w ih =
          let m = map_some (λ js. i ∷ js) (all_of (map evaluation (map (λ t. t.0) ts))) is w in
          subst (EachPair IsValueOf (s ∷ ss)) m.2 (t.1 s g.0 i h, ih m.0 g.1 m.1)

  at_node : (x : Tree-F Tree) → ((ss : List Sort) (is : List Item) → EachPair Good x.args ss → all_of (map evaluation x.args) ≡ Some is → EachPair IsValueOf ss is) → Claim (roll-Tree x)
  at_node x args s g i w = go (all_of (map number_in x.indices)) (all_of (map evaluation x.args)) refl refl (sym (evaluation-roll x) ∙ w)
    where
      go : (ns : Option (List ℤ)) (is : Option (List Item)) → all_of (map number_in x.indices) ≡ ns → all_of (map evaluation x.args) ≡ is → evaluated x.head ns is ≡ Some i → IsValueOf s i
      go None is a b w = absurd (let never : ⊥ = cc in never)
      go (Some ns) None a b w = absurd (let never : ⊥ = cc in never)
      go (Some ns) (Some is) a b w =
          let f = if_some (has_value x.head ns is) (operator_item x.head ns is) i w in
          let o = turned _ (both _ _ f.0).0 in
          let only = node_law.only symbols lows have x.head x.indices x.args s g in
          let ss = only.0 in
          let r = only.2 in
          let values = args ss is only.1 b in
          let rule = closed_rule symbols (family x.head) x.indices ss r.rule (plain_head x.head is o) (all_numbers x.indices ns a) (all_closed ss is values) r.found in
          let widths = needs_hold lows e.number have (width_needs r.rule.sort) (widths_closed r.rule.sort rule.sort) r.widths in
          let fit = fits_head symbols e known x.head x.indices ss is r.rule (term_items symbols e ss is values) r.found r.same (needs_hold lows e.number have r.rule.needs rule.needs r.needs) widths in
          let same : applied e x.head (map (linear_value e.number) x.indices) (group_of Truths is) ≡ i =
          ap (λ ms. applied e x.head ms (group_of Truths is)) (numbers_are e.number x.indices ns a) ∙ applied_alike e x.head ns is o ∙ f.1 in
          subst (λ z. IsValueOf z i) r.sort (of_value symbols e r.rule.sort i (subst (IsOf (sort_in e r.rule.sort)) same fit) rule.sort widths)

  pub has_its_sort : (t : Tree) → Claim t
  has_its_sort = ind-Tree Claim (λ x y is. at_node x (subst (λ z. (ss : List Sort) (is : List Item) → EachPair Good z.args ss → all_of (map evaluation z.args) ≡ Some is → EachPair IsValueOf ss is) is (args_are y.args)))
