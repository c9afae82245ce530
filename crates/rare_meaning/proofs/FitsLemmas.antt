-- The value of an application is of its sort, where those of the arguments are of theirs.
use Rattle.std.proofs.Common.{◌≡◌, ℕ, zero, suc, ◌+◌, ◌-◌, ◌*◌, ◌^◌, ◌%◌, ◌<◌, ◌≤◌, Bool as Test, true, false, List, [], ◌∷◌, map, length, refl, sym, ap, ◌∙◌, subst, arith}
use Rattle.std.proofs.lemmas.Int.{ints}
use Rattle.std.proofs.lemmas.Bool.{eqb-true, leb-true}
use Rattle.std.proofs.lemmas.Nat.{mod_below, pow_pos}
use Rattle.std.proofs.Math.Nat.{pow-le-pow_right}
use Rattle.std.proofs.Math.IntN.{pos-*ℤ-pos, *ℤ_comm, +ℤ_idr}
use Rattle.std.specs.Prelude.{ℤ, pos, negsuc, ◌+ℤ◌, ◌-ℤ◌, ◌*ℤ◌, ◌≤ℤ◌, nat_le, nat_eq, zip, Option, Some, None, if◌then◌else◌}
use Rattle.std.specs.Option.{option_map, option_and_then}
use Rattle.rare_linear.specs.Linears.{Part, LinearExpression, linear_value, linear, number, add, scale}
use Rattle.rare_linear.specs.Entailment.{minus}
use Rattle.rare_linear.proofs.Products.{minus_one}
use Rattle.rare_linear.proofs.LinearLemmas.{value-add, value-scale}
use Rattle.rare_bits.specs.Bits.{modulo, extract, repeat, rotate_left, rotate_right, sign_extend, bvnot, bvneg, bvadd, bvmul, bvand, bvor, bvxor, bvsub, bvudiv, bvurem, bvsdiv, bvsrem, bvsmod, bvshl, bvlshr, bvashr, bvnand, bvnor, bvxnor, bvcomp}
use Rattle.rare_bits.proofs.BitsLemmas.{bvnot-below, bitwise-below}
use Rattle.rare_bits.proofs.BelowLemmas.{arithmetic-below, division-below, shifts-below, complements-below, sign_extend-below}
use Rattle.rare_bits.proofs.PartsLemmas.{extract-below, repeat-below, rotate_left-below, rotate_right-below}
use Rattle.rare_sort.specs.Each.{Each, EachPair}
use Rattle.rare_sort.specs.Families.{family}
use Rattle.rare_sort.specs.SortRules.{basic_sort, boxed, width, array_parts, less_one, width_needs, SortRule, gives, each_is, counts, outcome_sort, total_from, total, product, no_names, is_number, slice_width, slice_needs, sort_rule}
use Rattle.rare_sort.specs.Sorting.{IsOne}
use Rattle.rare_sort.specs.declared.family.Count.{Count}
use Rattle.rare_sort.specs.declared.family.Count.TheVariants as count
use Rattle.rare_sort.specs.declared.family.Basic.{Basic}
use Rattle.rare_sort.specs.declared.family.Basic.TheVariants as basic
use Rattle.rare_sort.specs.declared.family.Outcome.{Outcome}
use Rattle.rare_sort.specs.declared.family.Outcome.TheVariants as outcome
use Rattle.rare_sort.specs.declared.family.Family.TheVariants as kind
use Rattle.rare_sort.specs.declared.head.Head.{Head}
use Rattle.rare_sort.specs.declared.head.Head.TheVariants as head
use Rattle.rare_sort.specs.declared.sort.Signature.{Signature}
use Rattle.rare_sort.specs.declared.sort.Sort.{Sort, Bool, Int, BitVec, Array', Named, Row_of-Sort, end_of-Sort, more_of-Sort}
use Rattle.rare_sort.proofs.Options.{if_some, map_some, then_some}
use Rattle.rare_meaning.specs.Values.{Value, Truth, Whole, ClosedSort, Truths, Wholes, BitVectors, Elements, Arrays, Fits, bits_number, width_of, truth_of, entry_sort}
use Rattle.rare_meaning.specs.ClosedSorts.{to_nat, closed_part}
use Rattle.rare_meaning.specs.Settings.{Item, Setting, item, group_of, sort_in, sorts_in}
use Rattle.rare_meaning.specs.Splicing.{values, val, from_left, gathered}
use Rattle.rare_meaning.specs.Operators.{index, bits, truth, whole, and_value, or_value, implies_value, add_value, mul_value, on_all}
use Rattle.rare_meaning.specs.Meaning.{applied}
use Rattle.rare_meaning.specs.Interpretations.{IsInterpreted}
use Rattle.rare_meaning.specs.Fitting.{IsOf}
use Rattle.rare_meaning.proofs.ArrayFits.{read_fits, write_fits}
use Rattle.rare_meaning.proofs.ItemFits.{Stays, item_number, item_width, bits_fit, values_fit, gathered_fits, from_left_fits, from_right_fits, on_all_fits, on_two_fits, width_sum, concat_fits}

-- ---- numbers

modulo_below : (z : ℤ) (n : ℕ) → 0 < n → modulo z n < n
modulo_below (pos a) n some = mod_below a n some
modulo_below (negsuc a) n some = omega arith

pub natural : (z : ℤ) → pos 0 ≤ℤ z → z ≡ pos (to_nat z)
natural (pos n) h = refl
natural (negsuc n) h = absurd (omega (arith, ints))

pub value-minus : (at : ℕ → ℤ) (a b : LinearExpression) → linear_value at (minus a b) ≡ linear_value at a -ℤ linear_value at b
value-minus at a b =
    omega (arith, ints, value-add at a (scale (negsuc 0) b), value-scale at (negsuc 0) b, minus_one (linear_value at b))

pub value-less_one : (at : ℕ → ℤ) (a : LinearExpression) → linear_value at (less_one a) ≡ linear_value at a -ℤ pos 1
value-less_one at a = value-minus at a (number (pos 1))

big_from : (at : ℕ → ℤ) (w : LinearExpression) → pos 0 ≤ℤ linear_value at (less_one w) → 1 ≤ to_nat (linear_value at w)
big_from at w h = go (linear_value at w) (subst (λ z. pos 0 ≤ℤ z) (value-less_one at w) h)
  where
    go : (z : ℤ) → pos 0 ≤ℤ (z -ℤ pos 1) → 1 ≤ to_nat z
    go (pos zero) h = absurd (omega (arith, ints))
    go (pos (suc n)) h = omega arith
    go (negsuc n) h = absurd (omega (arith, ints))

each_alike : (S : Sort) (ss : List Sort) → Each IsOne (each_is S ss) → Each (λ s. s ≡ S) ss
each_alike S [] h = tt
each_alike S (s ∷ ss) h = (h.0, each_alike S ss h.1)

-- ---- counts

two_of : {X : Type 0} (is : List X) → nat_eq (length is) 2 ≡ true → (x : X) × (y : X) × (is ≡ x ∷ y ∷ [])
two_of [] h = cc
two_of (x ∷ []) h = cc
two_of (x ∷ y ∷ []) h = (x, y, refl)
two_of (x ∷ y ∷ z ∷ is) h = absurd (omega (arith, eqb-true (length (x ∷ y ∷ z ∷ is)) 2 h))

one_of : {X : Type 0} (is : List X) → nat_eq (length is) 1 ≡ true → (x : X) × (is ≡ x ∷ [])
one_of [] h = cc
one_of (x ∷ []) h = (x, refl)
one_of (x ∷ y ∷ is) h = absurd (omega (arith, eqb-true (length (x ∷ y ∷ is)) 1 h))

some_of : {X : Type 0} (is : List X) → nat_le 2 (length is) ≡ true → 1 ≤ length is
some_of is h = omega (arith, leb-true 2 (length is) h)

values_some : (is : List Item) → 1 ≤ length is → 1 ≤ length (values is)
values_some [] h = h
values_some (i ∷ is) h = omega arith

one_bit : (t : Test) → (if t then 1 else 0) < 2 ^ 1
one_bit true = omega arith
one_bit false = omega arith

wider : (m k a : ℕ) → a < 2 ^ m → a < 2 ^ (m + k)
wider m k a h =
    let more : 2 ^ m ≤ 2 ^ (m + k) = pow-le-pow_right (omega arith) (omega arith) in
    omega (arith, more)

module _ (symbols : ℕ → Option Signature) (e : Setting) where
  abbrev Holds : LinearExpression → Type 0
  Holds n = pos 0 ≤ℤ linear_value e.number n

  -- an item of a term's sort, whose widths are at least 1
  pub record IsTermItem (s : Sort) (i : Item) : Type 0 where
    pub of : IsOf (sort_in e s) i
    pub widths : Each Holds (width_needs s)

  -- the value of an application with this head is of its sort
  abbrev pub IsFitting : Head → Type 0
  IsFitting h =
      (ix : List LinearExpression) (ss : List Sort) (is : List Item) (r : SortRule) → EachPair IsTermItem ss is → sort_rule symbols 2 (family h) ix ss ≡ Some r →
      Each IsOne r.alike → Each Holds r.needs → Each Holds (width_needs r.sort) → IsOf (sort_in e r.sort) (applied e h (map (linear_value e.number) ix) (group_of Truths is))

  same_length : (ss : List Sort) (is : List Item) → EachPair IsTermItem ss is → length ss ≡ length is
  same_length [] [] h = refl
  same_length [] (i ∷ is) h = absurd h
  same_length (s ∷ ss) [] h = absurd h
  same_length (s ∷ ss) (i ∷ is) h = ap suc (same_length ss is h.1)

  alike_items : (S : Sort) (ss : List Sort) (is : List Item) → EachPair IsTermItem ss is → Each (λ s. s ≡ S) ss → Each (IsOf (sort_in e S)) is
  alike_items S [] [] h k = tt
  alike_items S [] (i ∷ is) h k = absurd h
  alike_items S (s ∷ ss) [] h k = absurd h
  alike_items S (s ∷ ss) (i ∷ is) h k = (subst (λ z. IsOf (sort_in e z) i) k.0 h.0.of, alike_items S ss is h.1 k.1)

  -- ---- arguments of one sort that is told

  fixed_head : (h : Head) (c : Count) (b t : Basic) → family h ≡ kind.Fixed c b t →
      ((is : List Item) → counts c 2 (length is) ≡ true → Each (IsOf (sort_in e (basic_sort b))) is → IsOf (sort_in e (basic_sort t)) (applied e h [] (group_of Truths is))) → IsFitting h
  fixed_head h c b t fam fits ix ss is r items rule same needs widths = go ix (subst (λ f. sort_rule symbols 2 f ix ss ≡ Some r) fam rule)
    where
      go : (ix : List LinearExpression) → sort_rule symbols 2 (kind.Fixed c b t) ix ss ≡ Some r → IsOf (sort_in e r.sort) (applied e h (map (linear_value e.number) ix) (group_of Truths is))
      go (x ∷ ix) q = absurd (let never : ⊥ = cc in never)
      go [] q =
          let f = if_some (counts c 2 (length ss)) (gives (basic_sort t) (each_is (basic_sort b) ss) []) r q in
          let all = alike_items (basic_sort b) ss is items (each_alike (basic_sort b) ss (subst (λ z. Each IsOne z.alike) (sym f.1) same)) in
          subst (λ z. IsOf (sort_in e z.sort) (applied e h [] (group_of Truths is))) f.1
          (fits is (ap (counts c 2) (sym (same_length ss is items)) ∙ f.0) all)

  -- ---- words of one width

  abbrev outcome_at : Outcome → ℕ → ClosedSort
  outcome_at outcome.SameWidth n = BitVectors n
  outcome_at outcome.OneBit n = BitVectors 1
  outcome_at outcome.Bool n = Truths

  outcome_is : (o : Outcome) (w : LinearExpression) → outcome_at o (to_nat (linear_value e.number w)) ≡ sort_in e (outcome_sort o w)
  outcome_is outcome.SameWidth w = refl
  outcome_is outcome.OneBit w = refl
  outcome_is outcome.Bool w = refl

  bit_vector_of : (s : Sort) (w : LinearExpression) → width s ≡ Some w → s ≡ BitVec w
  bit_vector_of Bool w q = cc
  bit_vector_of Int w q = cc
  bit_vector_of (BitVec v) w q = let same : v ≡ w = cc in ap (λ z. BitVec z) same
  bit_vector_of (Array' p k y m) w q = cc
  bit_vector_of (Named k) w q = cc

  -- an item of a sort with a width is a word, of a width that is at least 1
  pub record IsBitVectorItem (w : LinearExpression) (i : Item) : Type 0 where
    pub of : IsOf (BitVectors (to_nat (linear_value e.number w))) i
    pub big : 1 ≤ to_nat (linear_value e.number w)

  pub bit_vector_item : (s : Sort) (w : LinearExpression) (i : Item) → IsTermItem s i → width s ≡ Some w → IsBitVectorItem w i
  bit_vector_item s w i h q =
      let at_bit_vector = subst (λ z. IsTermItem z i) (bit_vector_of s w q) h in
      record { of = at_bit_vector.of; big = big_from e.number w at_bit_vector.widths.0 }

  bit_vectors_head : (h : Head) (c : Count) (o : Outcome) → family h ≡ kind.BitVectors c o →
      ((n : ℕ) (is : List Item) → 1 ≤ n → counts c 2 (length is) ≡ true → Each (IsOf (BitVectors n)) is → IsOf (outcome_at o n) (applied e h [] (group_of Truths is))) → IsFitting h
  bit_vectors_head h c o fam fits ix ss is r items rule same needs widths = go ix ss is items (subst (λ f. sort_rule symbols 2 f ix ss ≡ Some r) fam rule)
    where
      by : (s : Sort) (ss : List Sort) (i : Item) (is : List Item) → EachPair IsTermItem (s ∷ ss) (i ∷ is) → (t : Test) → counts c 2 (length (s ∷ ss)) ≡ t →
          (if t then (option_map (λ w. gives (outcome_sort o w) (each_is s ss) []) (width s)) else None) ≡ Some r → IsOf (sort_in e r.sort) (applied e h [] (group_of Truths (i ∷ is)))
      by s ss i is items false k q = absurd (let never : ⊥ = cc in never)
      by s ss i is items true k q =
          let f = map_some (λ w. gives (outcome_sort o w) (each_is s ss) []) (width s) r q in
          let first = bit_vector_item s f.0 i items.0 f.1 in
          let rest = each_alike s ss (subst (λ z. Each IsOne z.alike) (sym f.2) same) in
          let all = alike_items s (s ∷ ss) (i ∷ is) items (refl, rest) in
          let n = to_nat (linear_value e.number f.0) in
          let words = subst (λ z. Each (IsOf (sort_in e z)) (i ∷ is)) (bit_vector_of s f.0 f.1) all in
          subst (λ z. IsOf (sort_in e z.sort) (applied e h [] (group_of Truths (i ∷ is)))) f.2
          (subst (λ z. IsOf z (applied e h [] (group_of Truths (i ∷ is)))) (outcome_is o f.0)
          (fits n (i ∷ is) first.big (ap (counts c 2) (sym (same_length (s ∷ ss) (i ∷ is) items)) ∙ k) words))

      go : (ix : List LinearExpression) (ss : List Sort) (is : List Item) → EachPair IsTermItem ss is → sort_rule symbols 2 (kind.BitVectors c o) ix ss ≡ Some r →
          IsOf (sort_in e r.sort) (applied e h (map (linear_value e.number) ix) (group_of Truths is))
      go [] (s ∷ ss) (i ∷ is) items q = by s ss i is items (counts c 2 (length (s ∷ ss))) refl q
      go [] (s ∷ ss) [] items q = absurd items
      go [] [] is items q = absurd (let never : ⊥ = cc in never)
      go (x ∷ ix) ss is items q = absurd (let never : ⊥ = cc in never)

  -- operators on one word, on two, and on a list
  on_one_head : (h : Head) (f : ℕ → ℕ → ℕ) → family h ≡ kind.BitVectors (count.Exactly 1) outcome.SameWidth → ((n a : ℕ) → f n a < 2 ^ n) →
      ((x : Item) → applied e h [] (group_of Truths (x ∷ [])) ≡ bits (width_of x.sort) (f (width_of x.sort) (bits_number x.value))) → IsFitting h
  on_one_head h f fam stays is_so = bit_vectors_head h (count.Exactly 1) outcome.SameWidth fam (λ n is big count all.
      let q = one_of is count in
      let x = q.0 in
      let here : IsOf (BitVectors n) x = (subst (Each (IsOf (BitVectors n))) q.1 all).0 in
      subst (λ js. IsOf (BitVectors n) (applied e h [] (group_of Truths js))) (sym q.1)
      (subst (IsOf (BitVectors n)) (sym (is_so x ∙ ap (λ m. bits m (f m (bits_number x.value))) (item_width n x here))) (bits_fit n (f n (bits_number x.value)) (stays n (bits_number x.value)))))

  on_two_head : (h : Head) (f : ℕ → ℕ → ℕ → ℕ) → family h ≡ kind.BitVectors (count.Exactly 2) outcome.SameWidth → Stays f →
      ((x y : Item) → applied e h [] (group_of Truths (x ∷ y ∷ [])) ≡ bits (width_of x.sort) (f (width_of x.sort) (bits_number x.value) (bits_number y.value))) → IsFitting h
  on_two_head h f fam stays is_so = bit_vectors_head h (count.Exactly 2) outcome.SameWidth fam (λ n is big count all.
      let q = two_of is count in
      let both = subst (Each (IsOf (BitVectors n))) q.2 all in
      subst (λ js. IsOf (BitVectors n) (applied e h [] (group_of Truths js))) (sym q.2)
      (subst (IsOf (BitVectors n)) (sym (is_so q.0 q.1)) (on_two_fits n f stays q.0 q.1 both.0 both.1.0)))

  on_all_head : (h : Head) (f : ℕ → ℕ → ℕ → ℕ) (none : ℕ → ℕ) → family h ≡ kind.BitVectors count.Several outcome.SameWidth → Stays f → ((n : ℕ) → 1 ≤ n → none n < 2 ^ n) →
      ((is : List Item) → applied e h [] (group_of Truths is) ≡ on_all f none (group_of Truths is)) → IsFitting h
  on_all_head h f none fam stays none_in is_so = bit_vectors_head h count.Several outcome.SameWidth fam (λ n is big count all.
      subst (IsOf (BitVectors n)) (sym (is_so is)) (on_all_fits n f none stays (none_in n big) Truths is (some_of is count) all))

  test_head : (h : Head) → family h ≡ kind.BitVectors (count.Exactly 2) outcome.Bool → ((is : List Item) → IsOf Truths (applied e h [] (group_of Truths is))) → IsFitting h
  test_head h fam fits = bit_vectors_head h (count.Exactly 2) outcome.Bool fam (λ n is big count all. fits is)

  -- ---- arguments of any one sort

  alike_head : (h : Head) → family h ≡ kind.Alike → ((is : List Item) → IsOf Truths (applied e h [] (group_of Truths is))) → IsFitting h
  alike_head h fam fits ix ss is r items rule same needs widths = go ix ss (subst (λ f. sort_rule symbols 2 f ix ss ≡ Some r) fam rule)
    where
      go : (ix : List LinearExpression) (ss : List Sort) → sort_rule symbols 2 kind.Alike ix ss ≡ Some r → IsOf (sort_in e r.sort) (applied e h (map (linear_value e.number) ix) (group_of Truths is))
      go [] (s ∷ ss) q =
          let f = if_some (nat_le 2 (length (s ∷ ss))) (gives Bool (each_is s ss) []) r q in
          subst (λ z. IsOf (sort_in e z.sort) (applied e h [] (group_of Truths is))) f.1 (fits is)
      go [] [] q = absurd (let never : ⊥ = cc in never)
      go (x ∷ ix) ss q = absurd (let never : ⊥ = cc in never)

  truth_fits : (b : Test) → IsOf Truths (truth b)
  truth_fits b = record { sorted = refl; fits = tt }

  whole_fits : (z : ℤ) → IsOf Wholes (whole z)
  whole_fits z = record { sorted = refl; fits = tt }

  either_of : (s : ClosedSort) (t : Test) (i j : Item) → IsOf s i → IsOf s j → IsOf s (if t then i else j)
  either_of s true i j h k = h
  either_of s false i j h k = k

  ite_fits : IsFitting head.Ite
  ite_fits [] (c ∷ s ∷ t ∷ []) (i ∷ j ∷ k ∷ []) r items rule same needs widths =
      let q : gives s ((c, Bool) ∷ (t, s) ∷ []) [] ≡ r = cc in
      let one : t ≡ s = (subst (λ z. Each IsOne z.alike) (sym q) same).1.0 in
      subst (λ z. IsOf (sort_in e z.sort) (applied e head.Ite [] (group_of Truths (i ∷ j ∷ k ∷ [])))) q
      (either_of (sort_in e s) (truth_of i.value) j k items.1.0.of (subst (λ z. IsOf (sort_in e z) k) one items.1.1.0.of))
  ite_fits [] (c ∷ s ∷ t ∷ []) [] r items rule same needs widths = absurd items
  ite_fits [] (c ∷ s ∷ t ∷ []) (i ∷ []) r items rule same needs widths = absurd items.1
  ite_fits [] (c ∷ s ∷ t ∷ []) (i ∷ j ∷ []) r items rule same needs widths = absurd items.1.1
  ite_fits [] (c ∷ s ∷ t ∷ []) (i ∷ j ∷ k ∷ l ∷ is) r items rule same needs widths = absurd items.1.1.1
  ite_fits ix ss is r items rule same needs widths = absurd (let never : ⊥ = cc in never)

  -- ---- arrays

  boxed_closed : {n : _} (k : Row_of-Sort n) → closed_part e.number Elements k ≡ sort_in e (boxed k)
  boxed_closed end_of-Sort = refl
  boxed_closed (more_of-Sort s rest) = refl

  array_closed : (s : Sort) (p : Sort × Sort) → array_parts s ≡ Some p → sort_in e s ≡ Arrays (sort_in e p.0) (sort_in e p.1)
  array_closed Bool p q = cc
  array_closed Int p q = cc
  array_closed (BitVec w) p q = cc
  array_closed (Array' x k y m) p q =
      let same : (boxed k, boxed m) ≡ p = cc in
      (λ i. Arrays (boxed_closed k i) (boxed_closed m i)) ∙ ap (λ (z : Sort × Sort). Arrays (sort_in e z.0) (sort_in e z.1)) same
  array_closed (Named k) p q = cc

  select_fits : IsFitting head.Select
  select_fits [] (m ∷ k ∷ []) (i ∷ j ∷ []) r items rule same needs widths =
      let q = map_some (λ p. gives p.1 ((k, p.0) ∷ []) []) (array_parts m) r rule in
      let p = q.0 in
      let whole : IsOf (Arrays (sort_in e p.0) (sort_in e p.1)) i = subst (λ z. IsOf z i) (array_closed m p q.1) items.0.of in
      subst (λ z. IsOf (sort_in e z.sort) (applied e head.Select [] (group_of Truths (i ∷ j ∷ [])))) q.2
      (rw (ap entry_sort whole.sorted) (record { sorted = refl; fits = read_fits (sort_in e p.0) (sort_in e p.1) i.value j.value whole.fits }))
  select_fits [] (m ∷ k ∷ []) [] r items rule same needs widths = absurd items
  select_fits [] (m ∷ k ∷ []) (i ∷ []) r items rule same needs widths = absurd items.1
  select_fits [] (m ∷ k ∷ []) (i ∷ j ∷ l ∷ is) r items rule same needs widths = absurd items.1.1
  select_fits ix ss is r items rule same needs widths = absurd (let never : ⊥ = cc in never)

  store_fits : IsFitting head.Store
  store_fits [] (m ∷ k ∷ v ∷ []) (i ∷ j ∷ l ∷ []) r items rule same needs widths =
      let q = map_some (λ p. gives m ((k, p.0) ∷ (v, p.1) ∷ []) []) (array_parts m) r rule in
      let p = q.0 in
      let whole : IsOf (Arrays (sort_in e p.0) (sort_in e p.1)) i = subst (λ z. IsOf z i) (array_closed m p q.1) items.0.of in
      let ones = subst (λ z. Each IsOne z.alike) (sym q.2) same in
      let key = subst (λ z. IsOf (sort_in e z) j) ones.0 items.1.0.of in
      let entry = subst (λ z. IsOf (sort_in e z) l) ones.1.0 items.1.1.0.of in
      subst (λ z. IsOf (sort_in e z.sort) (applied e head.Store [] (group_of Truths (i ∷ j ∷ l ∷ [])))) q.2
      (subst (λ z. IsOf z (applied e head.Store [] (group_of Truths (i ∷ j ∷ l ∷ [])))) (sym (array_closed m p q.1))
      (rw whole.sorted (record { sorted = refl; fits = write_fits (sort_in e p.0) (sort_in e p.1) i.value j.value l.value whole.fits key.fits entry.fits })))
  store_fits [] (m ∷ k ∷ v ∷ []) [] r items rule same needs widths = absurd items
  store_fits [] (m ∷ k ∷ v ∷ []) (i ∷ []) r items rule same needs widths = absurd items.1
  store_fits [] (m ∷ k ∷ v ∷ []) (i ∷ j ∷ []) r items rule same needs widths = absurd items.1.1
  store_fits [] (m ∷ k ∷ v ∷ []) (i ∷ j ∷ l ∷ n ∷ is) r items rule same needs widths = absurd items.1.1.1
  store_fits ix ss is r items rule same needs widths = absurd (let never : ⊥ = cc in never)

  -- ---- words whose widths change

  -- the widths of words, and their sum
  record AreWide (ss : List Sort) (is : List Item) (sum w : LinearExpression) : Type 0 where
    widths : List ℕ
    are : EachPair (λ n i. IsOf (BitVectors n) i) widths is
    total : linear_value e.number w ≡ linear_value e.number sum +ℤ pos (width_sum widths)

  pub positive : (w : LinearExpression) → 1 ≤ to_nat (linear_value e.number w) → linear_value e.number w ≡ pos (to_nat (linear_value e.number w))
  positive w h = go (linear_value e.number w) h
    where
      go : (z : ℤ) → 1 ≤ to_nat z → z ≡ pos (to_nat z)
      go (pos n) h = refl
      go (negsuc n) h = absurd (omega arith)

  are_wide : (ss : List Sort) (is : List Item) (sum w : LinearExpression) → EachPair IsTermItem ss is → total_from sum ss ≡ Some w → AreWide ss is sum w
  are_wide [] [] sum w h q =
      let same : sum ≡ w = cc in
      record { widths = []; are = tt; total = ap (linear_value e.number) (sym same) ∙ sym (+ℤ_idr (linear_value e.number sum)) }
  are_wide [] (i ∷ is) sum w h q = absurd h
  are_wide (s ∷ ss) [] sum w h q = absurd h
  are_wide (s ∷ ss) (i ∷ is) sum w h q =
      let f = then_some (λ v. total_from (add sum v) ss) (width s) w q in
      let first = bit_vector_item s f.0 i h.0 f.1 in
      let rest = are_wide ss is (add sum f.0) w h.1 f.2 in
      let n = to_nat (linear_value e.number f.0) in
      record {
        widths = n ∷ rest.widths;
        are = (first.of, rest.are);
        total = omega (arith, ints, rest.total, value-add e.number sum f.0, positive f.0 first.big);
      }

  concat_of : (ss : List Sort) (is : List Item) (w : LinearExpression) → 1 ≤ length is → AreWide ss is (number (pos 0)) w → IsOf (BitVectors (to_nat (linear_value e.number w))) (applied e head.Concat [] (group_of Truths is))
  concat_of ss is w some a =
      let wide : linear_value e.number w ≡ pos (width_sum a.widths) = omega (arith, ints, a.total) in
      subst (λ z. IsOf (BitVectors (to_nat z)) (applied e head.Concat [] (group_of Truths is))) (sym wide) (concat_fits a.widths is some a.are)

  concat_head : IsFitting head.Concat
  concat_head (x ∷ ix) ss is r items rule same needs widths = absurd (let never : ⊥ = cc in never)
  concat_head [] ss is r items rule same needs widths = go (nat_le 2 (length ss)) refl rule
    where
      go : (t : Test) → nat_le 2 (length ss) ≡ t → (if t then (option_map (λ w. gives (BitVec w) [] []) (total ss)) else None) ≡ Some r → IsOf (sort_in e r.sort) (applied e head.Concat [] (group_of Truths is))
      go false k q = absurd (let never : ⊥ = cc in never)
      go true k q =
          let f = map_some (λ w. gives (BitVec w) [] []) (total ss) r q in
          let some : 1 ≤ length is = some_of is (ap (nat_le 2) (sym (same_length ss is items)) ∙ k) in
          subst (λ z. IsOf (sort_in e z.sort) (applied e head.Concat [] (group_of Truths is))) f.2
          (concat_of ss is f.0 some (are_wide ss is (number (pos 0)) f.0 items f.1))

  -- the one item of a head with one argument
  one_item : (ss : List Sort) (is : List Item) (s : Sort) → ss ≡ s ∷ [] → EachPair IsTermItem ss is → (i : Item) × (is ≡ i ∷ []) × IsTermItem s i
  one_item ss [] s q h = let h' = subst (λ z. EachPair IsTermItem z []) q h in absurd h'
  one_item ss (i ∷ []) s q h = (i, refl, (subst (λ z. EachPair IsTermItem z (i ∷ [])) q h).0)
  one_item ss (i ∷ j ∷ is) s q h = absurd (subst (λ z. EachPair IsTermItem z (i ∷ j ∷ is)) q h).1

  slice_value : (j i : LinearExpression) → pos 0 ≤ℤ linear_value e.number i → pos 0 ≤ℤ linear_value e.number (minus j i) →
      to_nat (linear_value e.number (slice_width j i)) ≡ to_nat (linear_value e.number j) - to_nat (linear_value e.number i) + 1
  slice_value j i hi hj =
      let vj = linear_value e.number j in
      let vi = linear_value e.number i in
      let low : pos 0 ≤ℤ (vj -ℤ vi) = subst (λ z. pos 0 ≤ℤ z) (value-minus e.number j i) hj in
      let ni : vi ≡ pos (to_nat vi) = natural vi hi in
      let nj : vj ≡ pos (to_nat vj) = natural vj (omega (arith, ints, hi, low)) in
      let whole : linear_value e.number (slice_width j i) ≡ pos (to_nat vj - to_nat vi + 1) =
      omega (arith, ints, value-add e.number (minus j i) (number (pos 1)), value-minus e.number j i, ni, nj, low) in
      ap to_nat whole

  extract_fits : IsFitting head.Extract
  extract_fits (j ∷ i ∷ []) (s ∷ []) is r items rule same needs widths =
      let f = map_some (λ m. gives (BitVec (slice_width j i)) [] (slice_needs j i m)) (width s) r rule in
      let asked = subst (λ z. Each Holds z.needs) (sym f.2) needs in
      let a = to_nat (linear_value e.number j) in
      let b = to_nat (linear_value e.number i) in
      let x = val 0 is in
      subst (λ z. IsOf (sort_in e z.sort) (applied e head.Extract (linear_value e.number j ∷ linear_value e.number i ∷ []) (group_of Truths is))) f.2
      (subst (λ n. IsOf (BitVectors n) (bits (a - b + 1) (extract a b (bits_number x)))) (sym (slice_value j i asked.0 asked.1.0))
      (bits_fit (a - b + 1) (extract a b (bits_number x)) (extract-below a b (bits_number x))))
  extract_fits ix ss is r items rule same needs widths = absurd (let never : ⊥ = cc in never)

  sum_value : (m k : LinearExpression) → 1 ≤ to_nat (linear_value e.number m) → pos 0 ≤ℤ linear_value e.number k →
      to_nat (linear_value e.number (add m k)) ≡ to_nat (linear_value e.number m) + to_nat (linear_value e.number k)
  sum_value m k hm hk =
      let whole : linear_value e.number (add m k) ≡ pos (to_nat (linear_value e.number m) + to_nat (linear_value e.number k)) =
      omega (arith, ints, value-add e.number m k, positive m hm, natural (linear_value e.number k) hk) in
      ap to_nat whole

  -- an extension by k bits
  extend_head : (h : Head) (f : ℕ → ℕ → ℕ → ℕ) → family h ≡ kind.Extend → ((m k a : ℕ) → a < 2 ^ m → f m k a < 2 ^ (m + k)) →
      ((ns : List ℤ) (x : Item) → applied e h ns (group_of Truths (x ∷ [])) ≡ bits (width_of x.sort + index 0 ns) (f (width_of x.sort) (index 0 ns) (bits_number x.value))) → IsFitting h
  extend_head h f fam below is_so ix ss is r items rule same needs widths = go ix ss items (subst (λ f. sort_rule symbols 2 f ix ss ≡ Some r) fam rule)
    where
      go : (ix : List LinearExpression) (ss : List Sort) → EachPair IsTermItem ss is → sort_rule symbols 2 kind.Extend ix ss ≡ Some r → IsOf (sort_in e r.sort) (applied e h (map (linear_value e.number) ix) (group_of Truths is))
      go (k ∷ []) (s ∷ []) items q =
          let g = map_some (λ m. gives (BitVec (add m k)) [] (k ∷ [])) (width s) r q in
          let asked = subst (λ z. Each Holds z.needs) (sym g.2) needs in
          let o = one_item (s ∷ []) is s refl items in
          let w = bit_vector_item s g.0 o.0 o.2 g.1 in
          let m = to_nat (linear_value e.number g.0) in
          let n = to_nat (linear_value e.number k) in
          subst (λ z. IsOf (sort_in e z.sort) (applied e h (linear_value e.number k ∷ []) (group_of Truths is))) g.2
          (subst (λ c. IsOf (BitVectors c) (applied e h (linear_value e.number k ∷ []) (group_of Truths is))) (sym (sum_value g.0 k w.big asked.0))
          (subst (λ js. IsOf (BitVectors (m + n)) (applied e h (linear_value e.number k ∷ []) (group_of Truths js))) (sym o.1)
          (subst (IsOf (BitVectors (m + n))) (sym (is_so (linear_value e.number k ∷ []) o.0 ∙ ap (λ c. bits (c + n) (f c n (bits_number o.0.value))) (item_width m o.0 w.of)))
          (bits_fit (m + n) (f m n (bits_number o.0.value)) (below m n (bits_number o.0.value) (item_number m o.0 w.of))))))
      go ix ss items q = absurd (let never : ⊥ = cc in never)

  -- a rotation by k bits
  rotate_head : (h : Head) (f : ℕ → ℕ → ℕ → ℕ) → family h ≡ kind.Rotate → ((m k a : ℕ) → 1 ≤ m → a < 2 ^ m → f m k a < 2 ^ m) →
      ((ns : List ℤ) (x : Item) → applied e h ns (group_of Truths (x ∷ [])) ≡ bits (width_of x.sort) (f (width_of x.sort) (index 0 ns) (bits_number x.value))) → IsFitting h
  rotate_head h f fam below is_so ix ss is r items rule same needs widths = go ix ss items (subst (λ f. sort_rule symbols 2 f ix ss ≡ Some r) fam rule)
    where
      go : (ix : List LinearExpression) (ss : List Sort) → EachPair IsTermItem ss is → sort_rule symbols 2 kind.Rotate ix ss ≡ Some r → IsOf (sort_in e r.sort) (applied e h (map (linear_value e.number) ix) (group_of Truths is))
      go (k ∷ []) (s ∷ []) items q =
          let g = map_some (λ m. gives s [] (k ∷ [])) (width s) r q in
          let o = one_item (s ∷ []) is s refl items in
          let w = bit_vector_item s g.0 o.0 o.2 g.1 in
          let m = to_nat (linear_value e.number g.0) in
          let n = to_nat (linear_value e.number k) in
          subst (λ z. IsOf (sort_in e z.sort) (applied e h (linear_value e.number k ∷ []) (group_of Truths is))) g.2
          (subst (λ c. IsOf (sort_in e c) (applied e h (linear_value e.number k ∷ []) (group_of Truths is))) (sym (bit_vector_of s g.0 g.1))
          (subst (λ js. IsOf (BitVectors m) (applied e h (linear_value e.number k ∷ []) (group_of Truths js))) (sym o.1)
          (subst (IsOf (BitVectors m)) (sym (is_so (linear_value e.number k ∷ []) o.0 ∙ ap (λ c. bits c (f c n (bits_number o.0.value))) (item_width m o.0 w.of)))
          (bits_fit m (f m n (bits_number o.0.value)) (below m n (bits_number o.0.value) w.big (item_number m o.0 w.of))))))
      go ix ss items q = absurd (let never : ⊥ = cc in never)

  number_value : (k : LinearExpression) → is_number k ≡ true → linear_value e.number k ≡ k.constant
  number_value k h = go k.parts h
    where
      go : (ps : List Part) → no_names ps ≡ true → linear_value e.number (linear k.constant ps) ≡ k.constant
      go [] h = +ℤ_idr k.constant
      go (p ∷ ps) h = cc

  -- the value of a product is the product of the values
  product_value : (k m w : LinearExpression) → product k m ≡ Some w → linear_value e.number w ≡ linear_value e.number k *ℤ linear_value e.number m
  product_value k m w q = by (is_number k) (is_number m) refl refl q
    where
      by : (b c : Test) → is_number k ≡ b → is_number m ≡ c → (if b then (Some (scale k.constant m)) else (if c then (Some (scale m.constant k)) else None)) ≡ Some w → linear_value e.number w ≡ linear_value e.number k *ℤ linear_value e.number m
      by true c kb mb q =
          let same : scale k.constant m ≡ w = cc in
          ap (linear_value e.number) (sym same) ∙ value-scale e.number k.constant m ∙ ap (λ z. z *ℤ linear_value e.number m) (sym (number_value k kb))
      by false true kb mb q =
          let same : scale m.constant k ≡ w = cc in
          ap (linear_value e.number) (sym same) ∙ value-scale e.number m.constant k ∙ *ℤ_comm m.constant (linear_value e.number k) ∙ ap (λ z. linear_value e.number k *ℤ z) (sym (number_value m mb))
      by false false kb mb q = cc

  repeat_fits : IsFitting head.Repeat
  repeat_fits (k ∷ []) (s ∷ []) is r items rule same needs widths =
      let g = map_some (λ w. gives (BitVec w) [] (less_one k ∷ [])) (option_and_then (λ m. product k m) (width s)) r rule in
      let p = then_some (λ m. product k m) (width s) g.0 g.1 in
      let asked = subst (λ z. Each Holds z.needs) (sym g.2) needs in
      let o = one_item (s ∷ []) is s refl items in
      let w = bit_vector_item s p.0 o.0 o.2 p.1 in
      let m = to_nat (linear_value e.number p.0) in
      let n = to_nat (linear_value e.number k) in
      let big = big_from e.number k asked.0 in
      let whole : to_nat (linear_value e.number g.0) ≡ n * m =
      ap to_nat (product_value k p.0 g.0 p.2 ∙ ap (λ z. z *ℤ linear_value e.number p.0) (positive k big) ∙ ap (λ z. pos n *ℤ z) (positive p.0 w.big) ∙ pos-*ℤ-pos n m) in
      subst (λ z. IsOf (sort_in e z.sort) (applied e head.Repeat (linear_value e.number k ∷ []) (group_of Truths is))) g.2
      (subst (λ c. IsOf (BitVectors c) (applied e head.Repeat (linear_value e.number k ∷ []) (group_of Truths is))) (sym whole)
      (subst (λ js. IsOf (BitVectors (n * m)) (applied e head.Repeat (linear_value e.number k ∷ []) (group_of Truths js))) (sym o.1)
      (subst (λ c. IsOf (BitVectors (n * m)) (bits (n * c) (repeat c n (bits_number o.0.value)))) (sym (item_width m o.0 w.of))
      (bits_fit (n * m) (repeat m n (bits_number o.0.value)) (repeat-below m n (bits_number o.0.value) (item_number m o.0 w.of))))))
  repeat_fits ix ss is r items rule same needs widths = absurd (let never : ⊥ = cc in never)

  -- ---- literals and symbols

  bits_head : (v : ℕ) → IsFitting (head.Bits v)
  bits_head v (w ∷ []) [] is r items rule same needs widths =
      let q : gives (BitVec w) [] (less_one w ∷ []) ≡ r = cc in
      let n = to_nat (linear_value e.number w) in
      subst (λ z. IsOf (sort_in e z.sort) (applied e (head.Bits v) (linear_value e.number w ∷ []) (group_of Truths is))) q (bits_fit n (v % 2 ^ n) (mod_below v (2 ^ n) (pow_pos n)))
  bits_head v ix ss is r items rule same needs widths = absurd (let never : ⊥ = cc in never)

  literal_fits : IsFitting head.Literal
  literal_fits (v ∷ w ∷ []) [] is r items rule same needs widths =
      let q : gives (BitVec w) [] (less_one w ∷ []) ≡ r = cc in
      let n = to_nat (linear_value e.number w) in
      subst (λ z. IsOf (sort_in e z.sort) (applied e head.Literal (linear_value e.number v ∷ linear_value e.number w ∷ []) (group_of Truths is))) q
      (bits_fit n (modulo (linear_value e.number v) (2 ^ n)) (modulo_below (linear_value e.number v) (2 ^ n) (pow_pos n)))
  literal_fits ix ss is r items rule same needs widths = absurd (let never : ⊥ = cc in never)

  -- values of the sorts that a symbol takes
  given : (ss gs : List Sort) (is : List Item) → EachPair IsTermItem ss is → length ss ≡ length gs → Each IsOne (zip ss gs) → EachPair Fits (values is) (sorts_in e gs)
  given [] [] [] h n k = tt
  given [] [] (i ∷ is) h n k = absurd h
  given [] (g ∷ gs) is h n k = cc
  given (s ∷ ss) [] is h n k = cc
  given (s ∷ ss) (g ∷ gs) [] h n k = absurd h
  given (s ∷ ss) (g ∷ gs) (i ∷ is) h n k =
      ((subst (λ z. IsOf (sort_in e z) i) k.0 h.0.of).fits, given ss gs is h.1 (omega arith) k.1)

  symbol_fits : (k : ℕ) → ((g : Signature) → symbols k ≡ Some g → IsInterpreted e k g) → IsFitting (head.Free k)
  symbol_fits k known (x ∷ ix) ss is r items rule same needs widths = absurd (let never : ⊥ = cc in never)
  symbol_fits k known [] ss is r items rule same needs widths =
      let q = then_some (λ g. if nat_eq (length ss) (length g.args) then (Some (gives g.gives (zip ss g.args) [])) else None) (symbols k) r rule in
      let g = q.0 in
      let f = if_some (nat_eq (length ss) (length g.args)) (gives g.gives (zip ss g.args) []) r q.2 in
      let i = known g q.1 in
      let ones = subst (λ z. Each IsOne z.alike) (sym f.1) same in
      subst (λ z. IsOf (sort_in e z.sort) (applied e (head.Free k) [] (group_of Truths is))) f.1
      (record { sorted = i.sort; fits = i.value (values is) (given ss g.args is items (eqb-true (length ss) (length g.args) f.0) ones) })

  -- ---- all heads

  no_fits : (h : Head) → family h ≡ kind.OfRules → IsFitting h
  no_fits h fam ix ss is r items rule same needs widths = absurd (let q : sort_rule symbols 2 kind.OfRules ix ss ≡ Some r = subst (λ f. sort_rule symbols 2 f ix ss ≡ Some r) fam rule in let never : ⊥ = cc in never)

  fixed_truth : (h : Head) (c : Count) (b : Basic) → family h ≡ kind.Fixed c b basic.Bool → ((is : List Item) → IsOf Truths (applied e h [] (group_of Truths is))) → IsFitting h
  fixed_truth h c b fam fits = fixed_head h c b basic.Bool fam (λ is n all. fits is)

  fixed_whole : (h : Head) (c : Count) (b : Basic) → family h ≡ kind.Fixed c b basic.Int → ((is : List Item) → IsOf Wholes (applied e h [] (group_of Truths is))) → IsFitting h
  fixed_whole h c b fam fits = fixed_head h c b basic.Int fam (λ is n all. fits is)

  gathered_head : (h : Head) (b : Basic) (op : Value → Value → Value) (none : Value) → family h ≡ kind.Fixed count.Several b b → Fits none (sort_in e (basic_sort b)) →
      ((x y : Value) → Fits x (sort_in e (basic_sort b)) → Fits y (sort_in e (basic_sort b)) → Fits (op x y) (sort_in e (basic_sort b))) →
      ((is : List Item) → applied e h [] (group_of Truths is) ≡ gathered (sort_in e (basic_sort b)) op none is) → IsFitting h
  gathered_head h b op none fam none_in stays is_so = fixed_head h count.Several b b fam (λ is n all.
      subst (IsOf (sort_in e (basic_sort b))) (sym (is_so is)) (gathered_fits (sort_in e (basic_sort b)) op stays none none_in is all))

  left_head : (h : Head) (b : Basic) (op : Value → Value → Value) (none : Value) → family h ≡ kind.Fixed count.Several b b → Fits none (sort_in e (basic_sort b)) →
      ((x y : Value) → Fits x (sort_in e (basic_sort b)) → Fits y (sort_in e (basic_sort b)) → Fits (op x y) (sort_in e (basic_sort b))) →
      ((is : List Item) → applied e h [] (group_of Truths is) ≡ item (sort_in e (basic_sort b)) (from_left op none (values is))) → IsFitting h
  left_head h b op none fam none_in stays is_so = fixed_head h count.Several b b fam (λ is n all.
      subst (IsOf (sort_in e (basic_sort b))) (sym (is_so is))
      (record { sorted = refl; fits = from_left_fits (sort_in e (basic_sort b)) op stays none none_in (values is) (values_fit (sort_in e (basic_sort b)) is all) }))

  module _ (known : (k : ℕ) (g : Signature) → symbols k ≡ Some g → IsInterpreted e k g) where
    pub fits_head : (h : Head) → IsFitting h
    fits_head head.True = fixed_truth head.True _ _ refl (λ is. truth_fits _)
    fits_head head.False = fixed_truth head.False _ _ refl (λ is. truth_fits _)
    fits_head head.Not = fixed_truth head.Not _ _ refl (λ is. truth_fits _)
    fits_head head.Implies = fixed_head head.Implies count.Several basic.Bool basic.Bool refl (λ is n all.
        record { sorted = refl; fits = from_right_fits Truths implies_value (λ x y fx fy. tt) (Truth true) tt (values is) (values_fit Truths is all) })
    fits_head head.Xor = left_head head.Xor basic.Bool _ (Truth false) refl tt (λ x y fx fy. tt) (λ is. refl)
    fits_head head.And = gathered_head head.And basic.Bool and_value (Truth true) refl tt (λ x y fx fy. tt) (λ is. refl)
    fits_head head.Or = gathered_head head.Or basic.Bool or_value (Truth false) refl tt (λ x y fx fy. tt) (λ is. refl)
    fits_head head.Equal = alike_head head.Equal refl (λ is. truth_fits _)
    fits_head head.Distinct = alike_head head.Distinct refl (λ is. truth_fits _)
    fits_head head.Ite = ite_fits
    fits_head (head.Numeral n) = fixed_whole (head.Numeral n) _ _ refl (λ is. whole_fits _)
    fits_head head.Neg = fixed_whole head.Neg _ _ refl (λ is. whole_fits _)
    fits_head head.Minus = left_head head.Minus basic.Int _ (Whole (pos 0)) refl tt (λ x y fx fy. tt) (λ is. refl)
    fits_head head.Add = gathered_head head.Add basic.Int add_value (Whole (pos 0)) refl tt (λ x y fx fy. tt) (λ is. refl)
    fits_head head.Mul = gathered_head head.Mul basic.Int mul_value (Whole (pos 1)) refl tt (λ x y fx fy. tt) (λ is. refl)
    fits_head head.Div = left_head head.Div basic.Int _ (Whole (pos 0)) refl tt (λ x y fx fy. tt) (λ is. refl)
    fits_head head.Mod = fixed_whole head.Mod _ _ refl (λ is. whole_fits _)
    fits_head head.Abs = fixed_whole head.Abs _ _ refl (λ is. whole_fits _)
    fits_head head.Le = fixed_truth head.Le _ _ refl (λ is. truth_fits _)
    fits_head head.Lt = fixed_truth head.Lt _ _ refl (λ is. truth_fits _)
    fits_head head.Ge = fixed_truth head.Ge _ _ refl (λ is. truth_fits _)
    fits_head head.Gt = fixed_truth head.Gt _ _ refl (λ is. truth_fits _)
    fits_head head.Select = select_fits
    fits_head head.Store = store_fits
    fits_head head.BvNot = on_one_head head.BvNot bvnot refl bvnot-below (λ x. refl)
    fits_head head.BvNeg = on_one_head head.BvNeg bvneg refl (λ n a. (arithmetic-below n a a).3) (λ x. refl)
    fits_head head.BvAdd = on_all_head head.BvAdd bvadd _ refl (λ n a b la lb. (arithmetic-below n a b).0) (λ n h. pow_pos n) (λ is. refl)
    fits_head head.BvMul = on_all_head head.BvMul bvmul _ refl (λ n a b la lb. (arithmetic-below n a b).2) (λ n h. mod_below 1 (2 ^ n) (pow_pos n)) (λ is. refl)
    fits_head head.BvAnd = on_all_head head.BvAnd bvand (λ n. 2 ^ n - 1) refl (λ n a b la lb. (bitwise-below n a b).1) (λ n h. omega (arith, pow_pos n)) (λ is. refl)
    fits_head head.BvOr = on_all_head head.BvOr bvor _ refl (λ n a b la lb. (bitwise-below n a b).2) (λ n h. pow_pos n) (λ is. refl)
    fits_head head.BvXor = on_all_head head.BvXor bvxor _ refl (λ n a b la lb. (bitwise-below n a b).3) (λ n h. pow_pos n) (λ is. refl)
    fits_head head.BvSub = on_two_head head.BvSub bvsub refl (λ n a b la lb. (arithmetic-below n a b).1) (λ x y. refl)
    fits_head head.BvUdiv = on_two_head head.BvUdiv bvudiv refl (λ n a b la lb. (division-below n a b la).0) (λ x y. refl)
    fits_head head.BvUrem = on_two_head head.BvUrem bvurem refl (λ n a b la lb. (division-below n a b la).1) (λ x y. refl)
    fits_head head.BvSdiv = on_two_head head.BvSdiv bvsdiv refl (λ n a b la lb. (division-below n a b la).2) (λ x y. refl)
    fits_head head.BvSrem = on_two_head head.BvSrem bvsrem refl (λ n a b la lb. (division-below n a b la).3) (λ x y. refl)
    fits_head head.BvSmod = on_two_head head.BvSmod bvsmod refl (λ n a b la lb. (division-below n a b la).4) (λ x y. refl)
    fits_head head.BvShl = on_two_head head.BvShl bvshl refl (λ n a b la lb. (shifts-below n a b la).0) (λ x y. refl)
    fits_head head.BvLshr = on_two_head head.BvLshr bvlshr refl (λ n a b la lb. (shifts-below n a b la).1) (λ x y. refl)
    fits_head head.BvAshr = on_two_head head.BvAshr bvashr refl (λ n a b la lb. (shifts-below n a b la).2) (λ x y. refl)
    fits_head head.BvNand = on_two_head head.BvNand bvnand refl (λ n a b la lb. (complements-below n a b).0) (λ x y. refl)
    fits_head head.BvNor = on_two_head head.BvNor bvnor refl (λ n a b la lb. (complements-below n a b).1) (λ x y. refl)
    fits_head head.BvXnor = on_two_head head.BvXnor bvxnor refl (λ n a b la lb. (complements-below n a b).2) (λ x y. refl)
    fits_head head.BvUlt = test_head head.BvUlt refl (λ is. truth_fits _)
    fits_head head.BvUle = test_head head.BvUle refl (λ is. truth_fits _)
    fits_head head.BvUgt = test_head head.BvUgt refl (λ is. truth_fits _)
    fits_head head.BvUge = test_head head.BvUge refl (λ is. truth_fits _)
    fits_head head.BvSlt = test_head head.BvSlt refl (λ is. truth_fits _)
    fits_head head.BvSle = test_head head.BvSle refl (λ is. truth_fits _)
    fits_head head.BvSgt = test_head head.BvSgt refl (λ is. truth_fits _)
    fits_head head.BvSge = test_head head.BvSge refl (λ is. truth_fits _)
    fits_head head.BvComp = bit_vectors_head head.BvComp (count.Exactly 2) outcome.OneBit refl (λ n is big count all. bits_fit 1 (bvcomp (bits_number (val 0 is)) (bits_number (val 1 is))) (one_bit _))
    fits_head head.Concat = concat_head
    fits_head head.Extract = extract_fits
    fits_head head.ZeroExtend = extend_head head.ZeroExtend (λ m k a. a) refl (λ m k a h. wider m k a h) (λ ns x. refl)
    fits_head head.SignExtend = extend_head head.SignExtend sign_extend refl (λ m k a h. sign_extend-below m k a) (λ ns x. refl)
    fits_head head.RotateLeft = rotate_head head.RotateLeft rotate_left refl (λ m k a big h. rotate_left-below m k a big h) (λ ns x. refl)
    fits_head head.RotateRight = rotate_head head.RotateRight rotate_right refl (λ m k a big h. rotate_right-below m k a big h) (λ ns x. refl)
    fits_head head.Repeat = repeat_fits
    fits_head (head.Bits v) = bits_head v
    fits_head head.Literal = literal_fits
    fits_head (head.Free k) = symbol_fits k (known k)
    fits_head (head.Param k) = no_fits (head.Param k) refl
    fits_head head.Hole = no_fits head.Hole refl
