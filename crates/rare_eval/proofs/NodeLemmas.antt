-- What the values of a well-sorted application's arguments are.
use Rattle.std.proofs.Common.{◌≡◌, ℕ, zero, suc, ◌<◌, ◌≤◌, Bool as Test, true, false, List, [], ◌∷◌, take, length, Option, Some, None, refl, sym, ap, ◌∙◌, subst, arith, inl, inr, eq-eqb}
use Rattle.std.proofs.lemmas.Int.{ints}
use Rattle.std.proofs.lemmas.Bool.{eqb-true}
use Rattle.std.specs.Prelude.{ℤ, pos, negsuc, ◌-ℤ◌, ◌≤ℤ◌, if◌then◌else◌, nat_le, nat_eq}
use Rattle.std.specs.Option.{option_map, option_and_then}
use Rattle.rare_linear.specs.Linears.{LinearExpression, linear_value, number, add}
use Rattle.rare_linear.specs.Entailment.{IsEntailed, minus}
use Rattle.rare_linear.specs.declared.constraint.Constraint.{Constraint}
use Rattle.rare_sort.specs.Each.{Each, EachPair}
use Rattle.rare_sort.specs.Families.{family}
use Rattle.rare_sort.specs.SortRules.{SortRule, sort_rule, width, less_one, gives, each_is, counts, outcome_sort, total_from, total, number_in, product, slice_width, slice_needs, basic_sort}
use Rattle.rare_sort.specs.Sorting.{IsOne}
use Rattle.rare_sort.specs.declared.family.Family.{Family}
use Rattle.rare_sort.specs.declared.family.Family.TheVariants as kind
use Rattle.rare_sort.specs.declared.family.Count.{Count}
use Rattle.rare_sort.specs.declared.family.Count.TheVariants as count
use Rattle.rare_sort.specs.declared.head.Head.{Head}
use Rattle.rare_sort.specs.declared.head.Head.TheVariants as head
use Rattle.rare_sort.specs.declared.sort.Signature.{Signature}
use Rattle.rare_sort.specs.declared.sort.Sort.{Sort, Bool, Int, BitVec, Array', Named}
use Rattle.rare_sort.proofs.Options.{if_some, map_some, then_some}
use Rattle.rare_meaning.specs.ClosedSorts.{to_nat}
use Rattle.rare_meaning.specs.Values.{width_of}
use Rattle.rare_meaning.specs.Settings.{Item}
use Rattle.rare_meaning.specs.Operators.{bits}
use Rattle.rare_eval.specs.inner.Groups.{is_unvalued, is_constant, is_single, is_on_word}
use Rattle.rare_eval.specs.inner.Indices.{number_at}
use Rattle.rare_eval.specs.inner.Progress.{IsFull}
use Rattle.rare_eval.specs.inner.Sorted.{IsWordOf, IsValueOf}
use Rattle.rare_eval.specs.inner.Suits.{IsWord, AreWords, IsAnyWord, IsTruthItem, SuitsFamily, Suits, AreMet, IsWordFor, FewOrTruths}
use Rattle.rare_eval.proofs.SortedLemmas.{NoName, plus_nothing, number_is, number_holds}
use Rattle.rare_meaning.proofs.FitsLemmas.{value-minus, value-less_one}

-- ---- values of sorts with a width

any_word : (s : Sort) (i : Item) (w : LinearExpression) → width s ≡ Some w → IsValueOf s i → IsAnyWord i
any_word Bool i w e h = absurd (let never : ⊥ = cc in never)
any_word Int i w e h = absurd (let never : ⊥ = cc in never)
any_word (BitVec x) i w e h = (h.width, (h.bits_of, h.is))
any_word (Array' p k q m) i w e h = absurd h
any_word (Named k) i w e h = absurd h

word_of : (s : Sort) (i : Item) (w : LinearExpression) → width s ≡ Some w → IsValueOf s i → IsWordOf w i
word_of Bool i w e h = absurd (let never : ⊥ = cc in never)
word_of Int i w e h = absurd (let never : ⊥ = cc in never)
word_of (BitVec x) i w e h = let q : x ≡ w = cc in subst (λ y. IsWordOf y i) q h
word_of (Array' p k q m) i w e h = absurd h
word_of (Named k) i w e h = absurd h

same_width : (m n : ℕ) → number (pos m) ≡ number (pos n) → m ≡ n
same_width m n e = ap (λ x. to_nat x.constant) e

word_at : (w : LinearExpression) (m : ℕ) (i : Item) → w ≡ number (pos m) → IsWordOf w i → IsWord m i
word_at w m i e h = (h.bits_of, h.is ∙ ap (λ n. bits n h.bits_of) (same_width h.width m (sym h.named ∙ e)))

-- all of one sort with a width, the first of them told
words_at : (s : Sort) (w : LinearExpression) (m : ℕ) → width s ≡ Some w → w ≡ number (pos m) → (ss : List Sort) (is : List Item) → Each IsOne (each_is s ss) →
    (k : ℕ) → EachPair IsValueOf (take k ss) is → Each (IsWord m) is
words_at s w m e n ss [] same k h = tt
words_at s w m e n [] (i ∷ is) same zero h = absurd h
words_at s w m e n [] (i ∷ is) same (suc k) h = absurd h
words_at s w m e n (t ∷ ss) (i ∷ is) same zero h = absurd h
words_at s w m e n (t ∷ ss) (i ∷ is) same (suc k) h =
    (word_at w m i n (word_of s i w e (subst (λ u. IsValueOf u i) same.0 h.0)), words_at s w m e n ss is same.1 k h.1)

are_words : (s : Sort) (w : LinearExpression) → width s ≡ Some w → (ss : List Sort) (is : List Item) → Each IsOne (each_is s ss) → (k : ℕ) → EachPair IsValueOf (take k (s ∷ ss)) is → AreWords is
are_words s w e ss [] same k h = (0, tt)
are_words s w e ss (i ∷ is) same zero h = absurd h
are_words s w e ss (i ∷ is) same (suc k) h =
    let first = word_of s i w e h.0 in
    (first.width, ((first.bits_of, first.is), words_at s w first.width e first.named ss is same k h.1))

few : (ss : List Sort) (is : List Item) (k : ℕ) → EachPair IsValueOf (take k ss) is → length is ≤ length ss
few ss [] k h = omega arith
few [] (i ∷ is) zero h = absurd h
few [] (i ∷ is) (suc k) h = absurd h
few (s ∷ ss) (i ∷ is) zero h = absurd h
few (s ∷ ss) (i ∷ is) (suc k) h = let le = few ss is k h.1 in omega (arith, le)

concat_words : (sum : LinearExpression) (ss : List Sort) (w : LinearExpression) (is : List Item) (k : ℕ) → total_from sum ss ≡ Some w → EachPair IsValueOf (take k ss) is → Each IsAnyWord is
concat_words sum ss w [] k e h = tt
concat_words sum [] w (i ∷ is) zero e h = absurd h
concat_words sum [] w (i ∷ is) (suc k) e h = absurd h
concat_words sum (s ∷ ss) w (i ∷ is) zero e h = absurd h
concat_words sum (s ∷ ss) w (i ∷ is) (suc k) e h =
    let f = then_some (λ v. total_from (add sum v) ss) (width s) w e in
    (any_word s i f.0 f.1 h.0, concat_words (add sum f.0) ss w is k f.2 h.1)

-- ---- the first arguments

abbrev pub is_valued_family : Family → Test
is_valued_family kind.Select = false
is_valued_family kind.Store = false
is_valued_family (kind.Symbol k) = false
is_valued_family kind.OfRules = false
is_valued_family f = true

pub valued_family : (h : Head) → is_unvalued h ≡ false → is_valued_family (family h) ≡ true
valued_family (head.Free k) u = cc
valued_family (head.Param k) u = cc
valued_family head.Hole u = cc
valued_family head.Select u = cc
valued_family head.Store u = cc
valued_family h u = refl

module _ (symbols : ℕ → Option Signature) where
  at_most : (c : Count) (n m : ℕ) → c ≡ count.Exactly n → counts c 2 m ≡ true → m ≡ n
  at_most c n m e h = eqb-true m n (sym (ap (λ x. counts x 2 m) e) ∙ h)

  suits_family : (f : Family) (ix : List LinearExpression) (ss : List Sort) (r : SortRule) (k : ℕ) (is : List Item) → is_valued_family f ≡ true → sort_rule symbols 2 f ix ss ≡ Some r →
      Each IsOne r.alike → EachPair IsValueOf (take k ss) is → SuitsFamily f is
  suits_family (kind.Fixed count.Several s t) ix ss r k is v e same h = tt
  suits_family (kind.Fixed (count.Exactly n) s t) [] ss r k is v e same h =
      let q = if_some (nat_eq (length ss) n) (gives (basic_sort t) (each_is (basic_sort s) ss) []) r e in
      let a = few ss is k h in let b = eqb-true (length ss) n q.0 in omega (arith, a, b)
  suits_family (kind.Fixed (count.Exactly n) s t) (x ∷ ix) ss r k is v e same h = absurd (let never : ⊥ = cc in never)
  suits_family kind.Alike ix ss r k is v e same h = tt
  suits_family kind.Choice [] (c ∷ s ∷ t ∷ []) r k is v e same h = few (c ∷ s ∷ t ∷ []) is k h
  suits_family (kind.BitVectors count.Several o) [] (s ∷ ss) r k is v e same h = go (nat_le 2 (length (s ∷ ss))) e
    where
      go : (b : Test) → (if b then (option_map (λ w. gives (outcome_sort o w) (each_is s ss) []) (width s)) else None) ≡ Some r → AreWords is
      go true e =
          let q = map_some (λ w. gives (outcome_sort o w) (each_is s ss) []) (width s) r e in
          are_words s q.0 q.1 ss is (subst (λ z. Each IsOne z.alike) (sym q.2) same) k h
      go false e = absurd (let never : ⊥ = cc in never)
  suits_family (kind.BitVectors (count.Exactly n) o) [] (s ∷ ss) r k is v e same h = go (nat_eq (length (s ∷ ss)) n) refl e
    where
      go : (b : Test) → nat_eq (length (s ∷ ss)) n ≡ b → (if b then (option_map (λ w. gives (outcome_sort o w) (each_is s ss) []) (width s)) else None) ≡ Some r → (length is ≤ n) × AreWords is
      go true c e =
          let q = map_some (λ w. gives (outcome_sort o w) (each_is s ss) []) (width s) r e in
          let a = few (s ∷ ss) is k h in let b = eqb-true (length (s ∷ ss)) n c in
          (omega (arith, a, b), are_words s q.0 q.1 ss is (subst (λ z. Each IsOne z.alike) (sym q.2) same) k h)
      go false c e = absurd (let never : ⊥ = cc in never)
  suits_family (kind.BitVectors c o) [] [] r k is v e same h = absurd (let never : ⊥ = cc in never)
  suits_family (kind.BitVectors c o) (x ∷ ix) ss r k is v e same h = absurd (let never : ⊥ = cc in never)
  suits_family kind.Concat [] ss r k is v e same h = go (nat_le 2 (length ss)) e
    where
      go : (t : Test) → (if t then (option_map (λ w. gives (BitVec w) [] []) (total ss)) else None) ≡ Some r → Each IsAnyWord is
      go true e = let q = map_some (λ w. gives (BitVec w) [] []) (total ss) r e in concat_words (number (pos 0)) ss q.0 is k q.1 h
      go false e = absurd (let never : ⊥ = cc in never)
  suits_family kind.Concat (x ∷ ix) ss r k is v e same h = absurd (let never : ⊥ = cc in never)
  suits_family kind.Extract (j ∷ i ∷ []) (s ∷ []) r k is v e same h = few (s ∷ []) is k h
  suits_family kind.Extend (j ∷ []) (s ∷ []) r k is v e same h = few (s ∷ []) is k h
  suits_family kind.Rotate (j ∷ []) (s ∷ []) r k is v e same h = few (s ∷ []) is k h
  suits_family kind.Repeat (j ∷ []) (s ∷ []) r k is v e same h = few (s ∷ []) is k h
  suits_family kind.Bits (w ∷ []) [] r k is v e same h = few [] is k h
  suits_family kind.Literal (x ∷ w ∷ []) [] r k is v e same h = few [] is k h
  suits_family kind.Select ix ss r k is v e same h = absurd (let never : ⊥ = cc in never)
  suits_family kind.Store ix ss r k is v e same h = absurd (let never : ⊥ = cc in never)
  suits_family (kind.Symbol n) ix ss r k is v e same h = absurd (let never : ⊥ = cc in never)
  suits_family f ix ss r k is v e same h = absurd (let never : ⊥ = cc in never)

truths_at : (s : Sort) → s ≡ Bool → (ss : List Sort) (is : List Item) → Each IsOne (each_is s ss) → (k : ℕ) → EachPair IsValueOf (take k ss) is → Each IsTruthItem is
truths_at s b ss [] same k h = tt
truths_at s b [] (i ∷ is) same zero h = absurd h
truths_at s b [] (i ∷ is) same (suc k) h = absurd h
truths_at s b (t ∷ ss) (i ∷ is) same zero h = absurd h
truths_at s b (t ∷ ss) (i ∷ is) same (suc k) h = (subst (λ u. IsValueOf u i) (same.0 ∙ b) h.0, truths_at s b ss is same.1 k h.1)

all_truths : (s : Sort) → s ≡ Bool → (ss : List Sort) (is : List Item) → Each IsOne (each_is s ss) → (k : ℕ) → EachPair IsValueOf (take k (s ∷ ss)) is → Each IsTruthItem is
all_truths s b ss [] same k h = tt
all_truths s b ss (i ∷ is) same zero h = absurd h
all_truths s b ss (i ∷ is) same (suc k) h = (subst (λ u. IsValueOf u i) b h.0, truths_at s b ss is same k h.1)

distinct_suits : (symbols : ℕ → Option Signature) (ix : List LinearExpression) (ss : List Sort) (r : SortRule) (k : ℕ) (is : List Item) → FewOrTruths ss →
    sort_rule symbols 2 kind.Alike ix ss ≡ Some r → Each IsOne r.alike → EachPair IsValueOf (take k ss) is → Suits head.Distinct is
distinct_suits symbols ix ss r k is (inl two) e same h = let a = few ss is k h in inl (omega (arith, a, two))
distinct_suits symbols ix [] r k is (inr t) e same h = absurd t
distinct_suits symbols [] (s ∷ ss) r k is (inr t) e same h =
    let q = if_some (nat_le 2 (length (s ∷ ss))) (gives Bool (each_is s ss) []) r e in
    inr (all_truths s t ss is (subst (λ z. Each IsOne z.alike) (sym q.1) same) k h)
distinct_suits symbols (x ∷ ix) (s ∷ ss) r k is (inr t) e same h = absurd (let never : ⊥ = cc in never)

pub suits : (symbols : ℕ → Option Signature) (h : Head) (ix : List LinearExpression) (ss : List Sort) (r : SortRule) (k : ℕ) (is : List Item) → is_unvalued h ≡ false →
    (h ≡ head.Distinct → FewOrTruths ss) → sort_rule symbols 2 (family h) ix ss ≡ Some r → Each IsOne r.alike → EachPair IsValueOf (take k ss) is → Suits h is
suits symbols head.Distinct ix ss r k is u d e same h = distinct_suits symbols ix ss r k is (d refl) e same h
suits symbols h ix ss r k is u d e same v = suits_family symbols (family h) ix ss r k is (valued_family h u) e same v

-- ---- all arguments

abbrev is_zero_family : Family → Test
is_zero_family (kind.Fixed (count.Exactly n) s t) = nat_eq n 0
is_zero_family kind.Bits = true
is_zero_family kind.Literal = true
is_zero_family f = false

zero_heads : (h : Head) → is_unvalued h ≡ false → is_zero_family (family h) ≡ true → is_constant h ≡ true
zero_heads head.True u z = refl
zero_heads head.False u z = refl
zero_heads (head.Numeral n) u z = refl
zero_heads (head.Bits v) u z = refl
zero_heads head.Literal u z = cc
zero_heads h u z = cc

abbrev is_single_family : Family → Test
is_single_family (kind.Fixed (count.Exactly n) s t) = nat_eq n 1
is_single_family (kind.BitVectors (count.Exactly n) o) = nat_eq n 1
is_single_family kind.Extract = true
is_single_family kind.Extend = true
is_single_family kind.Rotate = true
is_single_family kind.Repeat = true
is_single_family f = false

single_heads : (h : Head) → is_unvalued h ≡ false → is_single_family (family h) ≡ true → is_single h ≡ true
single_heads head.Not u z = refl
single_heads head.Neg u z = refl
single_heads head.Abs u z = refl
single_heads head.BvNot u z = refl
single_heads head.BvNeg u z = refl
single_heads head.Extract u z = refl
single_heads head.ZeroExtend u z = refl
single_heads head.SignExtend u z = refl
single_heads head.RotateLeft u z = refl
single_heads head.RotateRight u z = refl
single_heads head.Repeat u z = refl
single_heads h u z = cc

abbrev is_word_family : Family → Test
is_word_family (kind.BitVectors c o) = true
is_word_family kind.Extract = true
is_word_family kind.Extend = true
is_word_family kind.Rotate = true
is_word_family kind.Repeat = true
is_word_family f = false

word_heads : (h : Head) → is_on_word h ≡ true → is_word_family (family h) ≡ true
word_heads head.BvNot u = refl
word_heads head.BvNeg u = refl
word_heads head.Extract u = refl
word_heads head.ZeroExtend u = refl
word_heads head.SignExtend u = refl
word_heads head.RotateLeft u = refl
word_heads head.RotateRight u = refl
word_heads head.Repeat u = refl
word_heads h u = cc

swapped : (m n : ℕ) → nat_eq m n ≡ true → nat_eq n m ≡ true
swapped m n e = let q = eqb-true m n e in subst (λ x. nat_eq x m ≡ true) q (eqb_self m)
  where
    eqb_self : (k : ℕ) → nat_eq k k ≡ true
    eqb_self k = eq-eqb k k refl

module _ (symbols : ℕ → Option Signature) where
  zero_family : (f : Family) (ix : List LinearExpression) (r : SortRule) → is_valued_family f ≡ true → sort_rule symbols 2 f ix [] ≡ Some r → is_zero_family f ≡ true
  zero_family (kind.Fixed (count.Exactly n) s t) [] r v e = swapped 0 n (if_some (nat_eq 0 n) (gives (basic_sort t) [] []) r e).0
  zero_family (kind.Fixed count.Several s t) [] r v e = cc
  zero_family (kind.Fixed c s t) (x ∷ ix) r v e = cc
  zero_family kind.Alike [] r v e = cc
  zero_family kind.Alike (x ∷ ix) r v e = cc
  zero_family kind.Choice [] r v e = cc
  zero_family kind.Choice (x ∷ ix) r v e = cc
  zero_family (kind.BitVectors c o) [] r v e = cc
  zero_family (kind.BitVectors c o) (x ∷ ix) r v e = cc
  zero_family kind.Concat [] r v e = cc
  zero_family kind.Concat (x ∷ ix) r v e = cc
  zero_family kind.Extract [] r v e = cc
  zero_family kind.Extract (x ∷ []) r v e = cc
  zero_family kind.Extract (x ∷ y ∷ []) r v e = cc
  zero_family kind.Extract (x ∷ y ∷ z ∷ ix) r v e = cc
  zero_family kind.Extend [] r v e = cc
  zero_family kind.Extend (x ∷ []) r v e = cc
  zero_family kind.Extend (x ∷ y ∷ ix) r v e = cc
  zero_family kind.Rotate [] r v e = cc
  zero_family kind.Rotate (x ∷ []) r v e = cc
  zero_family kind.Rotate (x ∷ y ∷ ix) r v e = cc
  zero_family kind.Repeat [] r v e = cc
  zero_family kind.Repeat (x ∷ []) r v e = cc
  zero_family kind.Repeat (x ∷ y ∷ ix) r v e = cc
  zero_family kind.Bits ix r v e = refl
  zero_family kind.Literal ix r v e = refl
  zero_family kind.Select ix r v e = cc
  zero_family kind.Store ix r v e = cc
  zero_family (kind.Symbol k) ix r v e = cc
  zero_family kind.OfRules ix r v e = cc

  single_family : (f : Family) (ix : List LinearExpression) (s : Sort) (r : SortRule) → is_valued_family f ≡ true → sort_rule symbols 2 f ix (s ∷ []) ≡ Some r → is_single_family f ≡ true
  single_family (kind.Fixed (count.Exactly n) b t) [] s r v e = swapped 1 n (if_some (nat_eq 1 n) (gives (basic_sort t) (each_is (basic_sort b) (s ∷ [])) []) r e).0
  single_family (kind.Fixed count.Several b t) [] s r v e = cc
  single_family (kind.Fixed c b t) (x ∷ ix) s r v e = cc
  single_family kind.Alike [] s r v e = cc
  single_family kind.Alike (x ∷ ix) s r v e = cc
  single_family kind.Choice [] s r v e = cc
  single_family kind.Choice (x ∷ ix) s r v e = cc
  single_family (kind.BitVectors (count.Exactly n) o) [] s r v e = go (nat_eq 1 n) refl e
    where
      go : (b : Test) → nat_eq 1 n ≡ b → (if b then (option_map (λ w. gives (outcome_sort o w) (each_is s []) []) (width s)) else None) ≡ Some r → nat_eq n 1 ≡ true
      go true q e = swapped 1 n q
      go false q e = cc
  single_family (kind.BitVectors count.Several o) [] s r v e = cc
  single_family (kind.BitVectors c o) (x ∷ ix) s r v e = cc
  single_family kind.Concat [] s r v e = cc
  single_family kind.Concat (x ∷ ix) s r v e = cc
  single_family kind.Extract ix s r v e = refl
  single_family kind.Extend ix s r v e = refl
  single_family kind.Rotate ix s r v e = refl
  single_family kind.Repeat ix s r v e = refl
  single_family kind.Bits [] s r v e = cc
  single_family kind.Bits (x ∷ []) s r v e = cc
  single_family kind.Bits (x ∷ y ∷ ix) s r v e = cc
  single_family kind.Literal [] s r v e = cc
  single_family kind.Literal (x ∷ []) s r v e = cc
  single_family kind.Literal (x ∷ y ∷ []) s r v e = cc
  single_family kind.Literal (x ∷ y ∷ z ∷ ix) s r v e = cc
  single_family kind.Select ix s r v e = cc
  single_family kind.Store ix s r v e = cc
  single_family (kind.Symbol k) ix s r v e = cc
  single_family kind.OfRules ix s r v e = cc

  -- the width of the one argument
  record HasWidth (s : Sort) : Type 0 where
    of : LinearExpression
    is : width s ≡ Some of

  word_family : (f : Family) (ix : List LinearExpression) (s : Sort) (r : SortRule) → is_word_family f ≡ true → sort_rule symbols 2 f ix (s ∷ []) ≡ Some r → HasWidth s
  word_family (kind.BitVectors c o) [] s r v e = go (counts c 2 1) e
    where
      go : (b : Test) → (if b then (option_map (λ w. gives (outcome_sort o w) (each_is s []) []) (width s)) else None) ≡ Some r → HasWidth s
      go true e = let q = map_some (λ w. gives (outcome_sort o w) (each_is s []) []) (width s) r e in record { of = q.0; is = q.1 }
      go false e = absurd (let never : ⊥ = cc in never)
  word_family (kind.BitVectors c o) (x ∷ ix) s r v e = absurd (let never : ⊥ = cc in never)
  word_family kind.Extract [] s r v e = absurd (let never : ⊥ = cc in never)
  word_family kind.Extract (j ∷ []) s r v e = absurd (let never : ⊥ = cc in never)
  word_family kind.Extract (j ∷ i ∷ []) s r v e = let q = map_some (λ m. gives (BitVec (slice_width j i)) [] (slice_needs j i m)) (width s) r e in record { of = q.0; is = q.1 }
  word_family kind.Extract (j ∷ i ∷ k ∷ ix) s r v e = absurd (let never : ⊥ = cc in never)
  word_family kind.Extend [] s r v e = absurd (let never : ⊥ = cc in never)
  word_family kind.Extend (k ∷ []) s r v e = let q = map_some (λ m. gives (BitVec (add m k)) [] (k ∷ [])) (width s) r e in record { of = q.0; is = q.1 }
  word_family kind.Extend (j ∷ k ∷ ix) s r v e = absurd (let never : ⊥ = cc in never)
  word_family kind.Rotate [] s r v e = absurd (let never : ⊥ = cc in never)
  word_family kind.Rotate (k ∷ []) s r v e = let q = map_some (λ m. gives s [] (k ∷ [])) (width s) r e in record { of = q.0; is = q.1 }
  word_family kind.Rotate (j ∷ k ∷ ix) s r v e = absurd (let never : ⊥ = cc in never)
  word_family kind.Repeat [] s r v e = absurd (let never : ⊥ = cc in never)
  word_family kind.Repeat (k ∷ []) s r v e =
      let q = map_some (λ w. gives (BitVec w) [] (less_one k ∷ [])) (option_and_then (λ m. product k m) (width s)) r e in
      let f = then_some (λ m. product k m) (width s) q.0 q.1 in record { of = f.0; is = f.1 }
  word_family kind.Repeat (j ∷ k ∷ ix) s r v e = absurd (let never : ⊥ = cc in never)
  word_family f ix s r v e = absurd (let never : ⊥ = cc in never)

-- ---- what is asked of indices

nat_below : (m : ℤ) (w : ℕ) → pos 0 ≤ℤ m → pos 0 ≤ℤ ((pos w -ℤ pos 1) -ℤ m) → to_nat m < w
nat_below (pos k) w low h = omega (arith, ints, h)
nat_below (negsuc k) w low h = absurd (omega (arith, ints, low))

-- an index that is the number m
record IsIndex (x : LinearExpression) (m : ℤ) : Type 0 where
  is : x ≡ number m
  at_zero : linear_value (λ k. pos 0) x ≡ m

index_is : (x : LinearExpression) (m : ℤ) → number_in x ≡ Some m → IsIndex x m
index_is x m e = let q = number_is x m e in record { is = q; at_zero = ap (linear_value (λ k. pos 0)) q ∙ plus_nothing m }

module _ (symbols : ℕ → Option Signature) (lows : ℕ → ℤ) (have : List Constraint) where
  abbrev zeros : ℕ → ℤ
  zeros k = pos 0

  at_least : (x : LinearExpression) → NoName x → IsEntailed lows have x → pos 0 ≤ℤ linear_value zeros x
  at_least = number_holds lows zeros have

  index_holds : (x : LinearExpression) (m : ℤ) → IsIndex x m → IsEntailed lows have x → pos 0 ≤ℤ m
  index_holds x m q h = let a = at_least x (m, q.is) h in let b = q.at_zero in omega (arith, ints, a, b)

  slice_met : (j i : LinearExpression) (s : Sort) (r : SortRule) (v : Item) (m n : ℤ) → IsIndex j m → IsIndex i n →
      sort_rule symbols 2 kind.Extract (j ∷ i ∷ []) (s ∷ []) ≡ Some r → Each (IsEntailed lows have) r.needs → IsValueOf s v → (pos 0 ≤ℤ n) × (n ≤ℤ m) × (to_nat m < width_of v.sort)
  slice_met j i s r v m n qj qi e needs h =
      let q = map_some (λ w. gives (BitVec (slice_width j i)) [] (slice_needs j i w)) (width s) r e in
      let all = subst (λ z. Each (IsEntailed lows have) z.needs) (sym q.2) needs in
      let word = word_of s v q.0 q.1 h in
      let low = index_holds i n qi all.0 in
      let a = at_least (minus j i) (subst (λ y. NoName (minus j y)) (sym qi.is) (subst (λ x. NoName (minus x (number n))) (sym qj.is) (_, refl))) all.1.0 in
      let b = at_least (minus (less_one q.0) j) (subst (λ y. NoName (minus (less_one q.0) y)) (sym qj.is) (subst (λ x. NoName (minus (less_one x) (number m))) (sym word.named) (_, refl))) all.1.1.0 in
      let ja = qj.at_zero in
      let ia = qi.at_zero in
      let wa : linear_value zeros q.0 ≡ pos word.width = ap (linear_value zeros) word.named ∙ plus_nothing (pos word.width) in
      let ab = value-minus zeros j i in
      let bb = value-minus zeros (less_one q.0) j in
      let cb = value-less_one zeros q.0 in
      let order : n ≤ℤ m = omega (arith, ints, a, ab, ja, ia) in
      let high : pos 0 ≤ℤ ((pos word.width -ℤ pos 1) -ℤ m) = omega (arith, ints, b, bb, cb, ja, wa) in
      (low, order, subst (λ w. to_nat m < w) (sym (ap (λ x. width_of x.sort) word.is)) (nat_below m word.width (omega (arith, ints, low, order)) high))

  met : (h : Head) (ix : List LinearExpression) (s : Sort) (r : SortRule) (v : Item) (m n : ℤ) → number_at ix 0 ≡ Some m → number_at ix 1 ≡ Some n →
      sort_rule symbols 2 (family h) ix (s ∷ []) ≡ Some r → Each (IsEntailed lows have) r.needs → IsValueOf s v → AreMet h m n (width_of v.sort)
  met head.Extract (j ∷ i ∷ []) s r v m n a b e needs h = slice_met j i s r v m n (index_is j m a) (index_is i n b) e needs h
  met head.Extract [] s r v m n a b e needs h = absurd (let never : ⊥ = cc in never)
  met head.Extract (j ∷ []) s r v m n a b e needs h = absurd (let never : ⊥ = cc in never)
  met head.Extract (j ∷ i ∷ k ∷ ix) s r v m n a b e needs h = absurd (let never : ⊥ = cc in never)
  met head.ZeroExtend (k ∷ []) s r v m n a b e needs h =
      let q = map_some (λ w. gives (BitVec (add w k)) [] (k ∷ [])) (width s) r e in
      index_holds k m (index_is k m a) (subst (λ z. Each (IsEntailed lows have) z.needs) (sym q.2) needs).0
  met head.ZeroExtend [] s r v m n a b e needs h = absurd (let never : ⊥ = cc in never)
  met head.ZeroExtend (j ∷ k ∷ ix) s r v m n a b e needs h = absurd (let never : ⊥ = cc in never)
  met head.SignExtend (k ∷ []) s r v m n a b e needs h =
      let q = map_some (λ w. gives (BitVec (add w k)) [] (k ∷ [])) (width s) r e in
      index_holds k m (index_is k m a) (subst (λ z. Each (IsEntailed lows have) z.needs) (sym q.2) needs).0
  met head.SignExtend [] s r v m n a b e needs h = absurd (let never : ⊥ = cc in never)
  met head.SignExtend (j ∷ k ∷ ix) s r v m n a b e needs h = absurd (let never : ⊥ = cc in never)
  met head.RotateLeft (k ∷ []) s r v m n a b e needs h =
      let q = map_some (λ w. gives s [] (k ∷ [])) (width s) r e in
      index_holds k m (index_is k m a) (subst (λ z. Each (IsEntailed lows have) z.needs) (sym q.2) needs).0
  met head.RotateLeft [] s r v m n a b e needs h = absurd (let never : ⊥ = cc in never)
  met head.RotateLeft (j ∷ k ∷ ix) s r v m n a b e needs h = absurd (let never : ⊥ = cc in never)
  met head.RotateRight (k ∷ []) s r v m n a b e needs h =
      let q = map_some (λ w. gives s [] (k ∷ [])) (width s) r e in
      index_holds k m (index_is k m a) (subst (λ z. Each (IsEntailed lows have) z.needs) (sym q.2) needs).0
  met head.RotateRight [] s r v m n a b e needs h = absurd (let never : ⊥ = cc in never)
  met head.RotateRight (j ∷ k ∷ ix) s r v m n a b e needs h = absurd (let never : ⊥ = cc in never)
  met head.Repeat (k ∷ []) s r v m n a b e needs h =
      let q = map_some (λ w. gives (BitVec w) [] (less_one k ∷ [])) (option_and_then (λ w. product k w) (width s)) r e in
      let i = index_is k m a in
      let f = at_least (less_one k) (subst (λ x. NoName (less_one x)) (sym i.is) (_, refl)) (subst (λ z. Each (IsEntailed lows have) z.needs) (sym q.2) needs).0 in
      let g = value-less_one zeros k in
      let at = i.at_zero in
      omega (arith, ints, f, g, at)
  met head.Repeat [] s r v m n a b e needs h = absurd (let never : ⊥ = cc in never)
  met head.Repeat (j ∷ k ∷ ix) s r v m n a b e needs h = absurd (let never : ⊥ = cc in never)
  met h ix s r v m n a b e needs k = tt

  no_two : (ix : List LinearExpression) (s t : Sort) (r : SortRule) → sort_rule symbols 2 kind.Choice ix (s ∷ t ∷ []) ≡ Some r → ⊥
  no_two [] s t r e = let never : ⊥ = cc in never
  no_two (x ∷ ix) s t r e = let never : ⊥ = cc in never

  word_for : (h : Head) (ix : List LinearExpression) (s : Sort) (r : SortRule) (i : Item) → sort_rule symbols 2 (family h) ix (s ∷ []) ≡ Some r → IsValueOf s i → IsWordFor h i
  word_for h ix s r i e v w = let q = word_family symbols (family h) ix s r (word_heads h w) e in any_word s i q.of q.is v

  pub full : (h : Head) (ix : List LinearExpression) (ss : List Sort) (r : SortRule) (is : List Item) (m n : ℤ) → is_unvalued h ≡ false → number_at ix 0 ≡ Some m → number_at ix 1 ≡ Some n →
      sort_rule symbols 2 (family h) ix ss ≡ Some r → Each (IsEntailed lows have) r.needs → EachPair IsValueOf ss is → IsFull h m n is
  full h ix [] r [] m n u a b e needs vs = zero_heads h u (zero_family symbols (family h) ix r (valued_family h u) e)
  full h ix [] r (i ∷ is) m n u a b e needs vs = absurd vs
  full h ix (s ∷ ss) r [] m n u a b e needs vs = absurd vs
  full h ix (s ∷ []) r (i ∷ []) m n u a b e needs vs =
      (single_heads h u (single_family symbols (family h) ix s r (valued_family h u) e), word_for h ix s r i e vs.0, met h ix s r i m n a b e needs vs.0)
  full h ix (s ∷ []) r (i ∷ j ∷ is) m n u a b e needs vs = absurd vs.1
  full h ix (s ∷ t ∷ ss) r (i ∷ []) m n u a b e needs vs = absurd vs.1
  full h ix (s ∷ t ∷ []) r (i ∷ j ∷ []) m n u a b e needs vs = λ q. no_two ix s t r (subst (λ g. sort_rule symbols 2 (family g) ix (s ∷ t ∷ []) ≡ Some r) q e)
  full h ix (s ∷ t ∷ u ∷ ss) r (i ∷ j ∷ []) m n w a b e needs vs = absurd vs.1.1
  full h ix (s ∷ t ∷ []) r (i ∷ j ∷ k ∷ is) m n u a b e needs vs = tt
  full h ix (s ∷ t ∷ x ∷ ss) r (i ∷ j ∷ k ∷ is) m n u a b e needs vs = tt

  pub few_indices : (f : Family) (ix : List LinearExpression) (ss : List Sort) (r : SortRule) → sort_rule symbols 2 f ix ss ≡ Some r → length ix ≤ 2
  few_indices f [] ss r e = omega arith
  few_indices f (x ∷ []) ss r e = omega arith
  few_indices f (x ∷ y ∷ []) ss r e = omega arith
  few_indices (kind.Fixed c s t) (x ∷ y ∷ z ∷ ix) ss r e = absurd (let never : ⊥ = cc in never)
  few_indices kind.Alike (x ∷ y ∷ z ∷ ix) ss r e = absurd (let never : ⊥ = cc in never)
  few_indices kind.Choice (x ∷ y ∷ z ∷ ix) ss r e = absurd (let never : ⊥ = cc in never)
  few_indices kind.Select (x ∷ y ∷ z ∷ ix) ss r e = absurd (let never : ⊥ = cc in never)
  few_indices kind.Store (x ∷ y ∷ z ∷ ix) ss r e = absurd (let never : ⊥ = cc in never)
  few_indices (kind.BitVectors c o) (x ∷ y ∷ z ∷ ix) ss r e = absurd (let never : ⊥ = cc in never)
  few_indices kind.Concat (x ∷ y ∷ z ∷ ix) ss r e = absurd (let never : ⊥ = cc in never)
  few_indices kind.Extract (x ∷ y ∷ z ∷ ix) ss r e = absurd (let never : ⊥ = cc in never)
  few_indices kind.Extend (x ∷ y ∷ z ∷ ix) ss r e = absurd (let never : ⊥ = cc in never)
  few_indices kind.Rotate (x ∷ y ∷ z ∷ ix) ss r e = absurd (let never : ⊥ = cc in never)
  few_indices kind.Repeat (x ∷ y ∷ z ∷ ix) ss r e = absurd (let never : ⊥ = cc in never)
  few_indices kind.Bits (x ∷ y ∷ z ∷ ix) ss r e = absurd (let never : ⊥ = cc in never)
  few_indices kind.Literal (x ∷ y ∷ z ∷ ix) ss r e = absurd (let never : ⊥ = cc in never)
  few_indices (kind.Symbol k) (x ∷ y ∷ z ∷ ix) ss r e = absurd (let never : ⊥ = cc in never)
  few_indices kind.OfRules (x ∷ y ∷ z ∷ ix) ss r e = absurd (let never : ⊥ = cc in never)
