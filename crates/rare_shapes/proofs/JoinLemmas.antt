-- What a join of bit vectors of any widths is.
use Rattle.std.proofs.Common.{◌≡◌, ℕ, ◌+◌, ◌*◌, ◌^◌, ◌<◌, List, [], ◌∷◌, ◌++◌, All, refl, sym, ap, ◌∙◌, subst, arith}
use Rattle.std.proofs.lemmas.List.Elements.{All-nil, All-head, All-tail, All-append, All-cons}
use Rattle.rare_bits.specs.Bits.{concat}
use Rattle.rare_bits.proofs.PartsLemmas.{concat-below, concat_assoc}
use Rattle.rare_meaning.specs.Values.{Value, Truth, Whole, Bits, Element, Array, BitVectors, Fits, bits_number, width_of}
use Rattle.rare_meaning.specs.Settings.{Item, item}
use Rattle.rare_meaning.specs.Operators.{bits, concat_all, concat_two}
use Rattle.rare_meaning.specs.Fitting.{IsOf}
use Rattle.rare_rule.specs.Holds.{IsBitVector, total_width}
use Rattle.rare_shapes.specs.TheOperators.{joined_number}

-- a bit vector of some width, which may be 0
pub record IsWide (i : Item) : Type 0 where
  pub width : ℕ
  pub is : IsOf (BitVectors width) i

pub wide_each : (is : List Item) → All IsBitVector is → All IsWide is
wide_each [] h = All-nil IsWide
wide_each (i ∷ is) h =
    let first = All-head IsBitVector i is h in
    All-cons IsWide i is (record { width = first.width; is = first.is }) (wide_each is (All-tail IsBitVector i is h))

word_value : (n : ℕ) (v : Value) → Fits v (BitVectors n) → (v ≡ Bits n (bits_number v)) × (bits_number v < 2 ^ n)
word_value n (Truth b) h = absurd h
word_value n (Whole z) h = absurd h
word_value n (Bits w a) h = (ap (λ k. Bits k a) h.0, h.1)
word_value n (Element s a) h = absurd h
word_value n (Array m) h = absurd h

-- a word is its number at its width
pub item_word : (n : ℕ) (i : Item) → IsOf (BitVectors n) i → (i ≡ bits n (bits_number i.value)) × (bits_number i.value < 2 ^ n)
item_word n i h =
    let w = word_value n i.value h.fits in
    (λ t. item (h.sorted t) (w.0 t), w.1)

pub bits_of : (n a : ℕ) → a < 2 ^ n → IsOf (BitVectors n) (bits n a)
bits_of n a lt = record { sorted = refl; fits = (refl, lt) }

pub wide_word : (i : Item) → IsWide i → (i ≡ bits (width_of i.sort) (bits_number i.value)) × (bits_number i.value < 2 ^ width_of i.sort)
wide_word i h =
    let w = item_word h.width i h.is in
    let e : h.width ≡ width_of i.sort = sym (ap width_of h.is.sorted) in
    (w.0 ∙ ap (λ n. bits n (bits_number i.value)) e, subst (λ n. bits_number i.value < 2 ^ n) e w.1)

-- a join of words is the word of its number and its total width
pub join_is : (is : List Item) → All IsWide is → concat_all is ≡ bits (total_width is) (joined_number is)
join_is [] h = refl
join_is (x ∷ []) h = (wide_word x (All-head IsWide x [] h)).0 ∙ (λ t. bits (whole t) (same t))
  where
    whole : width_of x.sort ≡ width_of x.sort + 0
    whole = omega arith

    same : bits_number x.value ≡ bits_number x.value * 1 + 0
    same = omega arith
join_is (x ∷ y ∷ ys) h = ap (concat_two x) (join_is (y ∷ ys) (All-tail IsWide x (y ∷ ys) h))

pub joined-below : (is : List Item) → All IsWide is → joined_number is < 2 ^ total_width is
joined-below [] h = omega arith
joined-below (x ∷ xs) h =
    concat-below (width_of x.sort) (total_width xs) (bits_number x.value) (joined_number xs) (wide_word x (All-head IsWide x xs h)).1 (joined-below xs (All-tail IsWide x xs h))

pub total_width-append : (xs ys : List Item) → total_width (xs ++ ys) ≡ total_width xs + total_width ys
total_width-append [] ys = omega arith
total_width-append (x ∷ xs) ys = omega (arith, total_width-append xs ys)

-- the number of two lists is one above the other
pub joined-append : (xs ys : List Item) → joined_number (xs ++ ys) ≡ concat (joined_number xs) (total_width ys) (joined_number ys)
joined-append [] ys = omega arith
joined-append (x ∷ xs) ys =
    (λ t. concat (bits_number x.value) (total_width-append xs ys t) (joined-append xs ys t))
    ∙ sym (concat_assoc (total_width xs) (total_width ys) (bits_number x.value) (joined_number xs) (joined_number ys))

-- two neighbours may be exchanged for one word with their bits
module _ (a b c : Item) (widths : width_of a.sort + width_of b.sort ≡ width_of c.sort)
    (numbers : concat (bits_number a.value) (width_of b.sort) (bits_number b.value) ≡ bits_number c.value) where
  total_width-merge : (us vs : List Item) → total_width (us ++ a ∷ b ∷ vs) ≡ total_width (us ++ c ∷ vs)
  total_width-merge [] vs = omega (arith, widths)
  total_width-merge (u ∷ us) vs = ap (λ n. width_of u.sort + n) (total_width-merge us vs)

  joined-merge : (us vs : List Item) → joined_number (us ++ a ∷ b ∷ vs) ≡ joined_number (us ++ c ∷ vs)
  joined-merge [] vs =
      sym (concat_assoc (width_of b.sort) (total_width vs) (bits_number a.value) (bits_number b.value) (joined_number vs))
      ∙ ap (λ n. concat n (total_width vs) (joined_number vs)) numbers
  joined-merge (u ∷ us) vs = λ t. concat (bits_number u.value) (total_width-merge us vs t) (joined-merge us vs t)

  pub join-merge : (us vs : List Item) → All IsWide us → IsWide a → IsWide b → IsWide c → All IsWide vs →
      concat_all (us ++ a ∷ b ∷ vs) ≡ concat_all (us ++ c ∷ vs)
  join-merge us vs hu ha hb hc hv =
      join_is (us ++ a ∷ b ∷ vs) (All-append IsWide us (a ∷ b ∷ vs) hu (All-cons IsWide a (b ∷ vs) ha (All-cons IsWide b vs hb hv)))
      ∙ (λ t. bits (total_width-merge us vs t) (joined-merge us vs t))
      ∙ sym (join_is (us ++ c ∷ vs) (All-append IsWide us (c ∷ vs) hu (All-cons IsWide c vs hc hv)))

-- one word above a list, and one below it
pub join-first : (m a : ℕ) (us : List Item) → a < 2 ^ m → All IsWide us →
    concat_all (bits m a ∷ us) ≡ bits (m + total_width us) (concat a (total_width us) (joined_number us))
join-first m a us lt h = join_is (bits m a ∷ us) (All-cons IsWide (bits m a) us (record { width = m; is = bits_of m a lt }) h)

pub join-last : (m a : ℕ) (us : List Item) → a < 2 ^ m → All IsWide us →
    concat_all (us ++ bits m a ∷ []) ≡ bits (total_width us + m) (concat (joined_number us) m a)
join-last m a us lt h =
    let width : total_width (us ++ bits m a ∷ []) ≡ total_width us + m = omega (arith, total_width-append us (bits m a ∷ [])) in
    let deep : m + 0 ≡ m = omega arith in
    let alone : concat a 0 0 ≡ a = omega arith in
    let number : joined_number (us ++ bits m a ∷ []) ≡ concat (joined_number us) m a =
    joined-append us (bits m a ∷ []) ∙ (λ t. concat (joined_number us) (deep t) (alone t)) in
    join_is (us ++ bits m a ∷ []) (All-append IsWide us (bits m a ∷ []) h (All-cons IsWide (bits m a) [] (record { width = m; is = bits_of m a lt }) (All-nil IsWide)))
    ∙ (λ t. bits (width t) (number t))
