-- Operators on items of one sort.
use Rattle.std.proofs.Common.{◌≡◌, ℕ, ◌+◌, ◌^◌, ◌<◌, ◌≤◌, List, [], ◌∷◌, length, refl, sym, ap, subst, arith}
use Rattle.std.specs.Prelude.{fold}
use Rattle.rare_sort.specs.Each.{Each, EachPair}
use Rattle.rare_meaning.specs.Values.{Value, Truth, Whole, Bits, Element, Array, ClosedSort, BitVectors, Fits, bits_number, width_of}
use Rattle.rare_meaning.specs.Settings.{Item, group_of}
use Rattle.rare_meaning.specs.Splicing.{values, lead_sort, from_left, from_right, gathered}
use Rattle.rare_meaning.specs.Operators.{bits, on_two, on_all, concat_two, concat_all}
use Rattle.rare_meaning.specs.Fitting.{IsOf}
use Rattle.rare_bits.proofs.PartsLemmas.{concat-below}

number_below : (n : ℕ) (v : Value) → Fits v (BitVectors n) → bits_number v < 2 ^ n
number_below n (Bits w a) h = subst (λ m. a < 2 ^ m) h.0 (subst (λ m. a < 2 ^ m) (sym h.0) h.1)
number_below n (Truth b) h = absurd h
number_below n (Whole z) h = absurd h
number_below n (Element s m) h = absurd h
number_below n (Array m) h = absurd h

pub item_number : (n : ℕ) (i : Item) → IsOf (BitVectors n) i → bits_number i.value < 2 ^ n
item_number n i h = number_below n i.value h.fits

pub item_width : (n : ℕ) (i : Item) → IsOf (BitVectors n) i → width_of i.sort ≡ n
item_width n i h = ap width_of h.sorted

pub bits_fit : (n a : ℕ) → a < 2 ^ n → IsOf (BitVectors n) (bits n a)
bits_fit n a h = record { sorted = refl; fits = (refl, h) }

-- ---- all arguments of one sort

pub values_fit : (s : ClosedSort) (is : List Item) → Each (IsOf s) is → Each (λ v. Fits v s) (values is)
values_fit s [] h = tt
values_fit s (i ∷ is) h = (h.0.fits, values_fit s is h.1)

module _ (s : ClosedSort) (op : Value → Value → Value) (stays : (a b : Value) → Fits a s → Fits b s → Fits (op a b) s) where
  fold_fits : (x : Value) (vs : List Value) → Fits x s → Each (λ v. Fits v s) vs → Fits (fold op x vs) s
  fold_fits x [] h k = h
  fold_fits x (y ∷ ys) h k = fold_fits (op x y) ys (stays x y h k.0) k.1

  pub from_left_fits : (none : Value) → Fits none s → (vs : List Value) → Each (λ v. Fits v s) vs → Fits (from_left op none vs) s
  from_left_fits none h [] k = h
  from_left_fits none h (x ∷ xs) k = fold_fits x xs k.0 k.1

  pub from_right_fits : (none : Value) → Fits none s → (vs : List Value) → Each (λ v. Fits v s) vs → Fits (from_right op none vs) s
  from_right_fits none h [] k = h
  from_right_fits none h (x ∷ []) k = k.0
  from_right_fits none h (x ∷ y ∷ ys) k = stays x (from_right op none (y ∷ ys)) k.0 (from_right_fits none h (y ∷ ys) k.1)

  pub gathered_fits : (none : Value) → Fits none s → (is : List Item) → Each (IsOf s) is → IsOf s (gathered s op none is)
  gathered_fits none h [] k = record { sorted = refl; fits = h }
  gathered_fits none h (x ∷ []) k = k.0
  gathered_fits none h (x ∷ y ∷ ys) k =
      record { sorted = refl; fits = from_left_fits none h (values (x ∷ y ∷ ys)) (values_fit s (x ∷ y ∷ ys) k) }

pub lead_is : (s : ClosedSort) (el : ClosedSort) (is : List Item) → 1 ≤ length is → Each (IsOf s) is → lead_sort el is ≡ s
lead_is s el [] some h = absurd (omega arith)
lead_is s el (i ∷ is) some h = h.0.sorted

-- an operator on two bit vectors of one width gives one of this width
abbrev pub Stays : (ℕ → ℕ → ℕ → ℕ) → Type 0
Stays f = (n a b : ℕ) → a < 2 ^ n → b < 2 ^ n → f n a b < 2 ^ n

-- operators on lists of bit vectors
pub on_all_fits : (n : ℕ) (f : ℕ → ℕ → ℕ → ℕ) (none : ℕ → ℕ) → Stays f → none n < 2 ^ n →
    (el : ClosedSort) (is : List Item) → 1 ≤ length is → Each (IsOf (BitVectors n)) is → IsOf (BitVectors n) (on_all f none (group_of el is))
on_all_fits n f none stays none_in el is some h =
    subst (λ s. IsOf (BitVectors n) (gathered (BitVectors (width_of s)) (λ a b. Bits (width_of s) (f (width_of s) (bits_number a) (bits_number b))) (Bits (width_of s) (none (width_of s))) is)) (sym (lead_is (BitVectors n) el is some h))
    (gathered_fits (BitVectors n) (λ a b. Bits n (f n (bits_number a) (bits_number b))) (λ a b fa fb. (refl, stays n (bits_number a) (bits_number b) (number_below n a fa) (number_below n b fb))) (Bits n (none n)) (refl, none_in) is h)

-- operators on two bit vectors
pub on_two_fits : (n : ℕ) (f : ℕ → ℕ → ℕ → ℕ) → Stays f → (x y : Item) → IsOf (BitVectors n) x → IsOf (BitVectors n) y → IsOf (BitVectors n) (on_two f (x ∷ y ∷ []))
on_two_fits n f stays x y hx hy =
    rw (item_width n x hx) (bits_fit n (f n (bits_number x.value) (bits_number y.value)) (stays n (bits_number x.value) (bits_number y.value) (item_number n x hx) (item_number n y hy)))

-- ---- bit vectors of any widths, one after another

abbrev pub width_sum : List ℕ → ℕ
width_sum [] = 0
width_sum (n ∷ ns) = n + width_sum ns

concat_two_fits : (m n : ℕ) (x y : Item) → IsOf (BitVectors m) x → IsOf (BitVectors n) y → IsOf (BitVectors (m + n)) (concat_two x y)
concat_two_fits m n x y hx hy =
    rw (item_width m x hx, item_width n y hy)
    (record { sorted = refl; fits = (refl, concat-below m n (bits_number x.value) (bits_number y.value) (item_number m x hx) (item_number n y hy)) })

plus_none : (n : ℕ) → n + 0 ≡ n
plus_none n = omega arith

pub concat_fits : (ns : List ℕ) (is : List Item) → 1 ≤ length is → EachPair (λ n i. IsOf (BitVectors n) i) ns is → IsOf (BitVectors (width_sum ns)) (concat_all is)
concat_fits ns [] some h = absurd (omega arith)
concat_fits [] (x ∷ is) some h = absurd h
concat_fits (n ∷ []) (x ∷ []) some h = subst (λ m. IsOf (BitVectors m) x) (sym (plus_none n)) h.0
concat_fits (n ∷ m ∷ ns) (x ∷ []) some h = absurd h.1
concat_fits (n ∷ []) (x ∷ y ∷ is) some h = absurd h.1
concat_fits (n ∷ m ∷ ns) (x ∷ y ∷ is) some h = concat_two_fits n (width_sum (m ∷ ns)) x (concat_all (y ∷ is)) h.0 (concat_fits (m ∷ ns) (y ∷ is) (omega arith) h.1)
