-- Values that are written alike are one value, and arrays that answer alike are one array.
use Rattle.std.proofs.Common.{◌≡◌, ℕ, Bool, true, false, not, cond, List, [], ◌∷◌, ◌++◌, Option, Some, None, unwrap_or, IsTrue, T, refl, sym, ap, ◌∙◌, arith, ◌⊎◌, inl, inr, ◌≢◌}
use Rattle.std.proofs.lemmas.List.{append_assoc}
use Rattle.std.specs.Prelude.{ℤ, pos, negsuc, get_or, drop}
use Rattle.std.specs.declared.cmp.Ordering.{Ordering}
use Rattle.std.specs.declared.cmp.Ordering.TheVariants.{Less, Equal, Greater}
use Rattle.std.specs.Ordering.{is_eq}
use Rattle.std.specs.Cmp.{IsTotalOrder, tied_itself, on_total}
use Rattle.std.specs.Cmp.Lexicographic.{nat_list_cmp_total}
use Rattle.std.specs.FinMap.{slice_cmp-IsAntisymmetric, nat_cmp-IsAntisymmetric}
use Rattle.std.specs.FinMap.Entries.{find, put, where_key, is_sorted, find-put, find-where_key, is_sorted-put, is_sorted-where_key, same_entries}
use Rattle.rare_meaning.specs.Values.{Value, Truth, Whole, Bits, Element, Array, Entries, no_entry, entry, spelled, spelled_entries, spelled_int, bit_of, value_order, value_eq, entry_list, entries_from, entry_at, written_list, written}

same_bit : (a b : Bool) → bit_of a ≡ bit_of b → a ≡ b
same_bit true true e = refl
same_bit false false e = refl
same_bit true false e = absurd (omega arith)
same_bit false true e = absurd (omega arith)

same_int : (a b : ℤ) (xs ys : List ℕ) → spelled_int a ++ xs ≡ spelled_int b ++ ys → (a ≡ b) × (xs ≡ ys)
same_int (pos a) (pos b) xs ys e = (ap pos (ap (λ l. get_or l 1 0) e), ap (drop 2) e)
same_int (negsuc a) (negsuc b) xs ys e = (ap negsuc (ap (λ l. get_or l 1 0) e), ap (drop 2) e)
same_int (pos a) (negsuc b) xs ys e = absurd (omega (arith, ap (λ l. get_or l 0 0) e))
same_int (negsuc a) (pos b) xs ys e = absurd (omega (arith, ap (λ l. get_or l 0 0) e))

regroup : (a b c d : List ℕ) → (a ++ (b ++ c)) ++ d ≡ a ++ (b ++ (c ++ d))
regroup a b c d = append_assoc a (b ++ c) d ∙ ap (λ r. a ++ r) (append_assoc b c d)

mutual
  same_value : (a b : Value) (xs ys : List ℕ) → spelled a ++ xs ≡ spelled b ++ ys → (a ≡ b) × (xs ≡ ys)
  same_value (Truth a) (Truth b) xs ys e = (ap Truth (same_bit a b (ap (λ l. get_or l 1 0) e)), ap (drop 2) e)
  same_value (Whole a) (Whole b) xs ys e = let r = same_int a b xs ys (ap (drop 1) e) in (ap Whole r.0, r.1)
  same_value (Bits v a) (Bits w b) xs ys e =
      (λ i. Bits (ap (λ l. get_or l 1 0) e i) (ap (λ l. get_or l 2 0) e i), ap (drop 3) e)
  same_value (Element v a) (Element w b) xs ys e =
      (λ i. Element (ap (λ l. get_or l 1 0) e i) (ap (λ l. get_or l 2 0) e i), ap (drop 3) e)
  same_value (Array m) (Array n) xs ys e = let r = same_each m n xs ys (ap (drop 1) e) in (ap Array r.0, r.1)
  same_value _ _ xs ys e = absurd (omega (arith, ap (λ l. get_or l 0 0) e))

  same_each : (m n : Entries) (xs ys : List ℕ) → spelled_entries m ++ xs ≡ spelled_entries n ++ ys → (m ≡ n) × (xs ≡ ys)
  same_each no_entry no_entry xs ys e = (refl, ap (drop 1) e)
  same_each (entry k v m) (entry l w n) xs ys e =
      let parts = sym (regroup (spelled k) (spelled v) (spelled_entries m) xs) ∙ ap (drop 1) e ∙ regroup (spelled l) (spelled w) (spelled_entries n) ys in
      let a = same_value k l _ _ parts in
      let b = same_value v w _ _ a.1 in
      let c = same_each m n xs ys b.1 in
      (λ i. entry (a.0 i) (b.0 i) (c.0 i), c.1)
  same_each no_entry (entry l w n) xs ys e = absurd (omega (arith, ap (λ l. get_or l 0 0) e))
  same_each (entry k v m) no_entry xs ys e = absurd (omega (arith, ap (λ l. get_or l 0 0) e))

pub value_total : IsTotalOrder value_order
value_total = on_total spelled nat_list_cmp_total

pub same_from_order : (a b : Value) → value_order a b ≡ Equal → a ≡ b
same_from_order a b e =
    (same_value a b [] [] (ap (λ l. l ++ []) (slice_cmp-IsAntisymmetric nat_cmp-IsAntisymmetric (spelled a) (spelled b) e))).0

equal : (r : Ordering) → is_eq r ≡ true → r ≡ Equal
equal Less e = cc
equal Equal e = refl
equal Greater e = cc

-- the test of equality
pub value_eq-true : (a b : Value) → value_eq a b ≡ true → a ≡ b
value_eq-true a b e = same_from_order a b (equal (value_order a b) e)

pub value_eq_refl : (a : Value) → value_eq a a ≡ true
value_eq_refl a = ap is_eq (tied_itself value_total a)

pub value_eq-same : (a b : Value) → a ≡ b → value_eq a b ≡ true
value_eq-same a b e = ap (value_eq a) (sym e) ∙ value_eq_refl a

-- cases on whether two values are equal
pub value_cases : (a b : Value) → ((value_eq a b ≡ true) × (a ≡ b)) ⊎ ((value_eq a b ≡ false) × (a ≢ b))
value_cases a b = go (value_eq a b) refl
  where
    go : (t : Bool) → value_eq a b ≡ t → ((value_eq a b ≡ true) × (a ≡ b)) ⊎ ((value_eq a b ≡ false) × (a ≢ b))
    go true e = inl (e, value_eq-true a b e)
    go false e = inr (e, λ same. let t = value_eq-same a b same in cc)

entry_list-from : (es : List (Value × Value)) → entry_list (entries_from es) ≡ es
entry_list-from [] = refl
entry_list-from (e ∷ es) = ap (λ r. e ∷ r) (entry_list-from es)

from-entry_list : (m : Entries) → entries_from (entry_list m) ≡ m
from-entry_list no_entry = refl
from-entry_list (entry k v m) = ap (entry k v) (from-entry_list m)

-- what is kept of a value that is written
abbrev pub kept : Value → Value → Option Value
kept z v = cond (value_eq v z) None (Some v)

not-eq : (b : Bool) (x y : Option Value) → cond (not b) x y ≡ cond b y x
not-eq true x y = refl
not-eq false x y = refl

answers_alike : (k q x : Value) → value_order q x ≡ Equal → not (value_eq k x) ≡ not (value_eq k q)
answers_alike k q x e = ap (λ r. not (value_eq k r)) (sym (same_from_order q x e))

eq_swap : (a b : Value) → value_eq a b ≡ value_eq b a
eq_swap a b = go (value_cases a b) (value_cases b a)
  where
    go : ((value_eq a b ≡ true) × (a ≡ b)) ⊎ ((value_eq a b ≡ false) × (a ≢ b)) → ((value_eq b a ≡ true) × (b ≡ a)) ⊎ ((value_eq b a ≡ false) × (b ≢ a)) → value_eq a b ≡ value_eq b a
    go (inl p) (inl q) = p.0 ∙ sym q.0
    go (inl p) (inr q) = absurd (q.1 (sym p.1))
    go (inr p) (inl q) = absurd (p.1 (sym q.1))
    go (inr p) (inr q) = p.0 ∙ sym q.0

pub find-written : (z k v q : Value) (es : List (Value × Value)) →
    find value_order q (written_list z k v es) ≡ cond (value_eq q k) (kept z v) (find value_order q es)
find-written z k v q es = go (value_eq v z) refl
  where
    go : (t : Bool) → value_eq v z ≡ t →
        find value_order q (cond t (where_key value_order (λ x. not (value_eq k x)) es) (put value_order k v es)) ≡ cond (value_eq q k) (cond t None (Some v)) (find value_order q es)
    go true e =
        find-where_key value_order (λ x. not (value_eq k x)) q (answers_alike k q) es
        ∙ not-eq (value_eq k q) (find value_order q es) None
        ∙ ap (λ b. cond b None (find value_order q es)) (eq_swap k q)
    go false e = find-put value_order value_total q k v es

to_T : (b : Bool) → b ≡ true → T b
to_T true e = tt
to_T false e = cc

from_T : (b : Bool) → T b → b ≡ true
from_T true e = refl
from_T false e = absurd e

pub is_sorted-written : (z k v : Value) (es : List (Value × Value)) → IsTrue (is_sorted value_order es) → IsTrue (is_sorted value_order (written_list z k v es))
is_sorted-written z k v es h = go (value_eq v z)
  where
    sorted : T (is_sorted value_order es)
    sorted = to_T (is_sorted value_order es) h

    go : (t : Bool) → is_sorted value_order (cond t (where_key value_order (λ x. not (value_eq k x)) es) (put value_order k v es)) ≡ true
    go true = from_T _ (is_sorted-where_key value_order (λ x. not (value_eq k x)) es sorted)
    go false = from_T _ (is_sorted-put value_order value_total k v es sorted)

-- two arrays in order that answer alike are one
pub same_array : (m n : Entries) → IsTrue (is_sorted value_order (entry_list m)) → IsTrue (is_sorted value_order (entry_list n)) →
    ((q : Value) → find value_order q (entry_list m) ≡ find value_order q (entry_list n)) → m ≡ n
same_array m n g h is =
    sym (from-entry_list m) ∙ ap entries_from (same_entries value_order value_total same_from_order (entry_list m) (entry_list n) (to_T _ g) (to_T _ h) is) ∙ from-entry_list n

-- no entry is the zero
abbrev pub HasNo : Value → List (Value × Value) → Type 0
HasNo z [] = Unit {0}
HasNo z (e ∷ es) = (value_eq e.1 z ≡ false) × HasNo z es

pub kept-find : (z q : Value) (es : List (Value × Value)) → HasNo z es → kept z (unwrap_or (find value_order q es) z) ≡ find value_order q es
kept-find z q [] h = ap (λ t. cond t None (Some z)) (value_eq_refl z)
kept-find z q (e ∷ es) h = go (value_eq q e.0) (kept-find z q es h.1)
  where
    go : (t : Bool) → kept z (unwrap_or (find value_order q es) z) ≡ find value_order q es → kept z (unwrap_or (cond t (Some e.1) (find value_order q es)) z) ≡ cond t (Some e.1) (find value_order q es)
    go true rest = ap (λ t. cond t None (Some e.1)) h.0
    go false rest = rest

unwrap-kept : (z v : Value) → unwrap_or (kept z v) z ≡ v
unwrap-kept z v = go (value_eq v z) refl
  where
    go : (t : Bool) → value_eq v z ≡ t → unwrap_or (cond t None (Some v)) z ≡ v
    go true e = sym (value_eq-true v z e)
    go false e = refl

module _ (z : Value) where
  find-in : (k v q : Value) (m : Entries) → find value_order q (entry_list (written z k v m)) ≡ cond (value_eq q k) (kept z v) (find value_order q (entry_list m))
  find-in k v q m = ap (find value_order q) (entry_list-from (written_list z k v (entry_list m))) ∙ find-written z k v q (entry_list m)

  pub sorted-in : (k v : Value) (m : Entries) → IsTrue (is_sorted value_order (entry_list m)) → IsTrue (is_sorted value_order (entry_list (written z k v m)))
  sorted-in k v m h = ap (is_sorted value_order) (entry_list-from (written_list z k v (entry_list m))) ∙ is_sorted-written z k v (entry_list m) h

  -- reading over writing
  pub read_same : (k v : Value) (m : Entries) → entry_at z k (written z k v m) ≡ v
  read_same k v m =
      ap (λ o. unwrap_or o z) (find-in k v k m ∙ ap (λ t. cond t (kept z v) (find value_order k (entry_list m))) (value_eq_refl k)) ∙ unwrap-kept z v

  pub read_other : (k q v : Value) (m : Entries) → value_eq q k ≡ false → entry_at z q (written z k v m) ≡ entry_at z q m
  read_other k q v m e = ap (λ o. unwrap_or o z) (find-in k v q m ∙ ap (λ t. cond t (kept z v) (find value_order q (entry_list m))) e)

  twice : (t : Bool) (x y w : Option Value) → cond t x (cond t y w) ≡ cond t x w
  twice true x y w = refl
  twice false x y w = refl

  pub write_same : (k u v : Value) (m : Entries) → IsTrue (is_sorted value_order (entry_list m)) → written z k v (written z k u m) ≡ written z k v m
  write_same k u v m h =
      same_array _ _ (sorted-in k v _ (sorted-in k u m h)) (sorted-in k v m h) (λ q.
      find-in k v q (written z k u m)
      ∙ ap (cond (value_eq q k) (kept z v)) (find-in k u q m)
      ∙ twice (value_eq q k) (kept z v) (kept z u) (find value_order q (entry_list m))
      ∙ sym (find-in k v q m))

  pub write_read : (k : Value) (m : Entries) → IsTrue (is_sorted value_order (entry_list m)) → HasNo z (entry_list m) → written z k (entry_at z k m) m ≡ m
  write_read k m h full = same_array _ _ (sorted-in k _ m h) h (λ q. find-in k _ q m ∙ back q (value_eq q k) refl)
    where
      back : (q : Value) (t : Bool) → value_eq q k ≡ t → cond t (kept z (entry_at z k m)) (find value_order q (entry_list m)) ≡ find value_order q (entry_list m)
      back q true e = kept-find z k (entry_list m) full ∙ ap (λ x. find value_order x (entry_list m)) (sym (value_eq-true q k e))
      back q false e = refl

  pub write_swap : (k l u v : Value) (m : Entries) → IsTrue (is_sorted value_order (entry_list m)) → k ≢ l → written z l v (written z k u m) ≡ written z k u (written z l v m)
  write_swap k l u v m h apart =
      same_array _ _ (sorted-in l v _ (sorted-in k u m h)) (sorted-in k u _ (sorted-in l v m h)) (λ q.
      find-in l v q (written z k u m)
      ∙ ap (cond (value_eq q l) (kept z v)) (find-in k u q m)
      ∙ turned q (value_eq q l) (value_eq q k) refl refl
      ∙ sym (find-in k u q (written z l v m) ∙ ap (cond (value_eq q k) (kept z u)) (find-in l v q m)))
    where
      turned : (q : Value) (s t : Bool) → value_eq q l ≡ s → value_eq q k ≡ t →
          cond s (kept z v) (cond t (kept z u) (find value_order q (entry_list m))) ≡ cond t (kept z u) (cond s (kept z v) (find value_order q (entry_list m)))
      turned q true true a b = absurd (apart (sym (value_eq-true q k b) ∙ value_eq-true q l a))
      turned q true false a b = refl
      turned q false t a b = refl
