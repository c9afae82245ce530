-- The rules of theory ArraysEx hold, over any sorts.
use Rattle.std.proofs.Common.{◌≡◌, ◌≢◌, ℕ, true, false, not, ◌&&◌, cond, [], ◌∷◌, IsTrue, ◌⊎◌, inl, inr, refl, ap, ◌∙◌, sym, subst}
use Rattle.std.specs.Prelude.{ℤ}
use Rattle.std.specs.FinMap.Entries.{is_sorted}
use Rattle.rare_sort.specs.declared.sort.Sort.{Sort, Named}
use Rattle.rare_sort.specs.declared.sort.Sort.TheVariants as sort
use Rattle.rare_sort.specs.declared.sort.Sort.TheBlock.{hidden-the_row-Sort-0}
use denote.Hole.Carrier
use Rattle.rare_meaning.specs.Values.{Value, Truth, Whole, Bits, Element, Array, Entries, no_entry, entry, ClosedSort, Arrays, Fits, FitEach, value_eq, value_order, entry_list, entry_at, written, zero_of}
use Rattle.rare_meaning.specs.ClosedSorts.{closed_sort}
use Rattle.rare_meaning.specs.Settings.{Group, Item, item, one}
use Rattle.rare_meaning.specs.Interpretations.{AnyFunctions}
use Rattle.rare_meaning.proofs.MeaningLemmas.{meaning-node}
use Rattle.rare_meaning.proofs.ValueLemmas.{HasNo, value_cases, value_eq-same, read_same, read_other, write_same, write_read, write_swap}
use Rattle.rare_rule.specs.Holds.{IsOneOf, Holds}
use Rattle.rare_laws_array.specs.ArrayRules.{arr_select_same, arr_select_other, arr_select_ite, arr_store_same, arr_store_select, arr_store_swap}

closed-array : (v : ℕ → ℤ) (names : ℕ → ClosedSort) (a b : Sort) → closed_sort v names (sort.Array a b) ≡ Arrays (closed_sort v names a) (closed_sort v names b)
unfolding hidden-the_row-Sort-0 denote.Hole.Carrier.hidden
closed-array v names a b = refl

-- with the value that a parameter is
with_value : {P : Type 0} (S : ClosedSort) (g : Group) → IsOneOf S g → ((v : Value) → g ≡ one (item S v) → P) → P
with_value S g h f = let i = h.only.0 in f i.value (h.only.1 ∙ ap (λ s. one (item s i.value)) h.only.2.sorted)

-- a value of an array's sort has entries in order
as_array : (v : Value) (K E : ClosedSort) → Fits v (Arrays K E) → (m : Entries) × (v ≡ Array m) × IsTrue (is_sorted value_order (entry_list m)) × FitEach m K E
as_array (Array m) K E h = (m, refl, h.0, h.1)
as_array (Truth b) K E h = absurd h
as_array (Whole z) K E h = absurd h
as_array (Bits w n) K E h = absurd h
as_array (Element s n) K E h = absurd h

-- with the entries that an array parameter has
with_entries : {P : Type 0} (v : ℕ → ℤ) (names : ℕ → ClosedSort) (a b : Sort) (g : Group) → IsOneOf (closed_sort v names (sort.Array a b)) g →
    ((m : Entries) → g ≡ one (item (Arrays (closed_sort v names a) (closed_sort v names b)) (Array m)) → IsTrue (is_sorted value_order (entry_list m)) → FitEach m (closed_sort v names a) (closed_sort v names b) → P) →
    P
with_entries v names a b g h f =
    let i = h.only.0 in
    let e = closed-array v names a b in
    let m = as_array i.value (closed_sort v names a) (closed_sort v names b) (subst (Fits i.value) e h.only.2.fits) in
    let sorted = h.only.2.sorted ∙ e in
    f m.0 (h.only.1 ∙ (λ k. one (item (sorted k) (m.1 k)))) m.2 m.3

-- no entry of an array is the zero of its entries' sort
no_zero : (K E : ClosedSort) (m : Entries) → FitEach m K E → HasNo (zero_of E) (entry_list m)
no_zero K E no_entry h = tt
no_zero K E (entry k v m) h = (h.2, no_zero K E m h.3)

-- what the premise says
apart : (a b : Value) → Truth (not (value_eq a b && true)) ∷ [] ≡ Truth true ∷ [] → a ≢ b
apart a b h e =
    let g = subst (λ t. Truth (not (t && true)) ∷ [] ≡ Truth true ∷ []) (value_eq-same a b e) h in
    cc

unequal : (a b : Value) → a ≢ b → value_eq b a ≡ false
unequal a b h = go (value_cases b a)
  where
    go : ((value_eq b a ≡ true) × (b ≡ a)) ⊎ ((value_eq b a ≡ false) × (b ≢ a)) → value_eq b a ≡ false
    go (inl p) = absurd (h (sym p.1))
    go (inr p) = p.0

-- reading over writing, at any index
read_any : (c : ClosedSort) (z k q v : Value) (m : Entries) →
    item c (entry_at z q (written z k v m)) ≡ cond (value_eq k q && true) (item c v) (item c (entry_at z q m))
read_any c z k q v m = go (value_cases k q)
  where
    go : ((value_eq k q ≡ true) × (k ≡ q)) ⊎ ((value_eq k q ≡ false) × (k ≢ q)) → item c (entry_at z q (written z k v m)) ≡ cond (value_eq k q && true) (item c v) (item c (entry_at z q m))
    go (inl p) =
        ap (λ r. item c (entry_at z r (written z k v m))) (sym p.1) ∙ ap (item c) (read_same z k v m)
        ∙ sym (ap (λ b. cond (b && true) (item c v) (item c (entry_at z q m))) p.0)
    go (inr p) =
        ap (item c) (read_other z k q v m (unequal k q p.1)) ∙ sym (ap (λ b. cond (b && true) (item c v) (item c (entry_at z q m))) p.0)

pub arr_select_same_holds : Holds AnyFunctions arr_select_same []
arr_select_same_holds = record {
  same = λ e names counts d p.
      with_entries e.number names (Named 0) (Named 1) (e.group 2) d.suits.1.1.0 (λ m t_is sorted fits.
      with_value (names 0) (e.group 3) d.suits.1.1.1.0 (λ i i_is.
      with_value (names 1) (e.group 4) d.suits.1.1.1.1.0 (λ u u_is.
      simp (meaning-node, t_is, i_is, u_is) (ap (λ v. v ∷ []) (read_same (zero_of (names 1)) i u m)))));
}

pub arr_select_other_holds : Holds AnyFunctions arr_select_other []
arr_select_other_holds = record {
  same = λ e names counts d p.
      with_entries e.number names (Named 0) (Named 1) (e.group 2) d.suits.1.1.0 (λ m t_is sorted fits.
      with_value (names 0) (e.group 3) d.suits.1.1.1.0 (λ i i_is.
      with_value (names 0) (e.group 4) d.suits.1.1.1.1.0 (λ j j_is.
      with_value (names 1) (e.group 5) d.suits.1.1.1.1.1.0 (λ u u_is.
      let premise = simp (meaning-node, i_is, j_is) at p.0 in
      simp (meaning-node, t_is, i_is, j_is, u_is) (ap (λ v. v ∷ []) (read_other (zero_of (names 1)) i j u m (unequal i j (apart i j premise))))))));
}

pub arr_select_ite_holds : Holds AnyFunctions arr_select_ite []
arr_select_ite_holds = record {
  same = λ e names counts d p.
      with_entries e.number names (Named 0) (Named 1) (e.group 2) d.suits.1.1.0 (λ m t_is sorted fits.
      with_value (names 0) (e.group 3) d.suits.1.1.1.0 (λ i i_is.
      with_value (names 0) (e.group 4) d.suits.1.1.1.1.0 (λ j j_is.
      with_value (names 1) (e.group 5) d.suits.1.1.1.1.1.0 (λ u u_is.
      simp (meaning-node, t_is, i_is, j_is, u_is) (ap (λ (r : Item). r.value ∷ []) (read_any (names 1) (zero_of (names 1)) i j u m))))));
}

pub arr_store_same_holds : Holds AnyFunctions arr_store_same []
arr_store_same_holds = record {
  same = λ e names counts d p.
      with_entries e.number names (Named 0) (Named 1) (e.group 2) d.suits.1.1.0 (λ m t_is sorted fits.
      with_value (names 0) (e.group 3) d.suits.1.1.1.0 (λ i i_is.
      with_value (names 1) (e.group 4) d.suits.1.1.1.1.0 (λ u u_is.
      with_value (names 1) (e.group 5) d.suits.1.1.1.1.1.0 (λ v v_is.
      simp (meaning-node, t_is, i_is, u_is, v_is) (ap (λ r. Array r ∷ []) (write_same (zero_of (names 1)) i u v m sorted))))));
}

pub arr_store_select_holds : Holds AnyFunctions arr_store_select []
arr_store_select_holds = record {
  same = λ e names counts d p.
      with_entries e.number names (Named 0) (Named 1) (e.group 2) d.suits.1.1.0 (λ m t_is sorted fits.
      with_value (names 0) (e.group 3) d.suits.1.1.1.0 (λ i i_is.
      simp (meaning-node, t_is, i_is) (ap (λ r. Array r ∷ []) (write_read (zero_of (names 1)) i m sorted (no_zero (names 0) (names 1) m fits)))));
}

pub arr_store_swap_holds : Holds AnyFunctions arr_store_swap []
arr_store_swap_holds = record {
  same = λ e names counts d p.
      with_entries e.number names (Named 0) (Named 1) (e.group 2) d.suits.1.1.0 (λ m t_is sorted fits.
      with_value (names 0) (e.group 3) d.suits.1.1.1.0 (λ i i_is.
      with_value (names 0) (e.group 4) d.suits.1.1.1.1.0 (λ j j_is.
      with_value (names 1) (e.group 5) d.suits.1.1.1.1.1.0 (λ u u_is.
      with_value (names 1) (e.group 6) d.suits.1.1.1.1.1.1.0 (λ v v_is.
      let premise = simp (meaning-node, i_is, j_is) at p.0 in
      simp (meaning-node, t_is, i_is, j_is, u_is, v_is) (ap (λ r. Array r ∷ []) (write_swap (zero_of (names 1)) i j u v m sorted (apart i j premise))))))));
}
