-- The axioms of the theory ArraysEx.
use Rattle.std.proofs.Common.{◌≡◌, ◌≢◌, Bool, true, false, cond, Some, None, inl, inr, ◌⊎◌, refl, sym, ap, ◌∙◌, subst}
use Rattle.std.specs.FinMap.Entries.{find}
use Rattle.rare_meaning.specs.Values.{Value, Array, Entries, no_entry, entry, ClosedSort, Arrays, zero_of, value_order, value_eq, entry_list, entry_at, written, Fits, FitEach}
use Rattle.rare_meaning.specs.MeaningLaws.{ArrayAxioms}
use Rattle.rare_meaning.proofs.ValueLemmas.{value_eq-true, value_cases, kept, HasNo, kept-find, same_array, read_same, read_other}

read_beside : (zero k q v : Value) (m : Entries) → q ≢ k → entry_at zero q (written zero k v m) ≡ entry_at zero q m
read_beside zero k q v m apart =
    elim (value_cases q k) [ inl same ↦ absurd (apart same.1) | inr other ↦ read_other zero k q v m other.0 ]

module _ (k s : ClosedSort) where
  full : (m : Entries) → FitEach m k s → HasNo (zero_of s) (entry_list m)
  full no_entry h = tt
  full (entry a v m) h = (h.2, full m h.3)

  -- a key that has an entry is of the sort of the keys
  found_key : (m : Entries) → FitEach m k s → (q : Value) → (find value_order q (entry_list m) ≡ None) ⊎ Fits q k
  found_key no_entry h q = inl refl
  found_key (entry a v m) h q = go (value_eq q a) refl (found_key m h.3 q)
    where
      go : (t : Bool) → value_eq q a ≡ t → (find value_order q (entry_list m) ≡ None) ⊎ Fits q k → (cond t (Some v) (find value_order q (entry_list m)) ≡ None) ⊎ Fits q k
      go true e rest = inr (subst (λ x. Fits x k) (sym (value_eq-true q a e)) h.0)
      go false e rest = rest

  extensional : (m n : Entries) → Fits (Array m) (Arrays k s) → Fits (Array n) (Arrays k s) →
      ((q : Value) → Fits q k → entry_at (zero_of s) q m ≡ entry_at (zero_of s) q n) → m ≡ n
  extensional m n hm hn alike = same_array m n hm.0 hn.0 answers
    where
      by_entry : (q : Value) → Fits q k → find value_order q (entry_list m) ≡ find value_order q (entry_list n)
      by_entry q fits =
          sym (kept-find (zero_of s) q (entry_list m) (full m hm.1))
          ∙ ap (kept (zero_of s)) (alike q fits)
          ∙ kept-find (zero_of s) q (entry_list n) (full n hn.1)

      answers : (q : Value) → find value_order q (entry_list m) ≡ find value_order q (entry_list n)
      answers q =
          elim (found_key m hm.1 q) [
            | inr fits ↦ by_entry q fits
            | inl none ↦ elim (found_key n hn.1 q) [ inr fits ↦ by_entry q fits | inl nor ↦ none ∙ sym nor ]
          ]

pub array_axioms : ArrayAxioms
array_axioms = record { read_written = read_same; read_beside = read_beside; extensional = extensional }
