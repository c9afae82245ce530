-- What is read from an array, and an array after a write, are of their sorts.
use Rattle.std.proofs.Common.{◌≡◌, Bool, true, false, not, List, [], ◌∷◌, cond, refl}
use Rattle.std.specs.Prelude.{Some, unwrap_or, if◌then◌else◌}
use Rattle.std.specs.declared.cmp.Ordering.{Ordering}
use Rattle.std.specs.declared.cmp.Ordering.TheVariants.{Less, Equal, Greater}
use Rattle.std.specs.FinMap.Entries.{find, put, where_key, by_order}
use Rattle.std.proofs.lemmas.Nat.{pow_pos}
use Rattle.rare_sort.specs.Each.{Each}
use Rattle.rare_meaning.specs.Values.{Value, Truth, Whole, Bits, Element, Array, Entries, no_entry, entry, ClosedSort, Truths, Wholes, BitVectors, Elements, Arrays, zero_of, value_order, value_eq, entry_list, entries_from, entry_at, written_list, written, entries_of, Fits, FitEach}
use Rattle.rare_meaning.proofs.ValueLemmas.{sorted-in}

pub zero_fits : (s : ClosedSort) → Fits (zero_of s) s
zero_fits Truths = tt
zero_fits Wholes = tt
zero_fits (BitVectors n) = (refl, pow_pos n)
zero_fits (Elements s) = refl
zero_fits (Arrays k e) = (refl, tt)

module _ (K S : ClosedSort) where
  -- an entry that an array of these sorts may have
  abbrev GoodEntry : Value × Value → Type 0
  GoodEntry x = Fits x.0 K × Fits x.1 S × (value_eq x.1 (zero_of S) ≡ false)

  listed_good : (m : Entries) → FitEach m K S → Each GoodEntry (entry_list m)
  listed_good no_entry h = tt
  listed_good (entry k v m) h = ((h.0, h.1, h.2), listed_good m h.3)

  good_listed : (es : List (Value × Value)) → Each GoodEntry es → FitEach (entries_from es) K S
  good_listed [] h = tt
  good_listed (e ∷ es) h = (h.0.0, h.0.1, h.0.2, good_listed es h.1)

  found_fits : (q : Value) (es : List (Value × Value)) → Each GoodEntry es → Fits (unwrap_or (find value_order q es) (zero_of S)) S
  found_fits q [] h = zero_fits S
  found_fits q (e ∷ es) h = go (value_eq q e.0) (found_fits q es h.1)
    where
      go : (t : Bool) → Fits (unwrap_or (find value_order q es) (zero_of S)) S → Fits (unwrap_or (cond t (Some e.1) (find value_order q es)) (zero_of S)) S
      go true rest = h.0.1
      go false rest = rest

  put_good : (k v : Value) (es : List (Value × Value)) → Fits k K → Fits v S → value_eq v (zero_of S) ≡ false → Each GoodEntry es → Each GoodEntry (put value_order k v es)
  put_good k v [] fk fv n h = ((fk, fv, n), tt)
  put_good k v (e ∷ es) fk fv n h = go (value_order k e.0) (put_good k v es fk fv n h.1)
    where
      go : (o : Ordering) → Each GoodEntry (put value_order k v es) → Each GoodEntry (by_order o ((k, v) ∷ e ∷ es) ((e.0, v) ∷ es) (e ∷ put value_order k v es))
      go Less rest = ((fk, fv, n), h)
      go Equal rest = ((h.0.0, fv, n), h.1)
      go Greater rest = (h.0, rest)

  filter_good : (p : Value → Bool) (es : List (Value × Value)) → Each GoodEntry es → Each GoodEntry (where_key value_order p es)
  filter_good p [] h = tt
  filter_good p (e ∷ es) h = go (p e.0) (filter_good p es h.1)
    where
      go : (t : Bool) → Each GoodEntry (where_key value_order p es) → Each GoodEntry (cond t (e ∷ where_key value_order p es) (where_key value_order p es))
      go true rest = (h.0, rest)
      go false rest = rest

  written_good : (k v : Value) (es : List (Value × Value)) → Fits k K → Fits v S → Each GoodEntry es → Each GoodEntry (written_list (zero_of S) k v es)
  written_good k v es fk fv h = go (value_eq v (zero_of S)) refl
    where
      go : (t : Bool) → value_eq v (zero_of S) ≡ t → Each GoodEntry (if t then (where_key value_order (λ x. not (value_eq k x)) es) else (put value_order k v es))
      go true e = filter_good (λ x. not (value_eq k x)) es h
      go false e = put_good k v es fk fv e h

  pub read_fits : (a q : Value) → Fits a (Arrays K S) → Fits (entry_at (zero_of S) q (entries_of a)) S
  read_fits (Array m) q h = found_fits q (entry_list m) (listed_good m h.1)
  read_fits (Truth b) q h = absurd h
  read_fits (Whole z) q h = absurd h
  read_fits (Bits w n) q h = absurd h
  read_fits (Element s n) q h = absurd h

  pub write_fits : (a k v : Value) → Fits a (Arrays K S) → Fits k K → Fits v S → Fits (Array (written (zero_of S) k v (entries_of a))) (Arrays K S)
  write_fits (Array m) k v h fk fv = (sorted-in (zero_of S) k v m h.0, good_listed _ (written_good k v (entry_list m) fk fv (listed_good m h.1)))
  write_fits (Truth b) k v h fk fv = absurd h
  write_fits (Whole z) k v h fk fv = absurd h
  write_fits (Bits w n) k v h fk fv = absurd h
  write_fits (Element s n) k v h fk fv = absurd h
