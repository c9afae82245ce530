-- The names of a kind are found as what they are.
use Rattle.std.proofs.Common.{◌≡◌, ℕ, zero, suc, ◌<◌, true, false, List, [], ◌∷◌, ◌++◌, map, length, bytes_eq, Option, Some, None, refl, sym, ap, ◌∙◌, subst, arith, All, ◌⊎◌, inl, inr, if◌then◌else◌}
use Rattle.std.specs.Prelude.{slice_index_or}
use Rattle.std.specs.List.{list_all}
use Rattle.std.proofs.lemmas.Slice.Eq.{bytes_eq-Decides}
use Rattle.rare_sexpr.specs.Bytes.{is_in_bars}
use Rattle.rare_scope.specs.declared.meaning.Meaning.{Meaning}
use Rattle.rare_scope.specs.declared.meaning.Meaning.TheVariants as meaning
use Rattle.rare_scope.specs.Reserved.{is_among, is_theory_word, reserved_words}
use Rattle.rare_scope.specs.Names.{Held, AllDiffer, AreInOrder, found, found_from, names_with, numbers_with, sort_number, symbol_number, width_number, sort_names, symbol_names, width_names}
use Rattle.rare_scope.proofs.ScopeLemmas.{as_many, either}
use Rattle.rare_reread.specs.Readable.{IsReadable}

-- a name that does not stand changes nothing
pub absent : (text : List ℕ) (held : Held) (so : Option Meaning) → is_among (map (λ n. n.0) held) text ≡ false → found_from text so held ≡ so
absent text [] so none = refl
absent text (n ∷ ns) so none =
    let parts = either (bytes_eq text n.0) (is_among (map (λ n. n.0) ns) text) none in
    ap (λ b. found_from text (if b then Some n.1 else so) ns) parts.0 ∙ absent text ns so parts.1

itself : (text : List ℕ) → bytes_eq text text ≡ true
itself text = (bytes_eq-Decides text text).1 refl

here : (text : List ℕ) (m : Meaning) (ns : Held) (so : Option Meaning) → is_among (map (λ n. n.0) ns) text ≡ false → found_from text so ((text, m) ∷ ns) ≡ Some m
here text m ns so none = ap (λ b. found_from text (if b then Some m else so) ns) (itself text) ∙ absent text ns (Some m) none

abbrev IsOneOf : (ℕ → Meaning) → Meaning → List ℕ → Type 0
IsOneOf kind m l = (l ≡ []) ⊎ ((j : ℕ) × (l ≡ j ∷ []) × (m ≡ kind j))

-- by what has the numbers of the kind
module _ (number : Meaning → List ℕ) (kind : ℕ → Meaning) (one : (m : Meaning) → IsOneOf kind m (number m)) where
  abbrev IsFound : List (List ℕ) → List ℕ → Held → Type 0
  IsFound names numbers held = (so : Option Meaning) (k : ℕ) → k < length names → found_from (slice_index_or names k []) so held ≡ Some (kind (slice_index_or numbers k 0))

  one_more : (n : List ℕ × Meaning) (ns : Held) (names : List (List ℕ)) (numbers : List ℕ) → is_among (map (λ n. n.0) ns) n.0 ≡ false → IsFound names numbers ns →
      (l : List ℕ) → IsOneOf kind n.1 l → IsFound (map (λ k. n.0) l ++ names) (l ++ numbers) (n ∷ ns)
  one_more n ns names numbers new rest l (inl none) =
      subst (λ (l : List ℕ). IsFound (map (λ k. n.0) l ++ names) (l ++ numbers) (n ∷ ns)) (sym none)
      (λ so k lt. rest (if bytes_eq (slice_index_or names k []) n.0 then Some n.1 else so) k lt)
  one_more n ns names numbers new rest l (inr some) = subst (λ (l : List ℕ). IsFound (map (λ k. n.0) l ++ names) (l ++ numbers) (n ∷ ns)) (sym some.1) last
    where
      last : IsFound (n.0 ∷ names) (some.0 ∷ numbers) (n ∷ ns)
      last so zero lt = here n.0 n.1 ns so new ∙ ap Some some.2
      last so (suc k) lt = rest (if bytes_eq (slice_index_or names k []) n.0 then Some n.1 else so) k (omega arith)

  found_kind : (held : Held) → AllDiffer (map (λ n. n.0) held) → IsFound (names_with number held) (numbers_with number held) held
  found_kind [] differ = λ so k lt. absurd (omega (arith, lt))
  found_kind (n ∷ ns) differ = one_more n ns (names_with number ns) (numbers_with number ns) differ.0 (found_kind ns differ.1) (number n.1) (one n.1)

  found_numbered : (held : Held) (k : ℕ) → AllDiffer (map (λ n. n.0) held) → AreInOrder (numbers_with number held) → k < length (names_with number held) → found held (slice_index_or (names_with number held) k []) ≡ Some (kind k)
  found_numbered held k differ order lt = found_kind held differ None k lt ∙ ap (λ j. Some (kind j)) (order k (omega (arith, as_many number held)))

-- what holds of all names holds of those of a kind
module _ (number : Meaning → List ℕ) (P : List ℕ → Type 0) where
  front : (name : List ℕ) (l : List ℕ) (names : List (List ℕ)) (k : ℕ) → P name → k < length (map (λ j. name) l ++ names) → ((i : ℕ) → i < length names → P (slice_index_or names i [])) → P (slice_index_or (map (λ j. name) l ++ names) k [])
  front name [] names k h lt rest = rest k lt
  front name (j ∷ l) names zero h lt rest = h
  front name (j ∷ l) names (suc k) h lt rest = front name l names k h (omega arith) rest

  all_named : (held : Held) (k : ℕ) → All (λ n. P n.0) held → k < length (names_with number held) → P (slice_index_or (names_with number held) k [])
  all_named [] k all lt = absurd (omega (arith, lt))
  all_named (n ∷ ns) k all lt = front n.0 (number n.1) (names_with number ns) k (all 0 n (omega arith)) lt (λ i below. all_named ns i (λ j d l. all (suc j) d (omega arith)) below)

one_width : (m : Meaning) → IsOneOf meaning.Width m (width_number m)
one_width (meaning.Sort k) = inl refl
one_width (meaning.Width k) = inr (k, refl, refl)
one_width (meaning.Symbol k) = inl refl
one_width (meaning.Term id) = inl refl

one_sort : (m : Meaning) → IsOneOf meaning.Sort m (sort_number m)
one_sort (meaning.Sort k) = inr (k, refl, refl)
one_sort (meaning.Width k) = inl refl
one_sort (meaning.Symbol k) = inl refl
one_sort (meaning.Term id) = inl refl

one_symbol : (m : Meaning) → IsOneOf meaning.Symbol m (symbol_number m)
one_symbol (meaning.Sort k) = inl refl
one_symbol (meaning.Width k) = inl refl
one_symbol (meaning.Symbol k) = inr (k, refl, refl)
one_symbol (meaning.Term id) = inl refl

module _ (held : Held) (r : IsReadable held) (k : ℕ) where
  pub width_found : k < length (width_names held) → found held (slice_index_or (width_names held) k []) ≡ Some (meaning.Width k)
  width_found lt = found_numbered width_number meaning.Width one_width held k r.scope.differ r.scope.widths lt

  pub sort_found : k < length (sort_names held) → found held (slice_index_or (sort_names held) k []) ≡ Some (meaning.Sort k)
  sort_found lt = found_numbered sort_number meaning.Sort one_sort held k r.scope.differ r.scope.sorts lt

  pub symbol_found : k < length (symbol_names held) → found held (slice_index_or (symbol_names held) k []) ≡ Some (meaning.Symbol k)
  symbol_found lt = found_numbered symbol_number meaning.Symbol one_symbol held k r.scope.differ r.scope.symbols lt

  pub width_symbol : k < length (width_names held) → list_all is_in_bars (slice_index_or (width_names held) k []) ≡ true
  width_symbol lt = all_named width_number (λ n. list_all is_in_bars n ≡ true) held k r.symbols lt

  pub sort_symbol : k < length (sort_names held) → list_all is_in_bars (slice_index_or (sort_names held) k []) ≡ true
  sort_symbol lt = all_named sort_number (λ n. list_all is_in_bars n ≡ true) held k r.symbols lt

  pub symbol_symbol : k < length (symbol_names held) → list_all is_in_bars (slice_index_or (symbol_names held) k []) ≡ true
  symbol_symbol lt = all_named symbol_number (λ n. list_all is_in_bars n ≡ true) held k r.symbols lt

  pub sort_word : k < length (sort_names held) → is_theory_word (slice_index_or (sort_names held) k []) ≡ false
  sort_word lt = all_named sort_number (λ n. is_theory_word n ≡ false) held k r.words lt

  pub symbol_word : k < length (symbol_names held) → is_theory_word (slice_index_or (symbol_names held) k []) ≡ false
  symbol_word lt = all_named symbol_number (λ n. is_theory_word n ≡ false) held k r.words lt

  pub symbol_reserved : k < length (symbol_names held) → is_among reserved_words (slice_index_or (symbol_names held) k []) ≡ false
  symbol_reserved lt = all_named symbol_number (λ n. is_among reserved_words n ≡ false) held k r.reserved lt
