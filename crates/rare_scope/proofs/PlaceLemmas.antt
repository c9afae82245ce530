-- A scope with one name more.
use Rattle.std.proofs.Common.{◌≡◌, ℕ, zero, suc, ◌+◌, ◌<◌, ◌≤◌, Bool, true, false, ◌||◌, List, [], ◌∷◌, ◌++◌, map, zip, length, bytes_eq, get_or, refl, sym, ap, ◌∙◌, subst, arith, All, Decides, ◌⊎◌, inl, inr}
use Rattle.std.specs.Prelude.{nat_lt, flat_map}
use Rattle.std.specs.List.{list_any}
use Rattle.std.proofs.lemmas.Bool.{ltb-true, ltb-false}
use Rattle.std.proofs.lemmas.Grind.{flat_map-append}
use Rattle.std.proofs.lemmas.List.{length-append, map-append, append-nil, length_push}
use Rattle.std.proofs.lemmas.List.Elements.{All-append}
use Rattle.std.proofs.lemmas.List.Folds.{list_any-append}
use Rattle.std.proofs.lemmas.Slice.Eq.{bytes_eq-Decides}
use Rattle.std.proofs.Math.ListN.{get_or-append}
use Rattle.std.proofs.Math.Seq.{get_or-append_seam}
use Rattle.rare_scope.specs.declared.meaning.Meaning.{Meaning}
use Rattle.rare_scope.specs.declared.meaning.Meaning.TheVariants as meaning
use Rattle.rare_scope.specs.Reserved.{is_among, is_theory_word}
use Rattle.rare_scope.specs.Names.{Held, AllDiffer, AreInOrder, IsNext, IsScope, is_declared, names_with, numbers_with, sort_number, symbol_number, width_number}
use Rattle.rare_scope.specs.inner.Places.{held_by, names_at, placed, ArePlaces, IsHeld}
use Rattle.rare_scope.proofs.ScopeLemmas.{as_many, either}

pub held_push : (ns : List (List ℕ)) (ms : List Meaning) (n : List ℕ) (m : Meaning) → length ns ≡ length ms → held_by (ns ++ n ∷ []) (ms ++ m ∷ []) ≡ held_by ns ms ++ (n, m) ∷ []
held_push [] [] n m even = refl
held_push [] (x ∷ ms) n m even = absurd (omega arith)
held_push (x ∷ ns) [] n m even = absurd (omega arith)
held_push (x ∷ ns) (y ∷ ms) n m even = ap (λ xs. (x, y) ∷ xs) (held_push ns ms n m (omega arith))

-- ---- the names differ

neither : (a b : Bool) → a ≡ false → b ≡ false → (a || b) ≡ false
neither true b e f = absurd cc
neither false b e f = f

unequal : (a b : List ℕ) → bytes_eq a b ≡ false → bytes_eq b a ≡ false
unequal a b e = go (bytes_eq b a) refl
  where
    go : (t : Bool) → bytes_eq b a ≡ t → t ≡ false
    go true is = let one : b ≡ a = (bytes_eq-Decides b a).0 is in let same : bytes_eq a b ≡ true = (bytes_eq-Decides a b).1 (sym one) in absurd cc
    go false is = refl

differ_push : (ns : List (List ℕ)) (n : List ℕ) → AllDiffer ns → is_among ns n ≡ false → AllDiffer (ns ++ n ∷ [])
differ_push [] n differ none = (refl, tt)
differ_push (x ∷ ns) n differ none =
    let parts = either (bytes_eq n x) (list_any (bytes_eq n) ns) none in (
      list_any-append (bytes_eq x) ns (n ∷ []) ∙ neither (list_any (bytes_eq x) ns) (bytes_eq x n || false) differ.0 (neither (bytes_eq x n) false (unequal n x parts.0) refl),
      differ_push ns n differ.1 parts.1,
    )

-- ---- the numbers of a kind are in order

order_push : (ks : List ℕ) (k : ℕ) → AreInOrder ks → k ≡ length ks → AreInOrder (ks ++ k ∷ [])
order_push ks k order next i lt = go (nat_lt i (length ks)) refl
  where
    go : (b : Bool) → nat_lt i (length ks) ≡ b → get_or (ks ++ k ∷ []) i 0 ≡ i
    go true less = let before : i < length ks = ltb-true i (length ks) less in get_or-append ks (k ∷ []) 0 i before ∙ order i before
    go false past =
        let after : length ks ≤ i = ltb-false i (length ks) past in
        let here : i ≡ length ks = omega (arith, length_push ks k, lt, after) in
        ap (λ j. get_or (ks ++ k ∷ []) j 0) here ∙ get_or-append_seam ks k [] 0 ∙ next ∙ sym here

-- a meaning has no number of the kind, or the next
abbrev IsNextOf : (Meaning → List ℕ) → Held → Meaning → Type 0
IsNextOf number held m = (number m ≡ []) ⊎ (number m ≡ length (numbers_with number held) ∷ [])

module _ (number : Meaning → List ℕ) where
  numbers_push : (held : Held) (n : List ℕ) (m : Meaning) → numbers_with number (held ++ (n, m) ∷ []) ≡ numbers_with number held ++ number m
  numbers_push held n m = flat_map-append (λ x. number x.1) held ((n, m) ∷ []) ∙ ap (λ ks. numbers_with number held ++ ks) (append-nil (number m))

  order_grown : (held : Held) (n : List ℕ) (m : Meaning) → AreInOrder (numbers_with number held) → IsNextOf number held m → AreInOrder (numbers_with number (held ++ (n, m) ∷ []))
  order_grown held n m order next = subst AreInOrder (sym (numbers_push held n m)) (by next)
    where
      by : IsNextOf number held m → AreInOrder (numbers_with number held ++ number m)
      by (inl none) = subst AreInOrder (sym (ap (λ ks. numbers_with number held ++ ks) none ∙ append-nil (numbers_with number held))) order
      by (inr one) = subst AreInOrder (ap (λ ks. numbers_with number held ++ ks) (sym one)) (order_push (numbers_with number held) (length (numbers_with number held)) order refl)

  names_push : (held : Held) (n : List ℕ) (m : Meaning) → names_with number (held ++ (n, m) ∷ []) ≡ names_with number held ++ map (λ k. n) (number m)
  names_push held n m = flat_map-append (λ x. map (λ k. x.0) (number x.1)) held ((n, m) ∷ []) ∙ ap (λ ks. names_with number held ++ ks) (append-nil (map (λ k. n) (number m)))

  -- ---- their places

  kept_at : (ns : List (List ℕ)) (n : List ℕ) (ps : List ℕ) → All (λ p. p < length ns) ps → names_at (ns ++ n ∷ []) ps ≡ names_at ns ps
  kept_at ns n [] within = refl
  kept_at ns n (p ∷ ps) within =
      ap (λ x. x ∷ names_at (ns ++ n ∷ []) ps) (get_or-append ns (n ∷ []) [] p (within 0 0 (omega arith)))
      ∙ ap (λ xs. get_or ns p [] ∷ xs) (kept_at ns n ps (λ i d lt. within (suc i) d (omega arith)))

  new_at : (ns : List (List ℕ)) (n : List ℕ) (ks : List ℕ) → names_at (ns ++ n ∷ []) (map (λ k. length ns) ks) ≡ map (λ k. n) ks
  new_at ns n [] = refl
  new_at ns n (k ∷ ks) = ap (λ x. x ∷ names_at (ns ++ n ∷ []) (map (λ k. length ns) ks)) (get_or-append_seam ns n [] []) ∙ ap (λ xs. n ∷ xs) (new_at ns n ks)

  all_new : (n : ℕ) (ks : List ℕ) → All (λ p. p < n + 1) (map (λ k. n) ks)
  all_new n [] i d lt = absurd (omega (arith, lt))
  all_new n (k ∷ ks) zero d lt = omega arith
  all_new n (k ∷ ks) (suc i) d lt = all_new n ks i d (omega arith)

  places_grown : (ns : List (List ℕ)) (ms : List Meaning) (ps : List ℕ) (n : List ℕ) (m : Meaning) → length ns ≡ length ms → ArePlaces number ns ms ps → ArePlaces number (ns ++ n ∷ []) (ms ++ m ∷ []) (placed number m (length ns) ps)
  places_grown ns ms ps n m even old = record {
    within =
        let more : length (ns ++ n ∷ []) ≡ length ns + 1 = length_push ns n in
        subst (λ (k : ℕ). All (λ p. p < k) (placed number m (length ns) ps)) (sym more)
        (All-append (λ p. p < length ns + 1) ps (map (λ k. length ns) (number m)) (λ i d lt. let b : get_or ps i d < length ns = old.within i d lt in omega arith) (all_new (length ns) (number m)));
    names =
        ap (names_with number) (held_push ns ms n m even) ∙ names_push (held_by ns ms) n m
        ∙ ap (λ xs. xs ++ map (λ k. n) (number m)) (old.names ∙ sym (kept_at ns n ps old.within))
        ∙ ap (λ xs. names_at (ns ++ n ∷ []) ps ++ xs) (sym (new_at ns n (number m)))
        ∙ sym (map-append (λ p. get_or (ns ++ n ∷ []) p []) ps (map (λ k. length ns) (number m)));
  }

-- ---- the whole

next_sort : (held : Held) (m : Meaning) → IsNext held m → IsNextOf sort_number held m
next_sort held (meaning.Sort k) next = inr (ap (λ j. j ∷ []) (next ∙ sym (as_many sort_number held)))
next_sort held (meaning.Symbol k) next = inl refl
next_sort held (meaning.Width k) next = inl refl
next_sort held (meaning.Term id) next = inl refl

next_symbol : (held : Held) (m : Meaning) → IsNext held m → IsNextOf symbol_number held m
next_symbol held (meaning.Sort k) next = inl refl
next_symbol held (meaning.Symbol k) next = inr (ap (λ j. j ∷ []) (next ∙ sym (as_many symbol_number held)))
next_symbol held (meaning.Width k) next = inl refl
next_symbol held (meaning.Term id) next = inl refl

next_width : (held : Held) (m : Meaning) → IsNext held m → IsNextOf width_number held m
next_width held (meaning.Sort k) next = inl refl
next_width held (meaning.Symbol k) next = inl refl
next_width held (meaning.Width k) next = inr (ap (λ j. j ∷ []) (next ∙ sym (as_many width_number held)))
next_width held (meaning.Term id) next = inl refl

scope_grown : (held : Held) (n : List ℕ) (m : Meaning) → IsScope held → is_declared held n ≡ false → IsNext held m → IsScope (held ++ (n, m) ∷ [])
scope_grown held n m old new next = record {
  differ = subst AllDiffer (sym (map-append (λ x. x.0) held ((n, m) ∷ []))) (differ_push (map (λ x. x.0) held) n old.differ (either (is_theory_word n) (is_among (map (λ x. x.0) held) n) new).1);
  sorts = order_grown sort_number held n m old.sorts (next_sort held m next);
  symbols = order_grown symbol_number held n m old.symbols (next_symbol held m next);
  widths = order_grown width_number held n m old.widths (next_width held m next);
}

-- what was added to each list
pub record Adds (ns : List (List ℕ)) (ms : List Meaning) (ss ys ws : List ℕ) (n : List ℕ) (m : Meaning) (ns2 : List (List ℕ)) (ms2 : List Meaning) (ss2 ys2 ws2 : List ℕ) : Type 0 where
  pub names : ns2 ≡ ns ++ n ∷ []
  pub meanings : ms2 ≡ ms ++ m ∷ []
  pub sorts : ss2 ≡ placed sort_number m (length ns) ss
  pub symbols : ys2 ≡ placed symbol_number m (length ns) ys
  pub widths : ws2 ≡ placed width_number m (length ns) ws

module _ (ns : List (List ℕ)) (ms : List Meaning) (ss ys ws : List ℕ) (n : List ℕ) (m : Meaning) (ns2 : List (List ℕ)) (ms2 : List Meaning) (ss2 ys2 ws2 : List ℕ) where
  pub held_grown : IsHeld ns ms ss ys ws → is_declared (held_by ns ms) n ≡ false → IsNext (held_by ns ms) m → Adds ns ms ss ys ws n m ns2 ms2 ss2 ys2 ws2 → IsHeld ns2 ms2 ss2 ys2 ws2
  held_grown old new next adds =
      subst (λ (x : List (List ℕ)). IsHeld x ms2 ss2 ys2 ws2) (sym adds.names)
      (subst (λ (x : List Meaning). IsHeld (ns ++ n ∷ []) x ss2 ys2 ws2) (sym adds.meanings)
      (subst (λ (x : List ℕ). IsHeld (ns ++ n ∷ []) (ms ++ m ∷ []) x ys2 ws2) (sym adds.sorts)
      (subst (λ (x : List ℕ). IsHeld (ns ++ n ∷ []) (ms ++ m ∷ []) (placed sort_number m (length ns) ss) x ws2) (sym adds.symbols)
      (subst (λ (x : List ℕ). IsHeld (ns ++ n ∷ []) (ms ++ m ∷ []) (placed sort_number m (length ns) ss) (placed symbol_number m (length ns) ys) x) (sym adds.widths)
      (record {
        even = length_push ns n ∙ ap (λ k. k + 1) old.even ∙ sym (length_push ms m);
        scope = subst IsScope (sym (held_push ns ms n m old.even)) (scope_grown (held_by ns ms) n m old.scope new next);
        sorts = places_grown sort_number ns ms ss n m old.even old.sorts;
        symbols = places_grown symbol_number ns ms ys n m old.even old.symbols;
        widths = places_grown width_number ns ms ws n m old.even old.widths;
      })))))

  pub view_grown : (held : Held) → held_by ns ms ≡ held → length ns ≡ length ms → ns2 ≡ ns ++ n ∷ [] → ms2 ≡ ms ++ m ∷ [] → held_by ns2 ms2 ≡ held ++ (n, m) ∷ []
  view_grown held is even names meanings = ap (λ x. held_by x ms2) names ∙ ap (held_by (ns ++ n ∷ [])) meanings ∙ held_push ns ms n m even ∙ ap (λ h. h ++ (n, m) ∷ []) is
