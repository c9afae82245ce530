-- The texts of linear expressions, as they are put together.
use Rattle.std.proofs.Common.{◌≡◌, ℕ, zero, suc, ◌+◌, ◌<◌, ◌≤◌, Bool as Test, true, false, List, [], ◌∷◌, ◌++◌, map, length, refl, sym, ap, ◌∙◌, arith, append_assoc, Decides, subst, if◌then◌else◌}
use Rattle.std.specs.Prelude.{ℤ, pos, flat_map, codes, slice_get, slice_index_or, slice_index_or as get_or, Some, Result, OnOk, OnErr, IsTrue}
use Rattle.std.proofs.lemmas.Option.{get_or_from_slice_get}
use Rattle.std.specs.Ordering.{int_eq}
use Rattle.std.proofs.lemmas.Grind.{flat_map-append}
use Rattle.std.proofs.lemmas.List.{append-nil}
use Rattle.rare_linear.specs.Linears.{Part, LinearExpression, NamesBelow, linear}
use Rattle.rare_sexpr.specs.Written.{written_symbol, IsCut}
use Rattle.rare_sort.specs.declared.sort.Sort.{Sort, BitVec, Named}
use Rattle.rare_sort.specs.declared.sort.Sort.TheOpen as shape
use Rattle.rare_sort.specs.declared.sort.Sort.TheViews.{Array, roll-Sort}
use Rattle.rare_sort.specs.declared.sort.Sort.TheFolds.{fold-roll-Sort}
use Rattle.rare_sort.proofs.NeedsLemmas.{names_of}
use denote.Hole.Carrier
use Rattle.rare_scope.specs.Names.{Held, sort_names, width_names}
use Rattle.rare_scope.specs.Printing.{joined_texts, bit_vectors_text, arrays_text, sort_text_step, sort_text, is_named_step, is_named, number_text, name_text, part_text_by, sum_text, constant_texts, linear_text_by}
use Rattle.rare_scope.specs.inner.Pieces.{spaced_part, end_text, whole_sum}

abbrev spaced : List ℕ → List ℕ
spaced t = codes " " ++ t

module _ (text : ℕ → List ℕ) where
  -- a number alone
  pub number_alone : (c : ℤ) → linear_text_by text (linear c []) ≡ number_text c ++ []
  number_alone c = go (int_eq c (pos 0)) ∙ sym (append-nil (number_text c))
    where
      go : (b : Test) → sum_text (if b then (number_text c ∷ []) else (number_text c ∷ [])) ≡ number_text c
      go true = refl
      go false = refl

  pub part_alone : (p : Part) → linear_text_by text (linear (pos 0) (p ∷ [])) ≡ part_text_by text p
  part_alone p = refl

  big : (ts : List (List ℕ)) → 2 ≤ length ts → sum_text ts ≡ codes "(+" ++ (flat_map spaced ts ++ codes ")")
  big [] le = absurd (omega (arith, le))
  big (t ∷ []) le = absurd (omega (arith, le))
  big (t ∷ u ∷ ts) le = refl

  mapped : (ps : List Part) → flat_map spaced (map (part_text_by text) ps) ≡ flat_map (spaced_part text) ps
  mapped [] = refl
  mapped (p ∷ ps) = ap (λ xs. spaced (part_text_by text p) ++ xs) (mapped ps)

  abbrev texts : ℤ → List Part → List (List ℕ)
  texts c ps = map (part_text_by text) ps ++ constant_texts (linear c ps)

  ends : (c : ℤ) (p : Part) (ps : List Part) → flat_map spaced (constant_texts (linear c (p ∷ ps))) ++ codes ")" ≡ end_text c
  ends c p ps = go (int_eq c (pos 0))
    where
      go : (b : Test) → flat_map spaced (if b then [] else (number_text c ∷ [])) ++ codes ")" ≡ (if b then (codes ")") else (32 ∷ (number_text c ++ (41 ∷ []))))
      go true = refl
      go false = ap (λ xs. 32 ∷ (xs ++ (41 ∷ []))) (append-nil (number_text c))

  whole : (c : ℤ) (p : Part) (ps : List Part) → 2 ≤ length (texts c (p ∷ ps)) → linear_text_by text (linear c (p ∷ ps)) ≡ whole_sum text (linear c (p ∷ ps))
  whole c p ps le =
      big (texts c (p ∷ ps)) le
      ∙ ap (λ xs. codes "(+" ++ (xs ++ codes ")")) (flat_map-append spaced (map (part_text_by text) (p ∷ ps)) (constant_texts (linear c (p ∷ ps))) ∙ ap (λ xs. xs ++ flat_map spaced (constant_texts (linear c (p ∷ ps)))) (mapped (p ∷ ps)))
      ∙ ap (λ xs. codes "(+" ++ xs) (append_assoc (flat_map (spaced_part text) (p ∷ ps)) (flat_map spaced (constant_texts (linear c (p ∷ ps)))) (codes ")"))
      ∙ ap (λ xs. codes "(+" ++ (flat_map (spaced_part text) (p ∷ ps) ++ xs)) (ends c p ps)

  long : (c : ℤ) (p : Part) → int_eq c (pos 0) ≡ false → 2 ≤ length (texts c (p ∷ []))
  long c p other = let e : length (texts c (p ∷ [])) ≡ 2 = ap (λ b. length (part_text_by text p ∷ (if b then [] else (number_text c ∷ [])))) other in omega (arith, e)

  -- more than one text
  pub sum_long : (e : LinearExpression) → 1 < length e.parts → linear_text_by text e ≡ whole_sum text e
  sum_long e more = go e.constant e.parts more
    where
      at_least : (c : ℤ) (p q : Part) (ps : List Part) → 2 ≤ length (texts c (p ∷ q ∷ ps))
      at_least c p q ps = omega arith

      go : (c : ℤ) (ps : List Part) → 1 < length ps → linear_text_by text (linear c ps) ≡ whole_sum text (linear c ps)
      go c [] lt = absurd (omega (arith, lt))
      go c (p ∷ []) lt = absurd (omega (arith, lt))
      go c (p ∷ q ∷ ps) lt = whole c p (q ∷ ps) (at_least c p q ps)

  pub sum_constant : (e : LinearExpression) → ¬ (length e.parts ≡ 0) → int_eq e.constant (pos 0) ≡ false → linear_text_by text e ≡ whole_sum text e
  sum_constant e some other = go e.constant e.parts some other
    where
      at_least : (c : ℤ) (p q : Part) (ps : List Part) → 2 ≤ length (texts c (p ∷ q ∷ ps))
      at_least c p q ps = omega arith

      go : (c : ℤ) (ps : List Part) → ¬ (length ps ≡ 0) → int_eq c (pos 0) ≡ false → linear_text_by text (linear c ps) ≡ whole_sum text (linear c ps)
      go c [] some other = absurd (some refl)
      go c (p ∷ []) some other = whole c p [] (long c p other)
      go c (p ∷ q ∷ ps) some other = whole c p (q ∷ ps) (at_least c p q ps)

  pub number_only : (e : LinearExpression) → length e.parts ≡ 0 → number_text e.constant ++ [] ≡ linear_text_by text e
  number_only e none = go e.constant e.parts none
    where
      go : (c : ℤ) (ps : List Part) → length ps ≡ 0 → number_text c ++ [] ≡ linear_text_by text (linear c ps)
      go c [] none = sym (number_alone c)
      go c (p ∷ ps) none = absurd (omega (arith, none))

  pub part_only : (e : LinearExpression) (d : Part) → length e.parts ≡ 1 → int_eq e.constant (pos 0) ≡ true → part_text_by text (slice_index_or e.parts 0 d) ≡ linear_text_by text e
  part_only e d one zero_constant = go e.constant e.parts one zero_constant
    where
      go : (c : ℤ) (ps : List Part) → length ps ≡ 1 → int_eq c (pos 0) ≡ true → part_text_by text (slice_index_or ps 0 d) ≡ linear_text_by text (linear c ps)
      go c [] one z = absurd (omega (arith, one))
      go c (p ∷ []) one z = ap (λ b. sum_text (part_text_by text p ∷ (if b then [] else (number_text c ∷ [])))) (sym z)
      go c (p ∷ q ∷ ps) one z = absurd (omega (arith, one))

-- ---- parts

pub name_of : (names : List (List ℕ)) (k : ℕ) (name : List ℕ) → slice_get names k ≡ Some name → written_symbol name ≡ name_text names k
name_of names k name is = ap written_symbol (sym (get_or_from_slice_get names k name [] is))

pub one_part : (text : ℕ → List ℕ) (lead : List ℕ) (k : ℕ) (c : ℤ) (written : List ℕ) → written ≡ text k → int_eq c (pos 1) ≡ true → lead ++ (written ++ []) ≡ lead ++ part_text_by text (k, c)
one_part text lead k c written is one =
    ap (λ xs. lead ++ xs) (append-nil written ∙ is)
    ∙ ap (λ b. lead ++ (if b then (text k) else (joined_texts (codes "(* " ∷ number_text c ∷ codes " " ∷ text k ∷ codes ")" ∷ [])))) (sym one)

pub other_part : (text : ℕ → List ℕ) (lead : List ℕ) (k : ℕ) (c : ℤ) (written : List ℕ) → written ≡ text k → int_eq c (pos 1) ≡ false →
    lead ++ joined_texts (codes "(* " ∷ number_text c ∷ codes " " ∷ written ∷ codes ")" ∷ []) ≡ lead ++ part_text_by text (k, c)
other_part text lead k c written is other =
    ap (λ n. lead ++ joined_texts (codes "(* " ∷ number_text c ∷ codes " " ∷ n ∷ codes ")" ∷ [])) is
    ∙ ap (λ b. lead ++ (if b then (text k) else (joined_texts (codes "(* " ∷ number_text c ∷ codes " " ∷ text k ∷ codes ")" ∷ [])))) (sym other)

pub part_below : (n : ℕ) (ps : List Part) (i : ℕ) (d : Part) → NamesBelow n ps → i < length ps → (get_or ps i d).0 < n
part_below n [] i d h lt = absurd (omega (arith, lt))
part_below n (p ∷ ps) zero d h lt = h.0
part_below n (p ∷ ps) (suc i) d h lt = part_below n ps i d h.1 (omega arith)

-- ---- the same text by another name

pub ok_text : {A E : Type 0} (r : Result A E) (old a b new : List ℕ) → a ≡ b → OnOk r (new ≡ old ++ a) → OnOk r (new ≡ old ++ b)
ok_text r old a b new same h = subst (λ (t : List ℕ). OnOk r (new ≡ old ++ t)) same h

pub err_text : {A E : Type 0} (r : Result A E) (old a b new : List ℕ) → a ≡ b → OnErr r (IsCut old a new) → OnErr r (IsCut old b new)
err_text r old a b new same h = subst (λ (t : List ℕ). OnErr r (IsCut old t new)) same h

-- ---- sorts

module _ (held : Held) where
  pub word_text : (w : LinearExpression) → sort_text held (BitVec w) ≡ bit_vectors_text held w
  unfolding roll-Sort Carrier.roll
  word_text w = fold-roll-Sort (List ℕ) (sort_text_step held) (shape.BitVec w)

  pub array_text : (a b : Sort) → sort_text held (Array a b) ≡ arrays_text (sort_text held a) (sort_text held b)
  unfolding roll-Sort Carrier.roll
  array_text a b = fold-roll-Sort (List ℕ) (sort_text_step held) (shape.Array a b)

  pub named_text : (k : ℕ) (name : List ℕ) → slice_get (sort_names held) k ≡ Some name → written_symbol name ≡ sort_text held (Named k)
  unfolding roll-Sort Carrier.roll
  named_text k name is = name_of (sort_names held) k name is ∙ sym (fold-roll-Sort (List ℕ) (sort_text_step held) (shape.Named k))

  pub word_named : (w : LinearExpression) → IsTrue (is_named held (BitVec w)) → NamesBelow (length (width_names held)) w.parts
  unfolding roll-Sort Carrier.roll
  word_named w h =
      names_of (length (width_names held)) w.parts (sym (fold-roll-Sort Test (is_named_step (length (sort_names held)) (length (width_names held))) (shape.BitVec w)) ∙ h)
