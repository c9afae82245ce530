-- Names with one name more: they differ, and are numbered in order.
use Rattle.std.proofs.Common.{◌≡◌, ℕ, ◌+◌, ◌<◌, ◌≤◌, Bool, true, false, ◌||◌, List, [], ◌∷◌, ◌++◌, length, bytes_eq, get_or, refl, sym, ap, ◌∙◌, subst, arith}
use Rattle.std.specs.Prelude.{nat_lt, flat_map}
use Rattle.std.specs.List.{list_any}
use Rattle.std.proofs.lemmas.Bool.{ltb-true, ltb-false}
use Rattle.std.proofs.lemmas.Grind.{flat_map-append}
use Rattle.std.proofs.lemmas.List.{append-nil, length_push}
use Rattle.std.proofs.lemmas.List.Folds.{list_any-append}
use Rattle.std.proofs.lemmas.Slice.Eq.{bytes_eq-Decides}
use Rattle.std.proofs.Math.ListN.{get_or-append}
use Rattle.std.proofs.Math.Seq.{get_or-append_seam}
use Rattle.rare_scope.specs.Names.{AllDiffer, AreInOrder, Meant, Names}
use Rattle.rare_scope.specs.Reserved.{is_among}
use Rattle.rare_scope.proofs.ScopeLemmas.{either}

-- ---- the names differ

neither : (a b : Bool) → a ≡ false → b ≡ false → (a || b) ≡ false
neither true b e f = absurd cc
neither false b e f = f

unequal : (a b : List ℕ) → bytes_eq a b ≡ false → bytes_eq b a ≡ false
unequal a b e = go (bytes_eq b a) refl
  where
    go : (t : Bool) → bytes_eq b a ≡ t → t ≡ false
    go true is = let same : bytes_eq a b ≡ true = (bytes_eq-Decides a b).1 (sym ((bytes_eq-Decides b a).0 is)) in absurd cc
    go false is = refl

pub differ_push : (ns : List (List ℕ)) (n : List ℕ) → AllDiffer ns → is_among ns n ≡ false → AllDiffer (ns ++ n ∷ [])
differ_push [] n differ none = (refl, tt)
differ_push (x ∷ ns) n differ none =
    let parts = either (bytes_eq n x) (list_any (bytes_eq n) ns) none in (
      list_any-append (bytes_eq x) ns (n ∷ []) ∙ neither (list_any (bytes_eq x) ns) (bytes_eq x n || false) differ.0 (neither (bytes_eq x n) false (unequal n x parts.0) refl),
      differ_push ns n differ.1 parts.1,
    )

-- ---- the numbers of a kind are in order

order_push : (ks : List ℕ) → AreInOrder ks → AreInOrder (ks ++ length ks ∷ [])
order_push ks order i lt = go (nat_lt i (length ks)) refl
  where
    go : (b : Bool) → nat_lt i (length ks) ≡ b → get_or (ks ++ length ks ∷ []) i 0 ≡ i
    go true less = let before : i < length ks = ltb-true i (length ks) less in get_or-append ks (length ks ∷ []) 0 i before ∙ order i before
    go false past =
        let after : length ks ≤ i = ltb-false i (length ks) past in
        let here : i ≡ length ks = omega (arith, length_push ks (length ks), lt, after) in
        ap (λ j. get_or (ks ++ length ks ∷ []) j 0) here ∙ get_or-append_seam ks (length ks) [] 0 ∙ sym here

-- by what has the numbers of the kind
module _ (number : Meant → List ℕ) where
  abbrev pub numbers_in : Names → List ℕ
  numbers_in names = flat_map (λ n. number n.1) names

  -- so many names are of the kind, numbered from 0 on
  pub record AreNumbered (names : Names) (count : ℕ) : Type 0 where
    pub order : AreInOrder (numbers_in names)
    pub counted : length (numbers_in names) ≡ count

  module _ (names : Names) (count : ℕ) (old : AreNumbered names count) (name : List ℕ) (m : Meant) where
    pushed : numbers_in (names ++ (name, m) ∷ []) ≡ numbers_in names ++ number m
    pushed = flat_map-append (λ n. number n.1) names ((name, m) ∷ []) ∙ ap (λ ks. numbers_in names ++ ks) (append-nil (number m))

    -- a name of another kind
    pub other_more : number m ≡ [] → AreNumbered (names ++ (name, m) ∷ []) count
    other_more none =
        let same = pushed ∙ ap (λ ks. numbers_in names ++ ks) none ∙ append-nil (numbers_in names) in
        record { order = subst AreInOrder (sym same) old.order; counted = ap length same ∙ old.counted }

    -- the next of the kind
    pub one_more : number m ≡ count ∷ [] → AreNumbered (names ++ (name, m) ∷ []) (count + 1)
    one_more next =
        let same = pushed ∙ ap (λ ks. numbers_in names ++ ks) (next ∙ ap (λ k. k ∷ []) (sym old.counted)) in record {
          order = subst AreInOrder (sym same) (order_push (numbers_in names) old.order);
          counted = ap length same ∙ length_push (numbers_in names) (length (numbers_in names)) ∙ ap (λ k. k + 1) old.counted;
        }
