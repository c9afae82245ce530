-- The sorts of the trees that stand in the places of a rule's arguments.
use Rattle.std.proofs.Common.{◌≡◌, ℕ, List, [], ◌∷◌, ◌++◌, map, flat_map, Bool as Test, true, false, refl, sym, ap, ◌∙◌, subst, arith}
use Rattle.std.proofs.lemmas.Int.{ints}
use Rattle.rare_linear.proofs.LinearLemmas.{value-add}
use Rattle.std.specs.Prelude.{pos, Option, Some, None, if◌then◌else◌}
use Rattle.std.specs.Option.{option_map, option_and_then}
use Rattle.rare_linear.specs.Linears.{LinearExpression, number, add, scale, substitute}
use Rattle.rare_linear.proofs.NormalForms.{scale-one, add-zero}
use Rattle.rare_sort.specs.Each.{Each, EachPair}
use Rattle.rare_inst.specs.Substituting.{put_sort, Substitution}
use Rattle.rare_sort.specs.SortRules.{width, total_from, total}
use Rattle.rare_sort.specs.Sorting.{Place, One, Many, Wide, splices, is_concat, is_list, some_list, name, place_sort}
use Rattle.rare_sort.specs.declared.sort.Sort.{Sort, Bool, Int, BitVec, Array', Named}
use Rattle.rare_sort.specs.declared.head.Head.{Head}
use Rattle.rare_inst.proofs.NormalLemmas.{IsNormalForm, normal-number, normal-add, normal-substitute, same_form, add_assoc, put-add}
use Rattle.rare_sort.proofs.Options.{map_some, then_some}
use Rattle.rare_inst.proofs.PutRule.{put-width}
use Rattle.rare_sort.proofs.SortingLemmas.{Each-append}

-- a sort with a width is a word
pub word_of : (s : Sort) (w : LinearExpression) → width s ≡ Some w → s ≡ BitVec w
word_of Bool w e = cc
word_of Int w e = cc
word_of (BitVec v) w e = let same : v ≡ w = cc in ap (λ z. BitVec z) same
word_of (Array' p k q m) w e = cc
word_of (Named k) w e = cc

abbrev pub word : LinearExpression → Sort
word w = BitVec w

-- ---- totals

pub total_append : (ss ts : List Sort) (x n : LinearExpression) → total_from x ss ≡ Some n → total_from x (ss ++ ts) ≡ total_from n ts
total_append [] ts x n e = let same : x ≡ n = cc in ap (λ z. total_from z ts) same
total_append (s ∷ ss) ts x n e =
    let q = then_some (λ w. total_from (add x w) ss) (width s) n e in
    ap (option_and_then (λ w. total_from (add x w) (ss ++ ts))) q.1 ∙ total_append ss ts (add x q.0) n q.2

-- a total that begins at a greater sum
total_shift : (ws : List LinearExpression) (x y n : LinearExpression) → Each IsNormalForm ws → IsNormalForm x → IsNormalForm y →
    total_from y (map word ws) ≡ Some n → total_from (add x y) (map word ws) ≡ Some (add x n)
total_shift [] x y n h nx ny e = let same : y ≡ n = cc in ap (λ z. Some (add x z)) same
total_shift (w ∷ ws) x y n h nx ny e =
    ap (λ z. total_from z (map word ws)) (add_assoc x y w nx ny h.0) ∙ total_shift ws x (add y w) n h.1 nx (normal-add y w ny h.0) e

add_none : (x : LinearExpression) → IsNormalForm x → add x (number (pos 0)) ≡ x
add_none x n = same_form _ _ (normal-add x (number (pos 0)) n (normal-number (pos 0))) n (λ at. omega (arith, ints, value-add at x (number (pos 0))))

pub total_more : (ws : List LinearExpression) (x n : LinearExpression) → Each IsNormalForm ws → IsNormalForm x →
    total (map word ws) ≡ Some n → total_from x (map word ws) ≡ Some (add x n)
total_more ws x n h nx e =
    ap (λ z. total_from z (map word ws)) (sym (add_none x nx)) ∙ total_shift ws x (number (pos 0)) n h nx (normal-number (pos 0)) e

words_alike : (v : LinearExpression) (ss : List Sort) → Each (λ t. t ≡ BitVec v) ss → ss ≡ map word (map (λ s. v) ss)
words_alike v [] h = refl
words_alike v (s ∷ ss) h = (λ i. h.0 i ∷ words_alike v ss h.1 i)

normal_alike : (v : LinearExpression) (ss : List Sort) → IsNormalForm v → Each IsNormalForm (map (λ (s : Sort). v) ss)
normal_alike v [] n = tt
normal_alike v (s ∷ ss) n = (n, normal_alike v ss n)

front_none : (ss ts : List Sort) → ss ++ ts ≡ [] → ss ≡ []
front_none [] ts e = refl
front_none (s ∷ ss) ts e = cc

-- ---- what a place counts as, by the tests on the head

no_place : (b c : Test) (x : Option Sort) (t s : Sort) → b ≡ false → c ≡ false → (if b then x else (if c then (Some t) else None)) ≡ Some s → ⊥
no_place false false x t s hb hc e = cc
no_place true c x t s hb hc e = cc
no_place false true x t s hb hc e = cc

no_wide : (b : Test) (x s : Sort) → b ≡ false → (if b then (Some x) else None) ≡ Some s → ⊥
no_wide false x s hb e = cc
no_wide true x s hb e = cc

list_place : (b c : Test) (x : Option Sort) (t s : Sort) → b ≡ false → (if b then x else (if c then (Some t) else None)) ≡ Some s → t ≡ s
list_place false true x t s hb e = cc
list_place false false x t s hb e = cc
list_place true c x t s hb e = cc

wide_place : (b : Test) (x y : Option Sort) (s : Sort) → b ≡ true → (if b then x else y) ≡ Some s → x ≡ Some s
wide_place true x y s hb e = e
wide_place false x y s hb e = cc

-- the sort of the elements, and the sorts of the trees
abbrev pub Filled : Type 0
Filled = Sort × List Sort

abbrev pub all_sorts : List Filled → List Sort
all_sorts fs = flat_map (λ f. f.1) fs

module _ (a : Substitution) (normal : (k : ℕ) → IsNormalForm (a.number k)) where
  abbrev pub placed_sort : Sort → Sort
  placed_sort s = put_sort a.number a.sort s

  -- trees of these sorts may stand in the place
  abbrev pub Fills : Place → Filled → Type 0
  Fills (One s) f = f.1 ≡ placed_sort s ∷ []
  Fills (Many s k) f =
      (f.0 ≡ placed_sort s) × Each (λ t. t ≡ placed_sort s) f.1 × ((w : LinearExpression) → width s ≡ Some w → total f.1 ≡ Some (a.number k))
  Fills (Wide k) f = (ws : List LinearExpression) × (f.1 ≡ map word ws) × Each IsNormalForm ws × (total f.1 ≡ Some (a.number k))

  module _ (h : Head) (no_concat : is_concat h ≡ false) where
    module _ (no_splice : splices h ≡ false) where
      -- where no lists are spliced in, each place has one tree
      plain_place : (p : Place) (f : Filled) (s : Sort) → Fills p f → place_sort h p ≡ Some s → (is_list p ≡ false) × (f.1 ≡ placed_sort s ∷ [])
      plain_place (One t) f s h' e = let same : t ≡ s = cc in (refl, h' ∙ ap (λ z. placed_sort z ∷ []) same)
      plain_place (Many t k) f s h' e = absurd (no_place (is_concat h) (splices h) (option_map (λ w. BitVec (name k)) (width t)) t s no_concat no_splice e)
      plain_place (Wide k) f s h' e = absurd (no_wide (is_concat h) (BitVec (name k)) s no_concat e)

      pub plain_places : (ps : List Place) (fs : List Filled) (ss : List Sort) → EachPair Fills ps fs → EachPair (λ p s. place_sort h p ≡ Some s) ps ss →
          (some_list ps ≡ false) × (all_sorts fs ≡ map placed_sort ss)
      plain_places [] [] [] f e = (refl, refl)
      plain_places [] [] (s ∷ ss) f e = absurd e
      plain_places [] (x ∷ fs) ss f e = absurd f
      plain_places (p ∷ ps) [] ss f e = absurd f
      plain_places (p ∷ ps) (x ∷ fs) [] f e = absurd e
      plain_places (p ∷ ps) (x ∷ fs) (s ∷ ss) f e =
          let here = plain_place p x s f.0 e.0 in
          let rest = plain_places ps fs ss f.1 e.1 in
          (rw here.0 rest.0, (λ i. here.1 i ++ rest.1 i))

    -- places whose sorts are all one
    gathered_place : (p : Place) (f : Filled) (s : Sort) → Fills p f → place_sort h p ≡ Some s →
        Each (λ t. t ≡ placed_sort s) f.1 × (f.1 ≡ [] → f.0 ≡ placed_sort s)
    gathered_place (One t) f s h' e =
        let same : t ≡ s = cc in
        (subst (Each (λ u. u ≡ placed_sort s)) (sym h') (ap placed_sort same, tt), (λ none. let never : ⊥ = cc in absurd never))
    gathered_place (Many t k) f s h' e =
        let same : t ≡ s = list_place (is_concat h) (splices h) (option_map (λ w. BitVec (name k)) (width t)) t s no_concat e in
        (subst (λ z. Each (λ u. u ≡ placed_sort z) f.1) same h'.1, (λ none. h'.0 ∙ ap placed_sort same))
    gathered_place (Wide k) f s h' e = absurd (no_wide (is_concat h) (BitVec (name k)) s no_concat e)

    pub gathered_places : (S : Sort) (ps : List Place) (fs : List Filled) (ss : List Sort) → EachPair Fills ps fs → EachPair (λ p s. place_sort h p ≡ Some s) ps ss →
        Each (λ s. s ≡ S) ss → Each (λ t. t ≡ placed_sort S) (all_sorts fs)
    gathered_places S [] [] [] f e is = tt
    gathered_places S [] [] (s ∷ ss) f e is = absurd e
    gathered_places S [] (x ∷ fs) ss f e is = absurd f
    gathered_places S (p ∷ ps) [] ss f e is = absurd f
    gathered_places S (p ∷ ps) (x ∷ fs) [] f e is = absurd e
    gathered_places S (p ∷ ps) (x ∷ fs) (s ∷ ss) f e is =
        let here = gathered_place p x s f.0 e.0 in
        Each-append (λ t. t ≡ placed_sort S) x.1 (all_sorts fs) (subst (λ z. Each (λ t. t ≡ placed_sort z) x.1) is.0 here.0) (gathered_places S ps fs ss f.1 e.1 is.1)

    -- where there is no tree, the first place is a list of such elements
    pub first_place : (S : Sort) (p : Place) (ps : List Place) (x : Filled) (fs : List Filled) (s : Sort) (ss : List Sort) → Fills p x → place_sort h p ≡ Some s → s ≡ S →
        all_sorts (x ∷ fs) ≡ [] → x.0 ≡ placed_sort S
    first_place S p ps x fs s ss f e is none = (gathered_place p x s f e).1 (front_none x.1 (all_sorts fs) none) ∙ ap placed_sort is

  -- under `concat` each place has the width of its name
  module _ (h : Head) (concat : is_concat h ≡ true) where
    named : (k : ℕ) (f : Filled) (s : Sort) (w x : LinearExpression) → BitVec (name k) ≡ s → width s ≡ Some w → IsNormalForm x →
        (ws : List LinearExpression) → f.1 ≡ map word ws → Each IsNormalForm ws → total f.1 ≡ Some (a.number k) → total_from x f.1 ≡ Some (add x (substitute a.number w))
    named k f s w x m is nx ws are nws tot =
        let w_is : Some (name k) ≡ Some w = ap width m ∙ is in
        let same : name k ≡ w = cc in
        let k_is : substitute a.number (name k) ≡ a.number k = add-zero (scale (pos 1) (a.number k)) ∙ scale-one (a.number k) in
        ap (total_from x) are ∙ total_more ws x (a.number k) nws nx (ap total (sym are) ∙ tot) ∙ ap (λ z. Some (add x z)) (sym k_is ∙ ap (substitute a.number) same)

    joined_place : (p : Place) (f : Filled) (s : Sort) (w x : LinearExpression) → Fills p f → place_sort h p ≡ Some s → width s ≡ Some w → IsNormalForm x →
        total_from x f.1 ≡ Some (add x (substitute a.number w))
    joined_place (One t) f s w x h' e is nx =
        let same : t ≡ s = cc in
        ap (total_from x) (h' ∙ ap (λ z. placed_sort z ∷ []) same) ∙ ap (option_and_then (λ v. Some (add x v))) (put-width a.number a.sort s w is)
    joined_place (Many t k) f s w x h' e is nx =
        let q = wide_place (is_concat h) _ _ s concat e in
        let m = map_some (λ v. BitVec (name k)) (width t) s q in
        let v = substitute a.number m.0 in
        let are : f.1 ≡ map word (map (λ (s : Sort). v) f.1) = words_alike v f.1 (subst (λ z. Each (λ u. u ≡ z) f.1) (word_of (placed_sort t) v (put-width a.number a.sort t m.0 m.1)) h'.1) in
        named k f s w x m.2 is nx (map (λ (s : Sort). v) f.1) are (normal_alike v f.1 (normal-substitute a.number normal m.0)) (h'.2 m.0 m.1)
    joined_place (Wide k) f s w x h' e is nx =
        let q : Some (BitVec (name k)) ≡ Some s = wide_place (is_concat h) _ _ s concat e in
        let m : BitVec (name k) ≡ s = cc in
        named k f s w x m is nx h'.0 h'.1 h'.2 h'.3

    pub joined_places : (ps : List Place) (fs : List Filled) (ss : List Sort) (sum w : LinearExpression) → EachPair Fills ps fs → EachPair (λ p s. place_sort h p ≡ Some s) ps ss →
        total_from sum ss ≡ Some w → total_from (substitute a.number sum) (all_sorts fs) ≡ Some (substitute a.number w)
    joined_places [] [] [] sum w f e is = let same : sum ≡ w = cc in ap (λ z. Some (substitute a.number z)) same
    joined_places [] [] (s ∷ ss) sum w f e is = absurd e
    joined_places [] (x ∷ fs) ss sum w f e is = absurd f
    joined_places (p ∷ ps) [] ss sum w f e is = absurd f
    joined_places (p ∷ ps) (x ∷ fs) [] sum w f e is = absurd e
    joined_places (p ∷ ps) (x ∷ fs) (s ∷ ss) sum w f e is =
        let q = then_some (λ v. total_from (add sum v) ss) (width s) w is in
        let here = joined_place p x s q.0 (substitute a.number sum) f.0 e.0 q.1 (normal-substitute a.number normal sum) in
        total_append x.1 (all_sorts fs) (substitute a.number sum) _ here
        ∙ ap (λ z. total_from z (all_sorts fs)) (sym (put-add a.number normal sum q.0))
        ∙ joined_places ps fs ss (add sum q.0) w f.1 e.1 q.2
