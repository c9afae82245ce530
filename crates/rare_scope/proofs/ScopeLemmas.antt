-- Names in a scope: what is found, and which numbers stand.
use Rattle.std.proofs.Common.{◌≡◌, ℕ, zero, suc, ◌+◌, ◌<◌, ◌≤◌, Bool, true, false, not, ◌||◌, List, [], ◌∷◌, ◌++◌, map, zip, length, bytes_eq, slice_get, get_or, position, Option, Some, None, refl, sym, ap, ◌∙◌, subst, arith, Decides, if◌then◌else◌, cond, All, IfSome}
use Rattle.std.specs.Prelude.{nat_lt, flat_map}
use Rattle.std.specs.List.{list_any, position_or_len}
use Rattle.std.proofs.lemmas.Bool.{ltb-true, ltb-false}
use Rattle.std.proofs.lemmas.List.{length-append, length-map}
use Rattle.std.proofs.lemmas.List.Quantifiers.{position-Some}
use Rattle.std.proofs.lemmas.Option.{none-some, same_Some, slice_get-get_or}
use Rattle.std.proofs.lemmas.Slice.Eq.{bytes_eq-Decides}
use Rattle.rare_scope.specs.declared.meaning.Meaning.{Meaning}
use Rattle.rare_scope.specs.declared.meaning.Meaning.TheVariants as meaning
use Rattle.rare_scope.specs.Reserved.{is_among, is_theory_word}
use Rattle.rare_scope.specs.Names.{Held, AllDiffer, AreInOrder, IsNumbered, IsScope, width_in, width_names, is_declared, found, found_from, names_with, numbers_with, sort_number, symbol_number, width_number}
use Rattle.rare_scope.specs.inner.Places.{held_by, ArePlaces, IsHeld}
use Rattle.rare_scope.specs.LinearText.{AreBelow, widths_held}

-- ---- what is found

passed : (p : List ℕ → Bool) (ns : List (List ℕ)) → length ns ≤ position_or_len p ns → list_any p ns ≡ false
passed p [] le = refl
passed p (n ∷ ns) le = at (p n) le (λ l. passed p ns l)
  where
    at : (b : Bool) → length (n ∷ ns) ≤ cond (not b) (1 + position_or_len p ns) 0 → (length ns ≤ position_or_len p ns → list_any p ns ≡ false) → (b || list_any p ns) ≡ false
    at true l more = absurd (omega arith)
    at false l more = more (omega arith)

none_of : (p : List ℕ → Bool) (names : List (List ℕ)) → position p names ≡ None → list_any p names ≡ false
none_of p names is = go (nat_lt (position_or_len p names) (length names)) refl is
  where
    go : (b : Bool) → nat_lt (position_or_len p names) (length names) ≡ b → cond b (Some (position_or_len p names)) None ≡ None → list_any p names ≡ false
    go true e is = cc
    go false e is = passed p names (ltb-false (position_or_len p names) (length names) e)

pub either : (a b : Bool) → (a || b) ≡ false → (a ≡ false) × (b ≡ false)
either true b e = absurd cc
either false b e = (refl, e)

-- a name that doesn't stand is not found
absent : (text : List ℕ) (ns : List (List ℕ)) (ms : List Meaning) (so : Option Meaning) → is_among ns text ≡ false → found_from text so (held_by ns ms) ≡ so
absent text [] ms so none = refl
absent text (n ∷ ns) [] so none = refl
absent text (n ∷ ns) (m ∷ ms) so none =
    let parts = either (bytes_eq text n) (list_any (bytes_eq text) ns) none in
    ap (λ b. found_from text (if b then Some m else so) (held_by ns ms)) parts.0 ∙ absent text ns ms so parts.1

pub not_found : (text : List ℕ) (ns : List (List ℕ)) (ms : List Meaning) → position (bytes_eq text) ns ≡ None → None ≡ found (held_by ns ms) text
not_found text ns ms is = sym (absent text ns ms None (none_of (bytes_eq text) ns is))

found_place : (text : List ℕ) (ns : List (List ℕ)) (ms : List Meaning) (so : Option Meaning) (i : ℕ) (m : Meaning) → AllDiffer ns → i < length ns → bytes_eq text (get_or ns i []) ≡ true → slice_get ms i ≡ Some m →
    found_from text so (held_by ns ms) ≡ Some m
found_place text [] ms so i m differ lt same at = absurd (omega arith)
found_place text (n ∷ ns) [] so i m differ lt same at = absurd (none-some m at)
found_place text (n ∷ ns) (k ∷ ms) so zero m differ lt same at =
    let one : text ≡ n = (bytes_eq-Decides text n).0 same in
    ap (λ b. found_from text (if b then Some k else so) (held_by ns ms)) same ∙ (absent text ns ms (Some k) (subst (λ (t : List ℕ). is_among ns t ≡ false) (sym one) differ.0) ∙ at)
found_place text (n ∷ ns) (k ∷ ms) so (suc i) m differ lt same at =
    found_place text ns ms (if bytes_eq text n then Some k else so) i m differ.1 (omega arith) same at

pub names_held : (ns : List (List ℕ)) (ms : List Meaning) → length ns ≡ length ms → map (λ n. n.0) (held_by ns ms) ≡ ns
names_held [] ms even = refl
names_held (n ∷ ns) [] even = absurd (omega arith)
names_held (n ∷ ns) (m ∷ ms) even = ap (λ xs. n ∷ xs) (names_held ns ms (omega arith))

pub is_found : (text : List ℕ) (ns : List (List ℕ)) (ms : List Meaning) (i : ℕ) (m : Meaning) → length ns ≡ length ms → IsScope (held_by ns ms) → position (bytes_eq text) ns ≡ Some i → slice_get ms i ≡ Some m →
    Some m ≡ found (held_by ns ms) text
is_found text ns ms i m even scope is at =
    let p = position-Some (bytes_eq text) ns i [] is in
    sym (found_place text ns ms None i m (subst AllDiffer (names_held ns ms even) scope.differ) p.0 p.1 at)

-- what stands at the place of a name
pub meaning_at : (text : List ℕ) (ns : List (List ℕ)) (ms : List Meaning) (i : ℕ) (m : Meaning) → length ns ≡ length ms → position (bytes_eq text) ns ≡ Some i → m ≡ get_or ms i m → slice_get ms i ≡ Some m
meaning_at text ns ms i m even is at = let lt : i < length ms = omega (arith, (position-Some (bytes_eq text) ns i [] is).0) in slice_get-get_or ms i m lt ∙ ap Some (sym at)

-- ---- which numbers stand

-- the number is one of the list
abbrev Among : ℕ → List ℕ → Type 0
Among k ks = (p : ℕ) × (p < length ks) × (get_or ks p 0 ≡ k)

among_later : (k j : ℕ) (ks : List ℕ) → Among k ks → Among k (j ∷ ks)
among_later k j ks h = (suc h.0, omega arith, h.2)

among_front : (k : ℕ) (js ks : List ℕ) → Among k js → Among k (js ++ ks)
among_front k [] ks h = absurd (omega (arith, h.1))
among_front k (j ∷ js) ks (zero, lt, is) = (0, omega arith, is)
among_front k (j ∷ js) ks (suc p, lt, is) = among_later k j (js ++ ks) (among_front k js ks (p, omega arith, is))

among_back : (k : ℕ) (js ks : List ℕ) → Among k ks → Among k (js ++ ks)
among_back k [] ks h = h
among_back k (j ∷ js) ks h = among_later k j (js ++ ks) (among_back k js ks h)

module _ (number : Meaning → List ℕ) where
  among_numbers : (ns : List (List ℕ)) (ms : List Meaning) (i : ℕ) (m : Meaning) (k : ℕ) → length ns ≡ length ms → slice_get ms i ≡ Some m → Among k (number m) → Among k (numbers_with number (held_by ns ms))
  among_numbers [] [] i m k even at h = absurd (none-some m at)
  among_numbers [] (n ∷ ms) i m k even at h = absurd (omega arith)
  among_numbers (n ∷ ns) [] i m k even at h = absurd (omega arith)
  among_numbers (n ∷ ns) (l ∷ ms) zero m k even at h = among_front k (number l) (numbers_with number (held_by ns ms)) (subst (λ (x : Meaning). Among k (number x)) (sym (same_Some l m at)) h)
  among_numbers (n ∷ ns) (l ∷ ms) (suc i) m k even at h = among_back k (number l) (numbers_with number (held_by ns ms)) (among_numbers ns ms i m k (omega arith) at h)

  pub as_many : (held : Held) → length (numbers_with number held) ≡ length (names_with number held)
  as_many [] = refl
  as_many (x ∷ xs) =
      length-append (number x.1) (numbers_with number xs)
      ∙ ap (λ n. n + length (numbers_with number xs)) (sym (length-map (number x.1) (λ k. x.0)))
      ∙ ap (λ n. length (map (λ k. x.0) (number x.1)) + n) (as_many xs)
      ∙ sym (length-append (map (λ k. x.0) (number x.1)) (names_with number xs))

  below_count : (held : Held) (k : ℕ) → AreInOrder (numbers_with number held) → Among k (numbers_with number held) → k < length (names_with number held)
  below_count held k order (p, lt, is) = let here : get_or (numbers_with number held) p 0 ≡ p = order p lt in omega (arith, lt, here, is, as_many held)

  stands : (ns : List (List ℕ)) (ms : List Meaning) (i : ℕ) (m : Meaning) (k : ℕ) → length ns ≡ length ms → AreInOrder (numbers_with number (held_by ns ms)) → slice_get ms i ≡ Some m → Among k (number m) →
      k < length (names_with number (held_by ns ms))
  stands ns ms i m k even order at h = below_count (held_by ns ms) k order (among_numbers ns ms i m k even at h)

alone : (k : ℕ) → Among k (k ∷ [])
alone k = (0, omega arith, refl)

pub is_numbered : (ns : List (List ℕ)) (ms : List Meaning) (i : ℕ) (m : Meaning) → length ns ≡ length ms → IsScope (held_by ns ms) → slice_get ms i ≡ Some m → IsNumbered (held_by ns ms) m
is_numbered ns ms i (meaning.Sort k) even scope at = stands sort_number ns ms i (meaning.Sort k) k even scope.sorts at (alone k)
is_numbered ns ms i (meaning.Symbol k) even scope at = stands symbol_number ns ms i (meaning.Symbol k) k even scope.symbols at (alone k)
is_numbered ns ms i (meaning.Width k) even scope at = stands width_number ns ms i (meaning.Width k) k even scope.widths at (alone k)
is_numbered ns ms i (meaning.Term id) even scope at = tt

pub as_long : (ns : List (List ℕ)) (ms : List Meaning) → length ns ≡ length ms → length (held_by ns ms) ≡ length ns
as_long [] [] even = refl
as_long [] (m ∷ ms) even = absurd (omega arith)
as_long (n ∷ ns) [] even = absurd (omega arith)
as_long (n ∷ ns) (m ∷ ms) even = ap suc (as_long ns ms (omega arith))

-- a name that is no word is declared where it stands
pub declared_is : (name : List ℕ) (ns : List (List ℕ)) (ms : List Meaning) → length ns ≡ length ms → is_theory_word name ≡ false → list_any (bytes_eq name) ns ≡ is_declared (held_by ns ms) name
declared_is name ns ms even no_word =
    sym (ap (λ b. b || is_among (map (λ n. n.0) (held_by ns ms)) name) no_word ∙ ap (λ xs. is_among xs name) (names_held ns ms even))

pub is_new : (name : List ℕ) (ns : List (List ℕ)) (ms : List Meaning) → length ns ≡ length ms → is_declared (held_by ns ms) name ≡ false → list_any (bytes_eq name) ns ≡ false
is_new name ns ms even new = ap (λ xs. is_among xs name) (sym (names_held ns ms even)) ∙ (either (is_theory_word name) (is_among (map (λ n. n.0) (held_by ns ms)) name) new).1

-- what holds of all meanings holds of what is found
pub found_all : (P : Meaning → Type 0) (text : List ℕ) (held : Held) (so : Option Meaning) (m : Meaning) → IfSome so P → All (λ n. P n.1) held → found_from text so held ≡ Some m → P m
found_all P text [] so m h all is = some_is so h is
  where
    some_is : (o : Option Meaning) → IfSome o P → o ≡ Some m → P m
    some_is (Some k) h e = subst P (same_Some k m e) h
    some_is None h e = absurd (none-some m e)
found_all P text (n ∷ ns) so m h all is = go (bytes_eq text n.0) is (λ o ho e. found_all P text ns o m ho (λ k d lt. all (suc k) d (omega arith)) e)
  where
    go : (b : Bool) → found_from text (if b then Some n.1 else so) ns ≡ Some m → ((o : Option Meaning) → IfSome o P → found_from text o ns ≡ Some m → P m) → P m
    go true e rest = rest (Some n.1) (all 0 n (omega arith)) e
    go false e rest = rest so h e

second_at : (ns : List (List ℕ)) (ms : List Meaning) (i : ℕ) (d : List ℕ × Meaning) → length ns ≡ length ms → i < length ms → (get_or (held_by ns ms) i d).1 ≡ get_or ms i d.1
second_at [] [] i d even lt = absurd (omega (arith, lt))
second_at [] (m ∷ ms) i d even lt = absurd (omega arith)
second_at (n ∷ ns) [] i d even lt = absurd (omega arith)
second_at (n ∷ ns) (m ∷ ms) zero d even lt = refl
second_at (n ∷ ns) (m ∷ ms) (suc i) d even lt = second_at ns ms i d (omega arith) (omega arith)

all_numbered : (ns : List (List ℕ)) (ms : List Meaning) → length ns ≡ length ms → IsScope (held_by ns ms) → All (λ n. IsNumbered (held_by ns ms) n.1) (held_by ns ms)
all_numbered ns ms even scope i d lt =
    let within : i < length ms = omega (arith, lt, as_long ns ms even, even) in
    subst (λ (m : Meaning). IsNumbered (held_by ns ms) m) (sym (second_at ns ms i d even within)) (is_numbered ns ms i (get_or ms i d.1) even scope (slice_get-get_or ms i d.1 within))

numbered_width : (held : Held) (o : Option Meaning) → ((m : Meaning) → o ≡ Some m → IsNumbered held m) → IfSome (width_in o) (λ k. k < length (width_names held))
numbered_width held None h = tt
numbered_width held (Some (meaning.Sort k)) h = tt
numbered_width held (Some (meaning.Symbol k)) h = tt
numbered_width held (Some (meaning.Width k)) h = h (meaning.Width k) refl
numbered_width held (Some (meaning.Term id)) h = tt

-- the numbers of the widths of a scope are below their count
pub numbers_below : (ns : List (List ℕ)) (ms : List Meaning) → length ns ≡ length ms → IsScope (held_by ns ms) → AreBelow (length (width_names (held_by ns ms))) (widths_held (held_by ns ms))
numbers_below ns ms even scope = record {
  numbers = λ text. numbered_width (held_by ns ms) (found (held_by ns ms) text) (λ m is. found_all (IsNumbered (held_by ns ms)) text (held_by ns ms) None m tt (all_numbered ns ms even scope) is);
  sizes = λ text. tt;
}

-- as many places as names
pub count_places : (ns : List (List ℕ)) (ms : List Meaning) (ws : List ℕ) → ArePlaces width_number ns ms ws → length ws ≡ length (width_names (held_by ns ms))
count_places ns ms ws places = sym (ap length places.names ∙ length-map ws (λ p. get_or ns p []))
