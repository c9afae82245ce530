-- The steps of a reading of a sort.
use Rattle.std.proofs.Common.{◌≡◌, ℕ, zero, suc, ◌+◌, ◌<◌, ◌≤◌, max, Bool as Test, true, false, ◌&&◌, List, [], ◌∷◌, map, length, slice_get, Option, Some, None, Result, Ok, Err, IfSome, All, IsTrue, refl, sym, ap, ◌∙◌, subst, arith, if◌then◌else◌, get_or, option_map}
use Rattle.std.specs.Prelude.{pos, negsuc, codes, nat_le, nat_lt, bytes_eq}
use Rattle.std.proofs.lemmas.Bool.{lt-ltb}
use Rattle.std.proofs.lemmas.Option.{none-some, same_Some}
use Rattle.rare_base.specs.declared.answers.Reason.TheVariants as reason
use Rattle.rare_linear.specs.Linears.{Part, LinearExpression, NamesBelow, number, add, scale}
use Rattle.rare_linear.specs.Entailment.{minus}
use Rattle.rare_linear.proofs.Names.{NamesBelow-add}
use Rattle.rare_linear.specs.PartialSums.{IsWithin}
use Rattle.rare_linear.specs.EntailmentTest.{is_within, is_entailed}
use Rattle.rare_linear.proofs.EntailmentTestLemmas.{is_within-Decides}
use Rattle.rare_sexpr.specs.declared.tree.Sexpr.{Sexpr}
use Rattle.rare_sexpr.specs.Tree.{items_of, kind_of, text_of}
use Rattle.rare_sexpr.proofs.Trees.{go_out}
use Rattle.rare_sort.specs.SortRules.{less_one}
use Rattle.rare_sort.specs.DeclaredSorts.{widths, follows, is_sort, is_sort_step, names_below, sort_nesting, sort_nesting_step, MOST_NESTED_SORTS}
use Rattle.rare_sort.specs.declared.declarations.Declarations.{Declarations}
use Rattle.rare_sort.specs.declared.sort.Sort.{Sort, Bool, Int, BitVec, Named}
use Rattle.rare_sort.specs.declared.sort.Sort.TheOpen as shape
use Rattle.rare_sort.specs.declared.sort.Sort.TheViews.{Array, roll-Sort}
use Rattle.rare_sort.specs.declared.sort.Sort.TheFolds.{fold-roll-Sort}
use Rattle.rare_sort.specs.declared.tree.Tree.{Tree}
use Rattle.rare_sort.proofs.NeedsLemmas.{and_both, is_sort-roll}
use denote.Hole.Carrier
use Rattle.rare_term.specs.State.{State}
use Rattle.rare_scope.specs.declared.meaning.Meaning.{Meaning}
use Rattle.rare_scope.specs.declared.meaning.Meaning.TheVariants as meaning
use Rattle.rare_scope.specs.declared.sort.NestedSort.{NestedSort}
use Rattle.rare_scope.specs.Reading.{Read, refused, go_on, is_symbol_kind, is_word}
use Rattle.rare_scope.specs.Names.{Names, Held, Meant, found, found_from, meant, names_of, width_meant, width_among, width_in, sort_meant, sort_among, sort_in, IsMeant, AreMeant}
use Rattle.rare_scope.specs.LinearText.{WidthNames, AreBelow, widths_of, widths_held, linear_at}
use Rattle.rare_scope.specs.SortText.{sort_or, symbol_sort, declared_sort, bit_vectors, shallow, indexed_sort, list_sort, sort_by, sort_at}
use Rattle.rare_scope.proofs.ScopeLemmas.{found_all}
use Rattle.rare_scope.specs.inner.SortReading.{IsNestedSort}

-- ---- names by ids and names by trees

found_mapped : (ts : List Tree) (text : List ℕ) (m : Option Meaning) (held : Held) → found_from text (option_map (meant ts) m) (names_of ts held) ≡ option_map (meant ts) (found_from text m held)
found_mapped ts text m [] = refl
found_mapped ts text m (n ∷ ns) = go (bytes_eq text n.0) (λ k. found_mapped ts text k ns)
  where
    go : (b : Test) → ((k : Option Meaning) → found_from text (option_map (meant ts) k) (names_of ts ns) ≡ option_map (meant ts) (found_from text k ns)) →
        found_from text (if b then Some (meant ts n.1) else option_map (meant ts) m) (names_of ts ns) ≡ option_map (meant ts) (found_from text (if b then Some n.1 else m) ns)
    go true ih = ih (Some n.1)
    go false ih = ih m

-- what a name means by trees
pub found_meant : (ts : List Tree) (held : Held) (text : List ℕ) → found (names_of ts held) text ≡ option_map (meant ts) (found held text)
found_meant ts held text = found_mapped ts text None held

width_by : (ts : List Tree) (m : Option Meaning) → width_meant (option_map (meant ts) m) ≡ width_in m
width_by ts None = refl
width_by ts (Some (meaning.Sort k)) = refl
width_by ts (Some (meaning.Symbol k)) = refl
width_by ts (Some (meaning.Width k)) = refl
width_by ts (Some (meaning.Term id)) = refl

sort_by_meaning : (ts : List Tree) (m : Option Meaning) → sort_meant (option_map (meant ts) m) ≡ sort_in m
sort_by_meaning ts None = refl
sort_by_meaning ts (Some (meaning.Sort k)) = refl
sort_by_meaning ts (Some (meaning.Symbol k)) = refl
sort_by_meaning ts (Some (meaning.Width k)) = refl
sort_by_meaning ts (Some (meaning.Term id)) = refl

pub sort_held : (ts : List Tree) (held : Held) (text : List ℕ) → sort_among (names_of ts held) text ≡ sort_in (found held text)
sort_held ts held text = ap sort_meant (found_meant ts held text) ∙ sort_by_meaning ts (found held text)

pub width_held : (ts : List Tree) (held : Held) (text : List ℕ) → width_among (names_of ts held) text ≡ width_in (found held text)
width_held ts held text = ap width_meant (found_meant ts held text) ∙ width_by ts (found held text)

-- the width names are the same
pub same_widths : (ts : List Tree) (held : Held) → widths_of (names_of ts held) ≡ widths_held held
same_widths ts held = λ i. record { number = λ text. width_held ts held text i; size = None }

-- ---- what is found is of the terms

pub found_is : (s : State) (held : Held) (text : List ℕ) (m : Meaning) → AreMeant s held → found held text ≡ Some m → IsMeant s m
found_is s held text m all is = found_all (IsMeant s) text held None m tt all is

number_below : (s : State) (m : Option Meaning) → IfSome m (IsMeant s) → IfSome (width_in m) (λ k. k < widths s.declared)
number_below s None h = tt
number_below s (Some (meaning.Sort k)) h = tt
number_below s (Some (meaning.Symbol k)) h = tt
number_below s (Some (meaning.Width k)) h = h
number_below s (Some (meaning.Term id)) h = tt

found_fine : (s : State) (held : Held) (text : List ℕ) → AreMeant s held → IfSome (found held text) (IsMeant s)
found_fine s held text all = go (found held text) (λ m e. found_is s held text m all e)
  where
    go : (o : Option Meaning) → ((m : Meaning) → o ≡ Some m → IsMeant s m) → IfSome o (IsMeant s)
    go (Some m) h = h m refl
    go None h = tt

-- the width names of a scope are below the number of widths
pub widths_below : (s : State) (held : Held) → AreMeant s held → AreBelow (widths s.declared) (widths_held held)
widths_below s held all = record { numbers = λ text. number_below s (found held text) (found_fine s held text all); sizes = λ text. tt }

sort_number_below : (s : State) (m : Option Meaning) (k : ℕ) → IfSome m (IsMeant s) → sort_in m ≡ Some k → k < s.declared.sorts
sort_number_below s None k h is = absurd (none-some k is)
sort_number_below s (Some (meaning.Sort j)) k h is = subst (λ (n : ℕ). n < s.declared.sorts) (same_Some j k is) h
sort_number_below s (Some (meaning.Symbol j)) k h is = absurd (none-some k is)
sort_number_below s (Some (meaning.Width j)) k h is = absurd (none-some k is)
sort_number_below s (Some (meaning.Term id)) k h is = absurd (none-some k is)

-- the sorts of a scope are below the number of sorts
pub sort_below : (s : State) (held : Held) (text : List ℕ) (k : ℕ) → AreMeant s held → sort_in (found held text) ≡ Some k → k < s.declared.sorts
sort_below s held text k all is = sort_number_below s (found held text) k (found_fine s held text all) is

-- ---- sorts of the declarations

below_of : (n : ℕ) (ps : List Part) → NamesBelow n ps → names_below n ps ≡ true
below_of n [] h = refl
below_of n (p ∷ ps) h = and_both (nat_lt p.0 n) (names_below n ps) (lt-ltb p.0 n h.0) (below_of n ps h.1)

not_true : (b : Test) → (b ≡ true → ⊥) → b ≡ false
not_true true h = absurd (h refl)
not_true false h = refl

-- what is not within i128 does not follow
pub wide_follows : (d : Declarations) (e : LinearExpression) → ¬ IsWithin e → false ≡ follows d e
unfolding follows is_entailed
wide_follows d e out = sym (and_first (is_within e) _ (not_true (is_within e) (λ t. out ((is_within-Decides e).0 t))))
  where
    and_first : (b c : Test) → b ≡ false → (b && c) ≡ false
    and_first true c is = absurd cc
    and_first false c is = refl

module _ (d : Declarations) where
  pub bool_nested : (n : NestedSort) → n.sort ≡ Bool → n.nesting ≡ 1 → IsNestedSort d n
  unfolding roll-Sort Carrier.roll
  bool_nested n is one = record {
    declared = ap (is_sort d) is ∙ is_sort-roll d shape.Bool;
    nesting = one ∙ sym (ap sort_nesting is ∙ fold-roll-Sort ℕ sort_nesting_step shape.Bool);
    shallow = omega (arith, one);
  }

  pub int_nested : (n : NestedSort) → n.sort ≡ Int → n.nesting ≡ 1 → IsNestedSort d n
  unfolding roll-Sort Carrier.roll
  int_nested n is one = record {
    declared = ap (is_sort d) is ∙ is_sort-roll d shape.Int;
    nesting = one ∙ sym (ap sort_nesting is ∙ fold-roll-Sort ℕ sort_nesting_step shape.Int);
    shallow = omega (arith, one);
  }

  pub named_nested : (n : NestedSort) (k : ℕ) → k < d.sorts → n.sort ≡ Named k → n.nesting ≡ 1 → IsNestedSort d n
  unfolding roll-Sort Carrier.roll
  named_nested n k lt is one = record {
    declared = ap (is_sort d) is ∙ is_sort-roll d (shape.Named k) ∙ lt-ltb k d.sorts lt;
    nesting = one ∙ sym (ap sort_nesting is ∙ fold-roll-Sort ℕ sort_nesting_step (shape.Named k));
    shallow = omega (arith, one);
  }

  pub word_nested : (n : NestedSort) (w : LinearExpression) → NamesBelow (widths d) w.parts → follows d (less_one w) ≡ true → n.sort ≡ BitVec w → n.nesting ≡ 1 → IsNestedSort d n
  unfolding roll-Sort Carrier.roll
  word_nested n w named least is one = record {
    declared = ap (is_sort d) is ∙ is_sort-roll d (shape.BitVec w) ∙ and_both (names_below (widths d) w.parts) (follows d (less_one w)) (below_of (widths d) w.parts named) least;
    nesting = one ∙ sym (ap sort_nesting is ∙ fold-roll-Sort ℕ sort_nesting_step (shape.BitVec w));
    shallow = omega (arith, one);
  }

  pub array_nested : (n a b : NestedSort) → IsNestedSort d a → IsNestedSort d b → n.sort ≡ Array a.sort b.sort → n.nesting ≡ 1 + max a.nesting b.nesting → n.nesting ≤ MOST_NESTED_SORTS → IsNestedSort d n
  unfolding roll-Sort Carrier.roll
  array_nested n a b ha hb is nest le = record {
    declared = ap (is_sort d) is ∙ is_sort-roll d (shape.Array a.sort b.sort) ∙ and_both (is_sort d a.sort) (is_sort d b.sort) ha.declared hb.declared;
    nesting = nest ∙ ap (λ k. 1 + max k b.nesting) ha.nesting ∙ ap (λ k. 1 + max (sort_nesting a.sort) k) hb.nesting ∙ sym (ap sort_nesting is ∙ fold-roll-Sort ℕ sort_nesting_step (shape.Array a.sort b.sort));
    shallow = le;
  }

pub less_one_named : (n : ℕ) (w floor : LinearExpression) → floor ≡ minus w (number (pos 1)) → NamesBelow n w.parts → NamesBelow n floor.parts
less_one_named n w floor is h = subst (λ (x : LinearExpression). NamesBelow n x.parts) (sym is) (NamesBelow-add n w (scale (negsuc 0) (number (pos 1))) h tt)

-- ---- symbols

module _ (ts : List Tree) (held : Held) (e : Sexpr) where
  other_word : bytes_eq (text_of e) (codes "Bool") ≡ false → bytes_eq (text_of e) (codes "Int") ≡ false → symbol_sort (names_of ts held) e ≡ declared_sort e (sort_in (found held (text_of e)))
  other_word no_bool no_int =
      ap (λ b. sort_or (if b then Some Bool else (if bytes_eq (text_of e) (codes "Int") then Some Int else None)) (declared_sort e (sort_among (names_of ts held) (text_of e)))) no_bool
      ∙ ap (λ b. sort_or (if b then Some Int else None) (declared_sort e (sort_among (names_of ts held) (text_of e)))) no_int
      ∙ ap (declared_sort e) (sort_held ts held (text_of e))

  pub numbered_sort : (k : ℕ) → bytes_eq (text_of e) (codes "Bool") ≡ false → bytes_eq (text_of e) (codes "Int") ≡ false → sort_in (found held (text_of e)) ≡ Some k → symbol_sort (names_of ts held) e ≡ Ok (Named k)
  numbered_sort k no_bool no_int is = other_word no_bool no_int ∙ ap (declared_sort e) is

  pub unknown_sort : bytes_eq (text_of e) (codes "Bool") ≡ false → bytes_eq (text_of e) (codes "Int") ≡ false → sort_in (found held (text_of e)) ≡ None → symbol_sort (names_of ts held) e ≡ refused e reason.UnknownSymbol
  unknown_sort no_bool no_int is = other_word no_bool no_int ∙ ap (declared_sort e) is

module _ (d : Declarations) (ts : List Tree) (held : Held) (e h x y : Sexpr) where
  abbrev Words : Type 0
  Words = (is_word (codes "_") h && is_word (codes "BitVec") x) ≡ true

  pub bits_read : Words → indexed_sort d (names_of ts held) e h x y ≡ go_on (linear_at (widths_held held) y) (λ w. bit_vectors d e w)
  bits_read is =
      ap (λ b. if b then (go_on (linear_at (widths_of (names_of ts held)) y) (λ w. bit_vectors d e w)) else (refused e reason.BadSort)) is
      ∙ ap (λ w. go_on (linear_at w y) (λ l. bit_vectors d e l)) (same_widths ts held)

  pub no_bits_read : (is_word (codes "_") h && is_word (codes "BitVec") x) ≡ false → indexed_sort d (names_of ts held) e h x y ≡ refused e reason.BadSort
  no_bits_read is = ap (λ b. if b then (go_on (linear_at (widths_of (names_of ts held)) y) (λ w. bit_vectors d e w)) else (refused e reason.BadSort)) is

-- ---- one level of a reading

module _ (d : Declarations) (names : Names) where
  abbrev pub pair : Sexpr → Sexpr × Read Sort
  pair x = (x, sort_at d names x)

  sort_out : (e : Sexpr) → sort_at d names e ≡ sort_by d names e (is_symbol_kind (kind_of e)) (map pair (items_of e))
  sort_out e = go_out (Read Sort) (λ e items. sort_by d names e (is_symbol_kind (kind_of e)) items) e

  pub symbol_read : (e : Sexpr) → is_symbol_kind (kind_of e) ≡ true → sort_at d names e ≡ symbol_sort names e
  symbol_read e is = sort_out e ∙ ap (λ b. sort_by d names e b (map pair (items_of e))) is

  list_read : (e : Sexpr) → is_symbol_kind (kind_of e) ≡ false → sort_at d names e ≡ list_sort d names e (map pair (items_of e))
  list_read e is = sort_out e ∙ ap (λ b. sort_by d names e b (map pair (items_of e))) is

  other : (e : Sexpr) (xs : List Sexpr) → ¬ (length xs ≡ 3) → list_sort d names e (map pair xs) ≡ refused e reason.BadSort
  other e [] ne = refl
  other e (a ∷ []) ne = refl
  other e (a ∷ b ∷ []) ne = refl
  other e (a ∷ b ∷ c ∷ []) ne = absurd (ne refl)
  other e (a ∷ b ∷ c ∷ x ∷ xs) ne = refl

  pub other_read : (e : Sexpr) → is_symbol_kind (kind_of e) ≡ false → ¬ (length (items_of e) ≡ 3) → sort_at d names e ≡ refused e reason.BadSort
  other_read e is ne = list_read e is ∙ other e (items_of e) ne

  three : (e h x y : Sexpr) (xs : List Sexpr) → length xs ≡ 3 → slice_get xs 0 ≡ Some h → slice_get xs 1 ≡ Some x → slice_get xs 2 ≡ Some y →
      list_sort d names e (map pair xs) ≡ list_sort d names e (pair h ∷ pair x ∷ pair y ∷ [])
  three e h x y [] len p q r = absurd (none-some h p)
  three e h x y (a ∷ []) len p q r = absurd (none-some x q)
  three e h x y (a ∷ b ∷ []) len p q r = absurd (none-some y r)
  three e h x y (a ∷ b ∷ c ∷ []) len p q r =
      ap (λ z. list_sort d names e (pair z ∷ pair b ∷ pair c ∷ [])) (same_Some a h p)
      ∙ ap (λ z. list_sort d names e (pair h ∷ pair z ∷ pair c ∷ [])) (same_Some b x q)
      ∙ ap (λ z. list_sort d names e (pair h ∷ pair x ∷ pair z ∷ [])) (same_Some c y r)
  three e h x y (a ∷ b ∷ c ∷ z ∷ xs) len p q r = absurd (omega (arith, len))

  pub indexed_read : (e h x y : Sexpr) → is_symbol_kind (kind_of e) ≡ false → length (items_of e) ≡ 3 → slice_get (items_of e) 0 ≡ Some h → slice_get (items_of e) 1 ≡ Some x → slice_get (items_of e) 2 ≡ Some y →
      is_word (codes "Array") h ≡ false → sort_at d names e ≡ indexed_sort d names e h x y
  indexed_read e h x y is len p q r word =
      list_read e is ∙ three e h x y (items_of e) len p q r
      ∙ ap (λ b. if b then (go_on (sort_at d names x) (λ keys. go_on (sort_at d names y) (λ entries. shallow e (Array keys entries)))) else (indexed_sort d names e h x y)) word

  pub array_read : (e h x y : Sexpr) → is_symbol_kind (kind_of e) ≡ false → length (items_of e) ≡ 3 → slice_get (items_of e) 0 ≡ Some h → slice_get (items_of e) 1 ≡ Some x → slice_get (items_of e) 2 ≡ Some y →
      is_word (codes "Array") h ≡ true → sort_at d names e ≡ go_on (sort_at d names x) (λ keys. go_on (sort_at d names y) (λ entries. shallow e (Array keys entries)))
  array_read e h x y is len p q r word =
      list_read e is ∙ three e h x y (items_of e) len p q r
      ∙ ap (λ b. if b then (go_on (sort_at d names x) (λ keys. go_on (sort_at d names y) (λ entries. shallow e (Array keys entries)))) else (indexed_sort d names e h x y)) word
