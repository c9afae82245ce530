-- The steps of a reading of a sort in a rule.
use Rattle.std.proofs.Common.{◌≡◌, ℕ, ◌+◌, ◌≤◌, max, true, false, ◌&&◌, List, [], ◌∷◌, map, length, slice_get, Some, None, Ok, refl, sym, ap, ◌∙◌, arith, if◌then◌else◌}
use Rattle.std.specs.Prelude.{codes, bytes_eq}
use Rattle.std.proofs.lemmas.Option.{none-some, same_Some}
use Rattle.rare_base.specs.declared.answers.Reason.TheVariants as reason
use Rattle.rare_linear.specs.Linears.{LinearExpression}
use Rattle.rare_sexpr.specs.declared.tree.Sexpr.{Sexpr}
use Rattle.rare_sexpr.specs.Tree.{items_of, kind_of, text_of}
use Rattle.rare_sexpr.proofs.Trees.{go_out}
use Rattle.rare_sort.specs.DeclaredSorts.{sort_nesting, sort_nesting_step, MOST_NESTED_SORTS}
use Rattle.rare_sort.specs.declared.sort.Sort.{Sort, Bool, Int, BitVec, Named, roll-Sort}
use Rattle.rare_sort.specs.declared.sort.Sort.TheOpen as shape
use Rattle.rare_sort.specs.declared.sort.Sort.TheFolds.{fold-roll-Sort}
use Rattle.rare_sort.specs.declared.sort.Sort.TheViews.{Array}
use Rattle.rare_scope.specs.Reading.{Read, refused, go_on, is_symbol_kind, is_word}
use Rattle.rare_scope.specs.Reserved.{is_among}
use Rattle.rare_scope.specs.SortText.{declared_sort, sort_or, shallow}
use Rattle.rare_rule.specs.declared.param.Param.{Param}
use Rattle.rare_rule.proofs.Walks.{nesting-Bool, nesting-Int, nesting-BitVec, nesting-Named}
use Rattle.rare_parse.specs.declared.sort.NestedSort.{NestedSort}
use Rattle.rare_parse.specs.RuleNames.{sort_named}
use Rattle.rare_parse.specs.RuleSortText.{fresh_words, name_sort, symbol_sort, word_sort, indexed_sort, list_sort, sort_by, rule_sort_at}
use Rattle.rare_parse.specs.inner.SortReading.{IsNested, pair_sort}
use denote.Hole.Carrier

-- ---- nestings

pub bool_nested : (n : NestedSort) → n.sort ≡ Bool → n.nesting ≡ 1 → IsNested n
bool_nested n is one = record { nesting = one ∙ sym (ap sort_nesting is ∙ nesting-Bool); shallow = omega (arith, one) }

pub int_nested : (n : NestedSort) → n.sort ≡ Int → n.nesting ≡ 1 → IsNested n
int_nested n is one = record { nesting = one ∙ sym (ap sort_nesting is ∙ nesting-Int); shallow = omega (arith, one) }

pub named_nested : (n : NestedSort) (k : ℕ) → n.sort ≡ Named k → n.nesting ≡ 1 → IsNested n
named_nested n k is one = record { nesting = one ∙ sym (ap sort_nesting is ∙ nesting-Named k); shallow = omega (arith, one) }

pub word_nested : (n : NestedSort) (w : LinearExpression) → n.sort ≡ BitVec w → n.nesting ≡ 1 → IsNested n
word_nested n w is one = record { nesting = one ∙ sym (ap sort_nesting is ∙ nesting-BitVec w); shallow = omega (arith, one) }

pub array_nesting : (a b : Sort) → sort_nesting (Array a b) ≡ 1 + max (sort_nesting a) (sort_nesting b)
unfolding roll-Sort Carrier.roll
array_nesting a b = fold-roll-Sort ℕ sort_nesting_step (shape.Array a b)

pub array_nested : (n a b : NestedSort) → IsNested a → IsNested b → n.sort ≡ Array a.sort b.sort → n.nesting ≡ 1 + max a.nesting b.nesting → n.nesting ≤ MOST_NESTED_SORTS → IsNested n
array_nested n a b ha hb is nest le = record {
  nesting = nest ∙ ap (λ k. 1 + max k b.nesting) ha.nesting ∙ ap (λ k. 1 + max (sort_nesting a.sort) k) hb.nesting ∙ sym (ap sort_nesting is ∙ array_nesting a.sort b.sort);
  shallow = le;
}

-- ---- symbols

module _ (ps : List Param) (e : Sexpr) where
  pub fresh_name : is_among fresh_words (text_of e) ≡ true → name_sort ps e ≡ refused e reason.BadSort
  fresh_name is = ap (λ b. if b then (refused e reason.BadSort) else declared_sort e (sort_named ps (text_of e))) is

  old_name : is_among fresh_words (text_of e) ≡ false → name_sort ps e ≡ declared_sort e (sort_named ps (text_of e))
  old_name is = ap (λ b. if b then (refused e reason.BadSort) else declared_sort e (sort_named ps (text_of e))) is

  pub known_name : (k : ℕ) → is_among fresh_words (text_of e) ≡ false → sort_named ps (text_of e) ≡ Some k → name_sort ps e ≡ Ok (Named k)
  known_name k no_word is = old_name no_word ∙ ap (declared_sort e) is

  pub unknown_name : is_among fresh_words (text_of e) ≡ false → sort_named ps (text_of e) ≡ None → name_sort ps e ≡ refused e reason.UnknownSymbol
  unknown_name no_word is = old_name no_word ∙ ap (declared_sort e) is

  pub other_symbol : bytes_eq (text_of e) (codes "Bool") ≡ false → bytes_eq (text_of e) (codes "Int") ≡ false → symbol_sort ps e ≡ name_sort ps e
  other_symbol no_bool no_int =
      ap (λ b. sort_or (if b then Some Bool else (if bytes_eq (text_of e) (codes "Int") then Some Int else None)) (name_sort ps e)) no_bool
      ∙ ap (λ b. sort_or (if b then Some Int else None) (name_sort ps e)) no_int

-- ---- `(_ BitVec E)`

module _ (ps : List Param) (e h x y : Sexpr) where
  pub indexed_word : (is_word (codes "_") h && is_word (codes "BitVec") x) ≡ true → indexed_sort ps e h x y ≡ word_sort ps y
  indexed_word is = ap (λ b. if b then word_sort ps y else (refused e reason.BadSort)) is

  pub no_indexed_word : (is_word (codes "_") h && is_word (codes "BitVec") x) ≡ false → indexed_sort ps e h x y ≡ refused e reason.BadSort
  no_indexed_word is = ap (λ b. if b then word_sort ps y else (refused e reason.BadSort)) is

-- ---- one level of a reading

module _ (ps : List Param) where
  abbrev pub pair : Sexpr → Sexpr × Read Sort
  pair x = (x, rule_sort_at ps x)

  sort_out : (e : Sexpr) → rule_sort_at ps e ≡ sort_by ps e (is_symbol_kind (kind_of e)) (map pair (items_of e))
  sort_out e = go_out (Read Sort) (λ e items. sort_by ps e (is_symbol_kind (kind_of e)) items) e

  pub symbol_read : (e : Sexpr) → is_symbol_kind (kind_of e) ≡ true → rule_sort_at ps e ≡ symbol_sort ps e
  symbol_read e is = sort_out e ∙ ap (λ b. sort_by ps e b (map pair (items_of e))) is

  module _ (e : Sexpr) (no_symbol : is_symbol_kind (kind_of e) ≡ false) where
    list_read : rule_sort_at ps e ≡ list_sort ps e (map pair (items_of e))
    list_read = sort_out e ∙ ap (λ b. sort_by ps e b (map pair (items_of e))) no_symbol

    two : (h x : Sexpr) (xs : List Sexpr) → length xs ≡ 2 → slice_get xs 0 ≡ Some h → slice_get xs 1 ≡ Some x → list_sort ps e (map pair xs) ≡ list_sort ps e (pair h ∷ pair x ∷ [])
    two h x [] len p q = absurd (none-some h p)
    two h x (a ∷ []) len p q = absurd (none-some x q)
    two h x (a ∷ b ∷ []) len p q =
        ap (λ z. list_sort ps e (pair z ∷ pair b ∷ [])) (same_Some a h p)
        ∙ ap (λ z. list_sort ps e (pair h ∷ pair z ∷ [])) (same_Some b x q)
    two h x (a ∷ b ∷ c ∷ xs) len p q = absurd (omega (arith, len))

    pub pair_read : (h x : Sexpr) → length (items_of e) ≡ 2 → slice_get (items_of e) 0 ≡ Some h → slice_get (items_of e) 1 ≡ Some x → rule_sort_at ps e ≡ pair_sort ps e h x
    pair_read h x len p q = list_read ∙ two h x (items_of e) len p q

    other : (xs : List Sexpr) → ¬ (length xs ≡ 2) → ¬ (length xs ≡ 3) → list_sort ps e (map pair xs) ≡ refused e reason.BadSort
    other [] no_two no_three = refl
    other (a ∷ []) no_two no_three = refl
    other (a ∷ b ∷ []) no_two no_three = absurd (no_two refl)
    other (a ∷ b ∷ c ∷ []) no_two no_three = absurd (no_three refl)
    other (a ∷ b ∷ c ∷ x ∷ xs) no_two no_three = refl

    pub other_read : ¬ (length (items_of e) ≡ 2) → ¬ (length (items_of e) ≡ 3) → rule_sort_at ps e ≡ refused e reason.BadSort
    other_read no_two no_three = list_read ∙ other (items_of e) no_two no_three

    three : (h x y : Sexpr) (xs : List Sexpr) → length xs ≡ 3 → slice_get xs 0 ≡ Some h → slice_get xs 1 ≡ Some x → slice_get xs 2 ≡ Some y → list_sort ps e (map pair xs) ≡ list_sort ps e (pair h ∷ pair x ∷ pair y ∷ [])
    three h x y [] len p q r = absurd (none-some h p)
    three h x y (a ∷ []) len p q r = absurd (none-some x q)
    three h x y (a ∷ b ∷ []) len p q r = absurd (none-some y r)
    three h x y (a ∷ b ∷ c ∷ []) len p q r =
        ap (λ z. list_sort ps e (pair z ∷ pair b ∷ pair c ∷ [])) (same_Some a h p)
        ∙ ap (λ z. list_sort ps e (pair h ∷ pair z ∷ pair c ∷ [])) (same_Some b x q)
        ∙ ap (λ z. list_sort ps e (pair h ∷ pair x ∷ pair z ∷ [])) (same_Some c y r)
    three h x y (a ∷ b ∷ c ∷ z ∷ xs) len p q r = absurd (omega (arith, len))

    module _ (h x y : Sexpr) (len : length (items_of e) ≡ 3) (p : slice_get (items_of e) 0 ≡ Some h) (q : slice_get (items_of e) 1 ≡ Some x) (r : slice_get (items_of e) 2 ≡ Some y) where
      abbrev array_of : Read Sort
      array_of = go_on (rule_sort_at ps x) (λ keys. go_on (rule_sort_at ps y) (λ entries. shallow e (Array keys entries)))

      pub indexed_read : is_word (codes "Array") h ≡ false → rule_sort_at ps e ≡ indexed_sort ps e h x y
      indexed_read word = list_read ∙ three h x y (items_of e) len p q r ∙ ap (λ b. if b then array_of else (indexed_sort ps e h x y)) word

      pub array_read : is_word (codes "Array") h ≡ true → rule_sort_at ps e ≡ go_on (rule_sort_at ps x) (λ keys. go_on (rule_sort_at ps y) (λ entries. shallow e (Array keys entries)))
      array_read word = list_read ∙ three h x y (items_of e) len p q r ∙ ap (λ b. if b then array_of else (indexed_sort ps e h x y)) word
