-- The text of a sort is read as the sort.
use Rattle.std.proofs.Common.{◌≡◌, ℕ, suc, ◌+◌, ◌<◌, ◌≤◌, max, Bool as Test, true, false, ◌&&◌, List, [], ◌∷◌, ◌++◌, length, bytes_eq, get_or, Some, Ok, All, IsTrue, refl, sym, ap, ◌∙◌, subst, arith, if◌then◌else◌, slice_get}
use Rattle.std.specs.Prelude.{codes, slice_index_or, nat_le, nat_lt}
use Rattle.std.proofs.lemmas.Bool.{ltb-true}
use Rattle.std.proofs.lemmas.Bool.Decides.{nat_tests}
use Rattle.std.proofs.lemmas.List.{length-append}
use Rattle.std.proofs.Math.ListN.{get_or-append}
use Rattle.rare_base.specs.declared.answers.Reason.TheVariants.{BadSort, TermLimit}
use Rattle.rare_linear.specs.Linears.{LinearExpression, NamesBelow}
use Rattle.rare_sexpr.specs.declared.tree.AtomKind.TheVariants as atom
use Rattle.rare_sexpr.specs.declared.tree.Sexpr.{Sexpr}
use Rattle.rare_sexpr.specs.Tree.{text_of}
use Rattle.rare_sort.specs.SortRules.{less_one}
use Rattle.rare_sort.specs.DeclaredSorts.{widths, follows, is_sort, names_below, sort_nesting, sort_nesting_step, IsDeclaredSort, MOST_NESTED_SORTS}
use Rattle.rare_sort.specs.declared.declarations.Declarations.{Declarations}
use Rattle.rare_sort.specs.declared.sort.Sort.{Sort, Bool, Int, BitVec, Named, ind-Sort}
use Rattle.rare_sort.specs.declared.sort.Sort.TheOpen.{Sort-F}
use Rattle.rare_sort.specs.declared.sort.Sort.TheOpen as shape
use Rattle.rare_sort.specs.declared.sort.Sort.TheViews.{Array, roll-Sort}
use Rattle.rare_sort.specs.declared.sort.Sort.TheFolds.{fold-roll-Sort, map-Sort}
use Rattle.rare_sort.specs.declared.tree.Tree.{Tree}
use Rattle.rare_sort.proofs.NeedsLemmas.{both, is_sort-roll}
use denote.Hole.Carrier
use Rattle.rare_scope.specs.Names.{Held, names_of, found, sort_in, sort_among, sort_names, width_names}
use Rattle.rare_scope.specs.Reserved.{theory_words}
use Rattle.rare_scope.specs.Reading.{go_on, is_symbol_kind, is_word, refused}
use Rattle.rare_scope.specs.LinearText.{linear_at, widths_held}
use Rattle.rare_scope.specs.Printing.{linear_text, bit_vectors_text, arrays_text, name_text, sort_text_step, sort_text, is_named_step, is_named}
use Rattle.rare_scope.specs.SortText.{sort_at, sort_or, plain_sorts, declared_sort, bit_vectors, shallow}
use Rattle.rare_scope.specs.Entries.{entry}
use Rattle.rare_scope.proofs.PrintingSteps.{word_text, array_text, word_named}
use Rattle.rare_scope.proofs.SortSteps.{symbol_read, indexed_read, array_read, bits_read, numbered_sort}
use Rattle.rare_reread.specs.ReadsAs.{ReadsAs}
use Rattle.rare_reread.specs.Readable.{IsReadable, IsKeptLinear}
use Rattle.rare_reread.specs.Widths.{widths_in, widths_step}
use Rattle.rare_reread.proofs.Atoms.{IsAtom, text_is, word_reads, symbol_reads}
use Rattle.rare_reread.proofs.Finding.{sort_found, sort_symbol, sort_word}
use Rattle.rare_reread.proofs.Linears.{so_reads}
use Rattle.rare_reread.proofs.Lists.{HasThree, three_read, symbol_is, word_is, none_at}
use Rattle.rare_reread.proofs.Sums.{linear_reads}

module _ (held : Held) (r : IsReadable held) (d : Declarations) (ts : List Tree) where
  abbrev Is : Sort → Sexpr → Type 0
  Is s e = sort_at d (names_of ts held) e ≡ Ok s

  abbrev Reads : Sort → Type 0
  Reads s = ReadsAs (sort_nesting s + 4) (sort_text held s) (Is s)

  -- ---- words

  plain_gives : (word : List ℕ) (s : Sort) (e : Sexpr) → entry plain_sorts word ≡ Some s → IsAtom atom.Symbol word e → Is s e
  plain_gives word s e is a =
      symbol_read d (names_of ts held) e (symbol_is word e a)
      ∙ ap (λ o. sort_or o (declared_sort e (sort_among (names_of ts held) (text_of e)))) (ap (entry plain_sorts) (text_is atom.Symbol word e a) ∙ is)

  bool_reads : Reads Bool
  unfolding roll-Sort Carrier.roll
  bool_reads =
      so_reads 0 (sort_nesting Bool + 4) (codes "Bool") (sort_text held Bool) (IsAtom atom.Symbol (codes "Bool")) (Is Bool) (omega arith) (sym (fold-roll-Sort (List ℕ) (sort_text_step held) shape.Bool))
      (λ e a. plain_gives (codes "Bool") Bool e refl a) (word_reads 0 (codes "Bool") refl)

  int_reads : Reads Int
  unfolding roll-Sort Carrier.roll
  int_reads =
      so_reads 0 (sort_nesting Int + 4) (codes "Int") (sort_text held Int) (IsAtom atom.Symbol (codes "Int")) (Is Int) (omega arith) (sym (fold-roll-Sort (List ℕ) (sort_text_step held) shape.Int))
      (λ e a. plain_gives (codes "Int") Int e refl a) (word_reads 0 (codes "Int") refl)

  named_reads : (k : ℕ) → k < length (sort_names held) → Reads (Named k)
  unfolding roll-Sort Carrier.roll
  named_reads k lt =
      let name = slice_index_or (sort_names held) k [] in
      let other : (i : ℕ) → i < length theory_words → bytes_eq name (get_or theory_words i []) ≡ false = λ i below. none_at (bytes_eq name) theory_words i (sort_word held r k lt) below in
      so_reads 0 (sort_nesting (Named k) + 4) (name_text (sort_names held) k) (sort_text held (Named k)) (IsAtom atom.Symbol name) (Is (Named k)) (omega arith) (sym (fold-roll-Sort (List ℕ) (sort_text_step held) (shape.Named k)))
      (λ e a.
      let text : text_of e ≡ name = text_is atom.Symbol name e a in
      symbol_read d (names_of ts held) e (symbol_is name e a)
      ∙ numbered_sort ts held e k (ap (λ t. bytes_eq t (codes "Bool")) text ∙ other 51 (omega arith)) (ap (λ t. bytes_eq t (codes "Int")) text ∙ other 52 (omega arith)) (ap (λ t. sort_in (found held t)) text ∙ ap sort_in (sort_found held r k lt)))
      (symbol_reads 0 name (sort_symbol held r k lt))

  -- ---- lists

  word_gives : (w : LinearExpression) (e : Sexpr) → follows d (less_one w) ≡ true → HasThree (IsAtom atom.Symbol (codes "_")) (IsAtom atom.Symbol (codes "BitVec")) (λ x. linear_at (widths_held held) x ≡ Ok w) e → Is (BitVec w) e
  word_gives w e least h =
      indexed_read d (names_of ts held) e h.first h.second h.third (ap is_symbol_kind h.list) (ap length h.items) (ap (λ xs. slice_get xs 0) h.items) (ap (λ xs. slice_get xs 1) h.items) (ap (λ xs. slice_get xs 2) h.items) (word_is (codes "Array") (codes "_") h.first h.is_first)
      ∙ bits_read d ts held e h.first h.second h.third (ap (λ b. b && is_word (codes "BitVec") h.second) (word_is (codes "_") (codes "_") h.first h.is_first) ∙ word_is (codes "BitVec") (codes "BitVec") h.second h.is_second)
      ∙ ap (λ q. go_on q (λ w. bit_vectors d e w)) h.is_third
      ∙ ap (λ b. if b then Ok (BitVec w) else refused e BadSort) least

  word_reads_back : (w : LinearExpression) → IsKeptLinear w → NamesBelow (length (width_names held)) w.parts → follows d (less_one w) ≡ true → Reads (BitVec w)
  unfolding roll-Sort Carrier.roll
  word_reads_back w kept below least =
      so_reads 5 (sort_nesting (BitVec w) + 4) (bit_vectors_text held w) (sort_text held (BitVec w)) (HasThree (IsAtom atom.Symbol (codes "_")) (IsAtom atom.Symbol (codes "BitVec")) (λ x. linear_at (widths_held held) x ≡ Ok w)) (Is (BitVec w))
      (omega (arith, fold-roll-Sort ℕ sort_nesting_step (shape.BitVec w))) (sym (word_text held w)) (λ e h. word_gives w e least h)
      (three_read 4 (codes "_") (codes "BitVec") (linear_text (width_names held) w) (IsAtom atom.Symbol (codes "_")) (IsAtom atom.Symbol (codes "BitVec")) (λ x. linear_at (widths_held held) x ≡ Ok w)
      (word_reads 4 (codes "_") refl) (word_reads 4 (codes "BitVec") refl) (linear_reads held w r kept below))

  array_gives : (a b : Sort) (e : Sexpr) → sort_nesting (Array a b) ≤ MOST_NESTED_SORTS → HasThree (IsAtom atom.Symbol (codes "Array")) (Is a) (Is b) e → Is (Array a b) e
  array_gives a b e le h =
      let shallow_is : nat_le (sort_nesting (Array a b)) MOST_NESTED_SORTS ≡ true = grind (arith, nat_tests) in
      array_read d (names_of ts held) e h.first h.second h.third (ap is_symbol_kind h.list) (ap length h.items) (ap (λ xs. slice_get xs 0) h.items) (ap (λ xs. slice_get xs 1) h.items) (ap (λ xs. slice_get xs 2) h.items) (word_is (codes "Array") (codes "Array") h.first h.is_first)
      ∙ ap (λ q. go_on q (λ keys. go_on (sort_at d (names_of ts held) h.third) (λ entries. shallow e (Array keys entries)))) h.is_second
      ∙ ap (λ q. go_on q (λ entries. shallow e (Array a entries))) h.is_third
      ∙ ap (λ t. if t then Ok (Array a b) else refused e TermLimit) shallow_is

  array_reads : (a b : Sort) → sort_nesting (Array a b) ≤ MOST_NESTED_SORTS → Reads a → Reads b → Reads (Array a b)
  unfolding roll-Sort Carrier.roll
  array_reads a b le ra rb =
      let m = max (sort_nesting a) (sort_nesting b) + 4 in
      let nest : sort_nesting (Array a b) ≡ 1 + max (sort_nesting a) (sort_nesting b) = fold-roll-Sort ℕ sort_nesting_step (shape.Array a b) in
      let keys : ReadsAs m (sort_text held a) (Is a) = so_reads (sort_nesting a + 4) m (sort_text held a) (sort_text held a) (Is a) (Is a) (omega arith) refl (λ e g. g) ra in
      let entries : ReadsAs m (sort_text held b) (Is b) = so_reads (sort_nesting b + 4) m (sort_text held b) (sort_text held b) (Is b) (Is b) (omega arith) refl (λ e g. g) rb in
      so_reads (suc m) (sort_nesting (Array a b) + 4) (arrays_text (sort_text held a) (sort_text held b)) (sort_text held (Array a b)) (HasThree (IsAtom atom.Symbol (codes "Array")) (Is a) (Is b)) (Is (Array a b))
      (omega (arith, nest)) (sym (array_text held a b)) (λ e h. array_gives a b e le h)
      (three_read m (codes "Array") (sort_text held a) (sort_text held b) (IsAtom atom.Symbol (codes "Array")) (Is a) (Is b) (word_reads m (codes "Array") refl) keys entries)

  -- ---- all sorts

  abbrev ReadsBack : Sort → Type 0
  ReadsBack s = is_sort d s ≡ true → sort_nesting s ≤ MOST_NESTED_SORTS → is_named held s ≡ true → All IsKeptLinear (widths_in s) → Reads s

  abbrev Back : Type 0
  Back = (s : Sort) × ReadsBack s

  front_all : (xs ys : List LinearExpression) → All IsKeptLinear (xs ++ ys) → All IsKeptLinear xs
  front_all xs ys all i x lt = subst IsKeptLinear (get_or-append xs ys x i lt) (all i x (omega (arith, length-append xs ys)))

  back_all : (xs ys : List LinearExpression) → All IsKeptLinear (xs ++ ys) → All IsKeptLinear ys
  back_all [] ys all = all
  back_all (x ∷ xs) ys all = back_all xs ys (λ i y lt. all (suc i) y (omega arith))

  at_node : (y : Sort-F Back) → ReadsBack (roll-Sort (map-Sort Back Sort (λ s. s.0) y))
  unfolding roll-Sort Carrier.roll
  at_node shape.Bool is le named kept = bool_reads
  at_node shape.Int is le named kept = int_reads
  at_node (shape.BitVec w) is le named kept =
      let step = both (names_below (widths d) w.parts) (follows d (less_one w)) (sym (is_sort-roll d (shape.BitVec w)) ∙ is) in
      let all : All IsKeptLinear (w ∷ []) = subst (All IsKeptLinear) (fold-roll-Sort (List LinearExpression) widths_step (shape.BitVec w)) kept in
      word_reads_back w (all 0 w (omega arith)) (word_named held w named) step.1
  at_node (shape.Named k) is le named kept =
      let step : nat_lt k (length (sort_names held)) ≡ true = sym (fold-roll-Sort Test (is_named_step (length (sort_names held)) (length (width_names held))) (shape.Named k)) ∙ named in
      named_reads k (ltb-true k (length (sort_names held)) step)
  at_node (shape.Array a b) is le named kept =
      let sorts = both (is_sort d a.0) (is_sort d b.0) (sym (is_sort-roll d (shape.Array a.0 b.0)) ∙ is) in
      let names = both (is_named held a.0) (is_named held b.0) (sym (fold-roll-Sort Test (is_named_step (length (sort_names held)) (length (width_names held))) (shape.Array a.0 b.0)) ∙ named) in
      let nest : sort_nesting (Array a.0 b.0) ≡ 1 + max (sort_nesting a.0) (sort_nesting b.0) = fold-roll-Sort ℕ sort_nesting_step (shape.Array a.0 b.0) in
      let all : All IsKeptLinear (widths_in a.0 ++ widths_in b.0) = subst (All IsKeptLinear) (fold-roll-Sort (List LinearExpression) widths_step (shape.Array a.0 b.0)) kept in
      array_reads a.0 b.0 le (a.1 sorts.0 (omega arith) names.0 (front_all (widths_in a.0) (widths_in b.0) all)) (b.1 sorts.1 (omega arith) names.1 (back_all (widths_in a.0) (widths_in b.0) all))

  sort_reads_back : (s : Sort) → ReadsBack s
  sort_reads_back = ind-Sort ReadsBack (λ x y is. subst (λ z. ReadsBack (roll-Sort z)) is (at_node y))

pub sort_reads : (held : Held) (d : Declarations) (ts : List Tree) (s : Sort) → IsReadable held → IsDeclaredSort d s → IsTrue (is_named held s) → All IsKeptLinear (widths_in s) →
    ReadsAs (sort_nesting s + 4) (sort_text held s) (λ e. sort_at d (names_of ts held) e ≡ Ok s)
sort_reads held d ts s r declared named kept = sort_reads_back held r d ts s declared.declared declared.shallow named kept
