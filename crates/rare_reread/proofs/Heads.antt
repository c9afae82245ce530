-- The operators of applications, read.
use Rattle.std.proofs.Common.{◌≡◌, ℕ, suc, ◌<◌, ◌≤◌, Bool, true, false, ◌&&◌, ◌||◌, List, [], ◌∷◌, ◌++◌, map, length, bytes_eq, get_or, Option, Some, None, slice_get, option_map, All, Ok, refl, sym, ap, ◌∙◌, subst, arith, if◌then◌else◌}
use Rattle.std.specs.Prelude.{codes, slice_index_or, flat_map, nat_eq}
use Rattle.std.specs.List.{list_any}
use Rattle.std.specs.Option.{is_none}
use Rattle.std.proofs.lemmas.Bool.Decides.{nat_tests}
use Rattle.std.proofs.lemmas.Slice.Eq.{bytes_eq-Decides}
use Rattle.rare_base.specs.declared.answers.Reason.TheVariants.{BadForm}
use Rattle.rare_term_printing.proofs.Texts.{below_more}
use Rattle.rare_linear.specs.Linears.{LinearExpression, NamesBelow}
use Rattle.rare_sexpr.specs.declared.tree.AtomKind.TheVariants as atom
use Rattle.rare_sexpr.specs.declared.tree.Kind.TheVariants as kind
use Rattle.rare_sexpr.specs.declared.tree.Sexpr.{Sexpr}
use Rattle.rare_sexpr.specs.Tree.{kind_of, text_of, items_of}
use Rattle.rare_sexpr.specs.Written.{is_simple}
use Rattle.rare_sort.specs.declared.declarations.Declarations.{Declarations}
use Rattle.rare_sort.specs.declared.head.Head.{Head}
use Rattle.rare_sort.specs.declared.head.Head.TheVariants as head
use Rattle.rare_sort.specs.declared.sort.Signature.{Signature}
use Rattle.rare_sort.specs.declared.tree.Tree.{Tree}
use Rattle.rare_scope.specs.Entries.{entry}
use Rattle.rare_scope.specs.LinearText.{widths_held}
use Rattle.rare_scope.specs.Names.{Held, Names, a_symbol, found, meant, names_of, symbol_names, width_names}
use Rattle.rare_scope.specs.Printing.{linear_text, name_text}
use Rattle.rare_scope.specs.Reading.{go_on, is_word, is_symbol_kind, refused}
use Rattle.rare_scope.specs.Reserved.{is_among, is_theory_word, theory_words, reserved_words}
use Rattle.rare_scope.proofs.SortSteps.{found_meant, same_widths}
use Rattle.rare_operators.specs.declared.words.WordUse.{WordUse}
use Rattle.rare_operators.specs.declared.words.IndexedWord.{IndexedWord}
use Rattle.rare_operators.specs.HeadText.{bare, unless_alone, word_head, has_no_arguments, named_head, indices_at, indexed_by, indexed_word_at, indexed_items, indexed_head, head_by, head_at}
use Rattle.rare_operators.specs.OperatorWords.{operator_of_word, indexed_words}
use Rattle.rare_term_text.specs.TermText.{begins_literal}
use Rattle.rare_term_printing.specs.OperatorTexts.{index_texts, indexed_word, word_text}
use Rattle.rare_reread.specs.ReadsAs.{ReadsAs, RunsAs, IsListOf}
use Rattle.rare_reread.specs.Readable.{IsReadable, IsKeptLinear}
use Rattle.rare_reread.proofs.Atoms.{IsAtom, kind_is, text_is, list_kind, list_items, word_reads, symbol_reads}
use Rattle.rare_reread.proofs.Finding.{absent, symbol_found, symbol_symbol, symbol_word, symbol_reserved}
use Rattle.rare_reread.proofs.Joining.{Begins, more_runs, list_reads}
use Rattle.rare_reread.proofs.Linears.{so_reads, Gives, GiveEach, none_gives, more_gives}
use Rattle.rare_reread.proofs.Lists.{word_is, none_at}
use Rattle.rare_reread.proofs.Sums.{linear_reads}

pub if_no : {A : Type 0} (b : Bool) (x y : A) → b ≡ false → (if b then x else y) ≡ y
if_no true x y is = absurd cc
if_no false x y is = refl

pub if_yes : {A : Type 0} (b : Bool) (x y : A) → b ≡ true → (if b then x else y) ≡ x
if_yes true x y is = refl
if_yes false x y is = absurd cc

-- ---- words stand for no name

clash : (word name : List ℕ) → is_theory_word word ≡ true → is_theory_word name ≡ false → bytes_eq word name ≡ false
clash word name theory other = go (bytes_eq word name) refl
  where
    go : (b : Bool) → bytes_eq word name ≡ b → b ≡ false
    go true is = let same : word ≡ name = (bytes_eq-Decides word name).0 is in let both : true ≡ false = sym theory ∙ ap is_theory_word same ∙ other in absurd cc
    go false is = refl

neither : (a b : Bool) → a ≡ false → b ≡ false → (a || b) ≡ false
neither true b e f = absurd cc
neither false b e f = f

not_among : (word : List ℕ) (held : Held) → is_theory_word word ≡ true → All (λ n. is_theory_word n.0 ≡ false) held → is_among (map (λ n. n.0) held) word ≡ false
not_among word [] theory all = refl
not_among word (n ∷ ns) theory all =
    neither (bytes_eq word n.0) (list_any (bytes_eq word) (map (λ n. n.0) ns)) (clash word n.0 theory (all 0 n (omega arith))) (not_among word ns theory (λ i d lt. all (suc i) d (omega arith)))

module _ (held : Held) (r : IsReadable held) (d : Declarations) (ts : List Tree) where
  abbrev names : Names
  names = names_of ts held

  pub word_unknown : (word : List ℕ) → is_theory_word word ≡ true → found (names_of ts held) word ≡ None
  word_unknown word theory = found_meant ts held word ∙ ap (option_map (meant ts)) (absent word held None (not_among word held theory r.words))

  pub symbol_known : (k : ℕ) → k < length (symbol_names held) → found (names_of ts held) (slice_index_or (symbol_names held) k []) ≡ Some (a_symbol k)
  symbol_known k lt = found_meant ts held (slice_index_or (symbol_names held) k []) ∙ ap (option_map (meant ts)) (symbol_found held r k lt)

  -- ---- what stands at the head of an application of so many arguments

  pub record IsHead (n : ℕ) (h : Head) (ix : List LinearExpression) (x : Sexpr) : Type 0 where
    pub no_let : is_word (codes "let") x ≡ false
    pub no_index : is_word (codes "_") x ≡ false
    pub no_literal : begins_literal (names_of ts held) x ≡ false
    pub reads : (e : Sexpr) → head_at d (names_of ts held) e x n ≡ Ok (record { head = h; indices = ix })

  no_literal_word : (x : Sexpr) → is_word (codes "bv") x ≡ false → begins_literal (names_of ts held) x ≡ false
  no_literal_word x other = ap (λ b. b && is_none (found (names_of ts held) (codes "bv"))) other

  -- by a symbol that is no special word
  head_of_symbol : (n : ℕ) (h : Head) (text : List ℕ) (x : Sexpr) → bytes_eq text (codes "let") ≡ false → bytes_eq text (codes "_") ≡ false → bytes_eq text (codes "bv") ≡ false →
      ((e y : Sexpr) → text_of y ≡ text → named_head d e y n (found (names_of ts held) text) ≡ Ok (bare h)) → IsAtom atom.Symbol text x → IsHead n h [] x
  head_of_symbol n h text x no_let no_index no_literal named a = record {
    no_let = word_is (codes "let") text x a ∙ no_let;
    no_index = word_is (codes "_") text x a ∙ no_index;
    no_literal = no_literal_word x (word_is (codes "bv") text x a ∙ no_literal);
    reads = λ e. ap (head_by d (names_of ts held) e x n) (kind_is atom.Symbol text x a) ∙ ap (λ t. named_head d e x n (found (names_of ts held) t)) (text_is atom.Symbol text x a) ∙ named e x (text_is atom.Symbol text x a);
  }

  -- a word of the theories
  pub word_heads : (m n : ℕ) (h : Head) (word : List ℕ) (use_is : WordUse) → operator_of_word word ≡ Some use_is → is_theory_word word ≡ true → is_simple word ≡ true →
      bytes_eq word (codes "let") ≡ false → bytes_eq word (codes "_") ≡ false → bytes_eq word (codes "bv") ≡ false →
      ((e y : Sexpr) → word_head e y n (Some use_is) ≡ Ok (bare h)) → ReadsAs m word (IsHead n h [])
  word_heads m n h word use_is used theory simple no_let no_index no_literal gives =
      so_reads m m word word (IsAtom atom.Symbol word) (IsHead n h []) (omega arith) refl
      (λ x a. head_of_symbol n h word x no_let no_index no_literal
      (λ e y text. ap (named_head d e y n) (word_unknown word theory) ∙ ap (λ t. word_head e y n (operator_of_word t)) text ∙ ap (word_head e y n) used ∙ gives e y) a) (word_reads m word simple)

  -- a declared symbol
  free_head : (e : Sexpr) (n k : ℕ) (o : Option Signature) → 0 < n → (if has_no_arguments o then unless_alone e n (head.Free k) else Ok (bare (head.Free k))) ≡ Ok (bare (head.Free k))
  free_head e n k o some = go (has_no_arguments o)
    where
      more : nat_eq n 0 ≡ false
      more = grind (arith, nat_tests)

      go : (b : Bool) → (if b then unless_alone e n (head.Free k) else Ok (bare (head.Free k))) ≡ Ok (bare (head.Free k))
      go true = ap (λ t. if t then refused e BadForm else Ok (bare (head.Free k))) more
      go false = refl

  other_word : (words : List (List ℕ)) (i : ℕ) (name word : List ℕ) → is_among words name ≡ false → i < length words → get_or words i [] ≡ word → bytes_eq name word ≡ false
  other_word words i name word none lt is = ap (bytes_eq name) (sym is) ∙ none_at (bytes_eq name) words i none lt

  pub symbol_heads : (m n k : ℕ) → 0 < n → k < length (symbol_names held) → ReadsAs m (name_text (symbol_names held) k) (IsHead n (head.Free k) [])
  symbol_heads m n k some lt =
      let name = slice_index_or (symbol_names held) k [] in
      so_reads m m (name_text (symbol_names held) k) (name_text (symbol_names held) k) (IsAtom atom.Symbol name) (IsHead n (head.Free k) []) (omega arith) refl
      (λ x a. head_of_symbol n (head.Free k) name x (other_word reserved_words 3 name (codes "let") (symbol_reserved held r k lt) (omega arith) refl) (other_word reserved_words 0 name (codes "_") (symbol_reserved held r k lt) (omega arith) refl)
      (other_word theory_words 55 name (codes "bv") (symbol_word held r k lt) (omega arith) refl)
      (λ e y text. ap (named_head d e y n) (symbol_known k lt) ∙ free_head e n k (slice_get d.symbols k) some) a) (symbol_reads m name (symbol_symbol held r k lt))

  -- ---- operators with indices

  abbrev Give : LinearExpression → Sexpr → Type 0
  Give = Gives (widths_held held)

  abbrev pub Indices : List LinearExpression → List Sexpr → Type 0
  Indices = GiveEach (widths_held held)

  pub indices_run : (n : ℕ) (ix : List LinearExpression) → n ≤ length (width_names held) → All (λ l. NamesBelow n l.parts) ix → All IsKeptLinear ix → RunsAs 4 (flat_map (λ u. codes " " ++ u) (index_texts held ix)) (Indices ix)
  indices_run n [] le named kept = none_gives (widths_held held) 4
  indices_run n (l ∷ ix) le named kept =
      more_gives (widths_held held) 4 (linear_text (width_names held) l) (flat_map (λ u. codes " " ++ u) (index_texts held ix)) l ix
      (linear_reads held l r (kept 0 l (omega arith)) (below_more n (length (width_names held)) l.parts le (named 0 l (omega arith))))
      (indices_run n ix le (λ i e lt. named (suc i) e (omega arith)) (λ i e lt. kept (suc i) e (omega arith)))

  indices_read : (ix : List LinearExpression) (xs : List Sexpr) → Indices ix xs → indices_at (widths_held held) xs ≡ Ok ix
  indices_read [] [] g = refl
  indices_read [] (x ∷ xs) g = absurd g
  indices_read (l ∷ ix) [] g = absurd g
  indices_read (l ∷ ix) (x ∷ xs) g =
      ap (λ q. go_on q (λ l. go_on (indices_at (widths_held held) xs) (λ ls. Ok (l ∷ ls)))) g.0 ∙ ap (λ q. go_on q (λ ls. Ok (l ∷ ls))) (indices_read ix xs g.1)

  count : (ix : List LinearExpression) (xs : List Sexpr) → Indices ix xs → length xs ≡ length ix
  count [] [] g = refl
  count [] (x ∷ xs) g = absurd g
  count (l ∷ ix) [] g = absurd g
  count (l ∷ ix) (x ∷ xs) g = ap suc (count ix xs g.1)

  by_word : (x w : Sexpr) (ix : List LinearExpression) (xs : List Sexpr) (word : List ℕ) (o : IndexedWord) → IsAtom atom.Symbol word w → entry indexed_words word ≡ Some o → length ix ≡ o.indices → Indices ix xs →
      indexed_by (widths_held held) x w xs (indexed_word_at w) ≡ Ok (record { head = o.head; indices = ix })
  by_word x w ix xs word o a is many g =
      let full : nat_eq (length xs) o.indices ≡ true = let c = count ix xs g in grind (arith, nat_tests) in
      ap (indexed_by (widths_held held) x w xs) (ap (λ k. if is_symbol_kind k then entry indexed_words (text_of w) else None) (kind_is atom.Symbol word w a) ∙ ap (entry indexed_words) (text_is atom.Symbol word w a) ∙ is)
      ∙ ap (λ b. if b then (go_on (indices_at (widths_held held) xs) (λ ls. Ok (record { head = o.head; indices = ls }))) else (refused x BadForm)) full
      ∙ ap (λ q. go_on q (λ ls. Ok (record { head = o.head; indices = ls }))) (indices_read ix xs g)

  by_items : (x u w : Sexpr) (ix : List LinearExpression) (xs : List Sexpr) (word : List ℕ) (o : IndexedWord) → IsAtom atom.Symbol word w → entry indexed_words word ≡ Some o → length ix ≡ o.indices → 0 < length ix → length ix ≤ 2 → Indices ix xs →
      indexed_items (widths_held held) x (u ∷ w ∷ xs) ≡ Ok (record { head = o.head; indices = ix })
  by_items x u w ix [] word o a is many some few g = let c = count ix [] g in absurd (omega arith)
  by_items x u w ix (y ∷ []) word o a is many some few g = by_word x w ix (y ∷ []) word o a is many g
  by_items x u w ix (y ∷ z ∷ []) word o a is many some few g = by_word x w ix (y ∷ z ∷ []) word o a is many g
  by_items x u w ix (y ∷ z ∷ v ∷ xs) word o a is many some few g = let c = count ix (y ∷ z ∷ v ∷ xs) g in absurd (omega arith)

  indexed_is : (n : ℕ) (ix : List LinearExpression) (word : List ℕ) (o : IndexedWord) (x : Sexpr) → entry indexed_words word ≡ Some o → length ix ≡ o.indices → 0 < length ix → length ix ≤ 2 →
      IsListOf (IsAtom atom.Symbol (codes "_")) (Begins (IsAtom atom.Symbol word) (Indices ix)) x → IsHead n o.head ix x
  indexed_is n ix word o x is many some few i =
      let items : items_of x ≡ i.first ∷ i.are.first ∷ i.are.items = ap items_of i.list ∙ list_items i.place (i.first ∷ i.items) ∙ ap (λ es. i.first ∷ es) i.are.both in
      let list : kind_of x ≡ kind.List = ap kind_of i.list ∙ list_kind i.place (i.first ∷ i.items) in
      let no_word : (word : List ℕ) → is_word word x ≡ false = λ word. ap (λ k. is_symbol_kind k && bytes_eq (text_of x) word) list in
      record {
        no_let = no_word (codes "let");
        no_index = no_word (codes "_");
        no_literal = no_literal_word x (no_word (codes "bv"));
        reads = λ e.
            ap (head_by d (names_of ts held) e x n) list ∙ ap (λ w. indexed_head w x (items_of x)) (same_widths ts held) ∙ ap (indexed_head (widths_held held) x) items
            ∙ ap (λ b. if b then indexed_items (widths_held held) x (i.first ∷ i.are.first ∷ i.are.items) else refused x BadForm) (word_is (codes "_") (codes "_") i.first i.is)
            ∙ by_items x i.first i.are.first ix i.are.items word o i.are.is is many some few i.are.are;
      }

  -- `(_ op E ..)`
  pub indexed_heads : (n m : ℕ) (l : LinearExpression) (ix : List LinearExpression) (h : Head) (o : IndexedWord) → entry indexed_words (indexed_word h) ≡ Some o → is_simple (indexed_word h) ≡ true → o.head ≡ h → length (l ∷ ix) ≡ o.indices → length (l ∷ ix) ≤ 2 →
      m ≤ length (width_names held) → All (λ l. NamesBelow m l.parts) (l ∷ ix) → All IsKeptLinear (l ∷ ix) → ReadsAs 5 (word_text h (index_texts held (l ∷ ix))) (IsHead n h (l ∷ ix))
  indexed_heads n m l ix h o is simple same many few le named kept =
      let more = flat_map (λ u. codes " " ++ u) (index_texts held (l ∷ ix)) in
      so_reads 5 5 (word_text h (index_texts held (l ∷ ix))) (word_text h (index_texts held (l ∷ ix))) (IsListOf (IsAtom atom.Symbol (codes "_")) (Begins (IsAtom atom.Symbol (indexed_word h)) (Indices (l ∷ ix)))) (IsHead n h (l ∷ ix)) (omega arith) refl
      (λ x i. subst (λ (g : Head). IsHead n g (l ∷ ix) x) same (indexed_is n (l ∷ ix) (indexed_word h) o x is many (omega arith) few i))
      (list_reads 4 (codes "_") (32 ∷ (indexed_word h ++ more)) (IsAtom atom.Symbol (codes "_")) (Begins (IsAtom atom.Symbol (indexed_word h)) (Indices (l ∷ ix))) (word_reads 4 (codes "_") refl)
      (more_runs 4 (indexed_word h) more (IsAtom atom.Symbol (indexed_word h)) (Indices (l ∷ ix)) (word_reads 4 (indexed_word h) simple) (indices_run m (l ∷ ix) le named kept)))
