-- What is written of a sort that was read over parameters is read back as the sort.
use Rattle.std.proofs.Common.{◌≡◌, ℕ, suc, ◌+◌, ◌≤◌, max, Bool as Test, true, false, ◌&&◌, List, [], ◌∷◌, map, Option, Some, None, Ok, refl, sym, ap, ◌∙◌, subst, arith}
use Rattle.std.specs.Prelude.{codes, nat_le, if◌then◌else◌}
use Rattle.std.specs.List.{list_all}
use Rattle.std.proofs.lemmas.Bool.{leb-true}
use Rattle.std.proofs.lemmas.Option.{none-some, same_Some}
use Rattle.rare_base.specs.declared.answers.Reason.TheVariants as reason
use Rattle.rare_linear.specs.Linears.{LinearExpression}
use Rattle.rare_sexpr.specs.declared.tree.AtomKind.TheVariants as atom
use Rattle.rare_sexpr.specs.declared.tree.Sexpr.{Sexpr}
use Rattle.rare_sexpr.specs.Bytes.{is_in_bars}
use Rattle.rare_sexpr.specs.Tree.{kind_of, text_of, items_of}
use Rattle.rare_sexpr.specs.Written.{written_symbol}
use Rattle.rare_sexpr.proofs.Trees.{go_out}
use Rattle.rare_sort.specs.DeclaredSorts.{sort_nesting, MOST_NESTED_SORTS}
use Rattle.rare_sort.specs.SortRules.{width}
use Rattle.rare_sort.specs.declared.sort.Sort.{Sort, BitVec, Named}
use Rattle.rare_sort.specs.declared.sort.Sort.TheViews.{Array}
use Rattle.rare_scope.specs.Entries.{entry}
use Rattle.rare_scope.specs.LinearText.{linear_at}
use Rattle.rare_scope.specs.Printing.{arrays_text, linear_text_by}
use Rattle.rare_scope.specs.Reading.{Read, refused, go_on, is_symbol_kind, is_word}
use Rattle.rare_scope.specs.Reserved.{is_among}
use Rattle.rare_scope.specs.SortText.{plain_sorts, declared_sort, sort_or, shallow}
use Rattle.rare_scope.proofs.InOrder.{went, same_Ok}
use Rattle.rare_rule.specs.Params.{is_sort_kind}
use Rattle.rare_rule.specs.declared.param.Param.{Param}
use Rattle.rare_rule.proofs.Walks.{nesting-Bool, nesting-Int, nesting-BitVec, nesting-Named}
use Rattle.rare_parse.specs.RuleNames.{number_where, rule_widths, is_own_word, sort_named}
use Rattle.rare_parse.specs.RuleSortText.{fresh_words, symbol_sort, word_sort, indexed_sort, list_sort, sort_by, rule_sort_at}
use Rattle.rare_term_printing.specs.OperatorTexts.{list_text}
use Rattle.rare_rule_printing.specs.ConstraintPrinting.{number_text}
use Rattle.rare_rule_printing.specs.SortPrinting.{name_or, rule_sort_text}
use Rattle.rare_rule_printing.proofs.SortTexts.{words_text, named_text, nesting_array, array_parts}
use Rattle.rare_reread.specs.ReadsAs.{ReadsAs}
use Rattle.rare_reread.proofs.Atoms.{IsAtom, text_is, word_reads, symbol_reads}
use Rattle.rare_reread.proofs.Linears.{so_reads}
use Rattle.rare_reread.proofs.Lists.{HasThree, three_read, symbol_is, word_is}
use Rattle.rare_rule_reread.proofs.Induction.{AllHave, each_has}
use Rattle.rare_rule_reread.proofs.Pairs.{HasTwo, pair_read}
use Rattle.rare_rule_reread.proofs.Places.{where_is}
use Rattle.rare_rule_reread.proofs.Spoken.{Speaks, IsNamed, AreSpoken, linear_speaks, linear_back}
use Rattle.rare_rule_reread.proofs.Tables.{entry_pair}
use Rattle.rare_rule_reread.proofs.PlainTexts.{bool_text, int_text}

module _ (before all : List Param) (spoken : AreSpoken before all) where
  abbrev pair : Sexpr → Sexpr × Read Sort
  pair x = (x, rule_sort_at before x)

  -- it reads as the sort, and a symbol is the symbol that was read
  pub record IsAgain (e : Sexpr) (s : Sort) (x : Sexpr) : Type 0 where
    pub reads : rule_sort_at before x ≡ Ok s
    pub symbol : is_symbol_kind (kind_of x) ≡ true → (is_symbol_kind (kind_of e) ≡ true) × (text_of x ≡ text_of e)

  -- a sort name is that of a declared parameter, and the names of a width are written
  abbrev pub IsKnown : Sort → Type 0
  IsKnown (Named k) = (text : List ℕ) × IsNamed before all text k
  IsKnown (BitVec w) = Speaks before all w
  IsKnown s = Unit {0}

  pub record IsBack (e : Sexpr) (s : Sort) : Type 0 where
    pub again : ReadsAs (sort_nesting s + 4) (rule_sort_text all s) (IsAgain e s)
    pub known : IsKnown s
    pub flat : sort_nesting s ≤ MOST_NESTED_SORTS

  -- the names of its width are written
  pub width_known : (s : Sort) (l : LinearExpression) → IsKnown s → width s ≡ Some l → Speaks before all l
  width_known (BitVec w) l known is = subst (Speaks before all) (same_Some w l is) known
  width_known s l known is = absurd (none-some l is)

  sort_out : (x : Sexpr) → rule_sort_at before x ≡ sort_by before x (is_symbol_kind (kind_of x)) (map pair (items_of x))
  sort_out x = go_out (Read Sort) (λ e items. sort_by before e (is_symbol_kind (kind_of e)) items) x

  -- ---- symbols

  abbrev by_text : Sexpr → List ℕ → Read Sort
  by_text x t = sort_or (entry plain_sorts t) (if is_among fresh_words t then refused x reason.BadSort else declared_sort x (sort_named before t))

  -- a symbol of the same text reads as the same sort
  same_text : (e x : Sexpr) (t : List ℕ) (s : Sort) → by_text e t ≡ Ok s → by_text x t ≡ Ok s
  same_text e x t s is = go (entry plain_sorts t) (is_among fresh_words t) (sort_named before t) is
    where
      go : (o : Option Sort) (b : Test) (k : Option ℕ) → sort_or o (if b then refused e reason.BadSort else declared_sort e k) ≡ Ok s → sort_or o (if b then refused x reason.BadSort else declared_sort x k) ≡ Ok s
      go (Some u) b k is = is
      go None true k is = absurd cc
      go None false (Some k) is = is
      go None false None is = absurd cc

  symbol_again : (e x : Sexpr) (s : Sort) → is_symbol_kind (kind_of e) ≡ true → symbol_sort before e ≡ Ok s → IsAtom atom.Symbol (text_of e) x → IsAgain e s x
  symbol_again e x s symbol is a = record {
    reads =
        sort_out x ∙ ap (λ b. sort_by before x b (map pair (items_of x))) (symbol_is (text_of e) x a)
        ∙ ap (by_text x) (text_is atom.Symbol (text_of e) x a) ∙ same_text e x (text_of e) s is;
    symbol = λ it. (symbol, text_is atom.Symbol (text_of e) x a);
  }

  -- the sort is written as the symbol
  record IsWritten (t : List ℕ) (s : Sort) : Type 0 where
    text : rule_sort_text all s ≡ written_symbol t
    bars : list_all is_in_bars t ≡ true
    known : IsKnown s
    one : sort_nesting s ≡ 1

  named_written : (t : List ℕ) (k : ℕ) → sort_named before t ≡ Some k → IsWritten t (Named k)
  named_written t k is = go (is_own_word t) is
    where
      go : (b : Test) → (if b then None else (number_where is_sort_kind before t)) ≡ Some k → IsWritten t (Named k)
      go true is = absurd (none-some k is)
      go false is =
          let n = spoken.names t k (where_is is_sort_kind before t k is).0 in
          record { text = named_text all k ∙ ap name_or n.place ∙ ap written_symbol n.is_text; bars = n.bars; known = (t, n); one = nesting-Named k }

  text_written : (e : Sexpr) (t : List ℕ) (s : Sort) → by_text e t ≡ Ok s → IsWritten t s
  text_written e t s is = go (entry plain_sorts t) refl (is_among fresh_words t) (sort_named before t) refl is
    where
      go : (o : Option Sort) → entry plain_sorts t ≡ o → (b : Test) (k : Option ℕ) → sort_named before t ≡ k → sort_or o (if b then refused e reason.BadSort else declared_sort e k) ≡ Ok s → IsWritten t s
      go (Some u) plain b k named is =
          subst (IsWritten t) (same_Ok u s is)
          (entry_pair IsWritten plain_sorts t u (record { text = bool_text all; bars = refl; known = tt; one = nesting-Bool }, (record { text = int_text all; bars = refl; known = tt; one = nesting-Int }, tt)) plain)
      go None plain true k named is = absurd cc
      go None plain false (Some k) named is = subst (IsWritten t) (same_Ok (Named k) s is) (named_written t k named)
      go None plain false None named is = absurd cc

  symbol_back : (e : Sexpr) (s : Sort) → is_symbol_kind (kind_of e) ≡ true → symbol_sort before e ≡ Ok s → IsBack e s
  symbol_back e s symbol is =
      let w = text_written e (text_of e) s is in
      record {
        again =
            so_reads 0 (sort_nesting s + 4) (written_symbol (text_of e)) (rule_sort_text all s) (IsAtom atom.Symbol (text_of e)) (IsAgain e s) (omega arith) (sym w.text)
            (λ x a. symbol_again e x s symbol is a) (symbol_reads 0 (text_of e) w.bars);
        known = w.known;
        flat = (let n = w.one in omega (arith, n));
      }

  -- ---- lists

  list_again : (e x : Sexpr) (s : Sort) (items : List Sexpr) → is_symbol_kind (kind_of x) ≡ false → items_of x ≡ items → list_sort before x (map pair items) ≡ Ok s → IsAgain e s x
  list_again e x s items list same is = record {
    reads = sort_out x ∙ ap (λ b. sort_by before x b (map pair (items_of x))) list ∙ ap (λ xs. list_sort before x (map pair xs)) same ∙ is;
    symbol = λ it. let none : false ≡ true = sym list ∙ it in absurd cc;
  }

  abbrev IsWidth : LinearExpression → Sexpr → Type 0
  IsWidth w x = linear_at (rule_widths before) x ≡ Ok w

  bits_again : (e : Sexpr) (w : LinearExpression) (x : Sexpr) → HasTwo (IsAtom atom.Symbol (codes "BitVec")) (IsWidth w) x → IsAgain e (BitVec w) x
  bits_again e w x h =
      list_again e x (BitVec w) (h.first ∷ h.second ∷ []) (ap is_symbol_kind h.list) h.items
      (ap (λ b. if b then word_sort before h.second else refused x reason.BadSort) (word_is (codes "BitVec") (codes "BitVec") h.first h.is_first)
      ∙ ap (λ q. go_on q (λ w. Ok (BitVec w))) h.is_second)

  bits_back : (e : Sexpr) (w : LinearExpression) → Speaks before all w → IsBack e (BitVec w)
  bits_back e w speaks = record {
    again =
        so_reads 5 (sort_nesting (BitVec w) + 4) (list_text (codes "BitVec" ∷ linear_text_by (number_text all) w ∷ [])) (rule_sort_text all (BitVec w)) (HasTwo (IsAtom atom.Symbol (codes "BitVec")) (IsWidth w)) (IsAgain e (BitVec w))
        (let n = nesting-BitVec w in omega (arith, n)) (sym (words_text all w)) (bits_again e w)
        (pair_read 4 (codes "BitVec") (linear_text_by (number_text all) w) (IsAtom atom.Symbol (codes "BitVec")) (IsWidth w) (word_reads 4 (codes "BitVec") refl) (linear_back before all w speaks));
    known = speaks;
    flat = (let n = nesting-BitVec w in omega (arith, n));
  }

  word_back : (e y : Sexpr) (s : Sort) → word_sort before y ≡ Ok s → IsBack e s
  word_back e y s is =
      let w = went (linear_at (rule_widths before) y) (λ w. Ok (BitVec w)) s is in
      subst (IsBack e) (same_Ok (BitVec w.0) s w.2) (bits_back e w.0 (linear_speaks before all spoken y w.0 w.1))

  array_again : (e : Sexpr) (a b : Sort) (x : Sexpr) → nat_le (sort_nesting (Array a b)) MOST_NESTED_SORTS ≡ true → HasThree (IsAtom atom.Symbol (codes "Array")) (λ x. rule_sort_at before x ≡ Ok a) (λ x. rule_sort_at before x ≡ Ok b) x → IsAgain e (Array a b) x
  array_again e a b x flat h =
      list_again e x (Array a b) (h.first ∷ h.second ∷ h.third ∷ []) (ap is_symbol_kind h.list) h.items
      (ap (λ t. if t then go_on (rule_sort_at before h.second) (λ keys. go_on (rule_sort_at before h.third) (λ entries. shallow x (Array keys entries))) else indexed_sort before x h.first h.second h.third) (word_is (codes "Array") (codes "Array") h.first h.is_first)
      ∙ ap (λ q. go_on q (λ keys. go_on (rule_sort_at before h.third) (λ entries. shallow x (Array keys entries)))) h.is_second
      ∙ ap (λ q. go_on q (λ entries. shallow x (Array a entries))) h.is_third
      ∙ ap (λ t. if t then Ok (Array a b) else refused x reason.TermLimit) flat)

  array_back : (e x y : Sexpr) (a b : Sort) → nat_le (sort_nesting (Array a b)) MOST_NESTED_SORTS ≡ true → IsBack x a → IsBack y b → IsBack e (Array a b)
  array_back e x y a b flat ra rb =
      let m = max (sort_nesting a) (sort_nesting b) + 4 in
      let nest = nesting_array a b in
      let keys : ReadsAs m (rule_sort_text all a) (λ x. rule_sort_at before x ≡ Ok a) = so_reads (sort_nesting a + 4) m (rule_sort_text all a) (rule_sort_text all a) (IsAgain x a) (λ x. rule_sort_at before x ≡ Ok a) (omega arith) refl (λ z g. g.reads) ra.again in
      let entries : ReadsAs m (rule_sort_text all b) (λ x. rule_sort_at before x ≡ Ok b) = so_reads (sort_nesting b + 4) m (rule_sort_text all b) (rule_sort_text all b) (IsAgain y b) (λ x. rule_sort_at before x ≡ Ok b) (omega arith) refl (λ z g. g.reads) rb.again in
      record {
        again =
            so_reads (suc m) (sort_nesting (Array a b) + 4) (arrays_text (rule_sort_text all a) (rule_sort_text all b)) (rule_sort_text all (Array a b))
            (HasThree (IsAtom atom.Symbol (codes "Array")) (λ x. rule_sort_at before x ≡ Ok a) (λ x. rule_sort_at before x ≡ Ok b)) (IsAgain e (Array a b))
            (omega (arith, nest)) (array_parts all (Array a b) a b a b refl refl refl) (λ z h. array_again e a b z flat h)
            (three_read m (codes "Array") (rule_sort_text all a) (rule_sort_text all b) (IsAtom atom.Symbol (codes "Array")) (λ x. rule_sort_at before x ≡ Ok a) (λ x. rule_sort_at before x ≡ Ok b) (word_reads m (codes "Array") refl) keys entries);
        known = tt;
        flat = leb-true (sort_nesting (Array a b)) MOST_NESTED_SORTS flat;
      }

  -- ---- all sorts

  abbrev GivesBack : Sexpr → Type 0
  GivesBack e = (s : Sort) → rule_sort_at before e ≡ Ok s → IsBack e s

  flat_back : (e x y : Sexpr) (s a b : Sort) → IsBack x a → IsBack y b → shallow e (Array a b) ≡ Ok s → IsBack e s
  flat_back e x y s a b ra rb is = go (nat_le (sort_nesting (Array a b)) MOST_NESTED_SORTS) refl is
    where
      go : (t : Test) → nat_le (sort_nesting (Array a b)) MOST_NESTED_SORTS ≡ t → (if t then Ok (Array a b) else refused e reason.TermLimit) ≡ Ok s → IsBack e s
      go true flat is = subst (IsBack e) (same_Ok (Array a b) s is) (array_back e x y a b flat ra rb)
      go false flat is = absurd cc

  arrays_back : (e x y : Sexpr) (s : Sort) → GivesBack x → GivesBack y → go_on (rule_sort_at before x) (λ keys. go_on (rule_sort_at before y) (λ entries. shallow e (Array keys entries))) ≡ Ok s → IsBack e s
  arrays_back e x y s gx gy is =
      let a = went (rule_sort_at before x) (λ keys. go_on (rule_sort_at before y) (λ entries. shallow e (Array keys entries))) s is in
      let b = went (rule_sort_at before y) (λ entries. shallow e (Array a.0 entries)) s a.2 in
      flat_back e x y s a.0 b.0 (gx a.0 a.1) (gy b.0 b.1) b.2

  list_back : (e : Sexpr) (xs : List Sexpr) (s : Sort) → AllHave GivesBack xs → list_sort before e (map pair xs) ≡ Ok s → IsBack e s
  list_back e [] s all is = absurd cc
  list_back e (h ∷ []) s all is = absurd cc
  list_back e (h ∷ x ∷ []) s all is = go (is_word (codes "BitVec") h) is
    where
      go : (b : Test) → (if b then word_sort before x else refused e reason.BadSort) ≡ Ok s → IsBack e s
      go true is = word_back e x s is
      go false is = absurd cc
  list_back e (h ∷ x ∷ y ∷ []) s all is = go (is_word (codes "Array") h) is
    where
      by_index : (b : Test) → (if b then word_sort before y else refused e reason.BadSort) ≡ Ok s → IsBack e s
      by_index true is = word_back e y s is
      by_index false is = absurd cc

      go : (b : Test) → (if b then go_on (rule_sort_at before x) (λ keys. go_on (rule_sort_at before y) (λ entries. shallow e (Array keys entries))) else indexed_sort before e h x y) ≡ Ok s → IsBack e s
      go true is = arrays_back e x y s all.1.0 all.1.1.0 is
      go false is = by_index (is_word (codes "_") h && is_word (codes "BitVec") x) is
  list_back e (h ∷ x ∷ y ∷ z ∷ xs) s all is = absurd cc

  at_each : (e : Sexpr) → AllHave GivesBack (items_of e) → GivesBack e
  at_each e all s is = go (is_symbol_kind (kind_of e)) refl (sym (sort_out e) ∙ is)
    where
      go : (b : Test) → is_symbol_kind (kind_of e) ≡ b → sort_by before e b (map pair (items_of e)) ≡ Ok s → IsBack e s
      go true symbol is = symbol_back e s symbol is
      go false symbol is = list_back e (items_of e) s all is

  pub sort_back : (e : Sexpr) (s : Sort) → rule_sort_at before e ≡ Ok s → IsBack e s
  sort_back = each_has GivesBack at_each

  -- what is written of the sort is read back as the sort
  pub sort_again : (e : Sexpr) (s : Sort) → rule_sort_at before e ≡ Ok s → ReadsAs (sort_nesting s + 4) (rule_sort_text all s) (λ x. rule_sort_at before x ≡ Ok s)
  sort_again e s is =
      so_reads (sort_nesting s + 4) (sort_nesting s + 4) (rule_sort_text all s) (rule_sort_text all s) (IsAgain e s) (λ x. rule_sort_at before x ≡ Ok s) (omega arith) refl (λ x g. g.reads) (sort_back e s is).again
