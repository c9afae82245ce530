-- What is written of a term that was read over the parameters of a rule is read back as the term.
use Rattle.std.proofs.Common.{◌≡◌, ℕ, ◌+◌, ◌*◌, ◌≤◌, Bool, true, false, List, [], ◌∷◌, ◌++◌, map, length, bytes_eq, Option, Some, None, Ok, refl, sym, ap, ◌∙◌, subst, arith}
use Rattle.std.specs.Prelude.{codes, if◌then◌else◌}
use Rattle.std.specs.Fmt.{decimal}
use Rattle.std.proofs.lemmas.Slice.Eq.{bytes_eq-Decides}
use Rattle.rare_sexpr.specs.Written.{written_symbol}
use Rattle.rare_sexpr.specs.declared.tree.AtomKind.TheVariants as atom
use Rattle.rare_sexpr.specs.declared.tree.Kind.{Kind}
use Rattle.rare_sexpr.specs.declared.tree.Kind.TheVariants as kind
use Rattle.rare_sexpr.specs.declared.tree.Sexpr.{Sexpr}
use Rattle.rare_sexpr.specs.Tree.{kind_of, text_of, items_of}
use Rattle.rare_sort.specs.Trees.{node, nesting}
use Rattle.rare_sort.specs.declared.head.Head.{Head}
use Rattle.rare_sort.specs.declared.head.Head.TheVariants as head
use Rattle.rare_sort.specs.declared.tree.Tree.{Tree}
use Rattle.rare_sort.proofs.NeedsLemmas.{both}
use Rattle.rare_scope.specs.Numbers.{LARGEST_SMALL, digits_number, small_number, wide_number}
use Rattle.rare_scope.specs.Reading.{Read, is_string_kind, is_symbol_kind, is_word}
use Rattle.rare_scope.proofs.InOrder.{same_Ok}
use Rattle.rare_operators.specs.HeadText.{indexed_word_at}
use Rattle.rare_operators.specs.OperatorWords.{operator_of_word}
use Rattle.rare_operators.specs.declared.words.IndexedWord.{IndexedWord}
use Rattle.rare_operators.specs.declared.words.WordUse.{WordUse}
use Rattle.rare_operators.specs.declared.words.WordUse.TheVariants.{Constant, Difference, Plain}
use Rattle.rare_rule.specs.Params.{is_term_kind}
use Rattle.rare_rule.specs.declared.param.Param.{Param}
use Rattle.rare_parse.specs.RuleNames.{term_named}
use Rattle.rare_parse.specs.RuleTermText.{bits_literal, numeral_term, word_term, symbol_term, word_application, application_by, decimal_literal, linear_literal, list_term, term_by, rule_term_at}
use Rattle.rare_term_printing.specs.OperatorTexts.{operator_word}
use Rattle.rare_rule_printing.specs.RulePrinting.{rule_term_text}
use Rattle.rare_rule_printing.specs.SortPrinting.{name_or}
use Rattle.rare_reread.specs.ReadsAs.{ReadsAs}
use Rattle.rare_reread.proofs.Atoms.{IsAtom, kind_is, text_is, symbol_reads, numeral_reads, decimal_small}
use Rattle.rare_reread.proofs.Linears.{so_reads}
use Rattle.rare_rule_reread.specs.Spelled.{IsSpelled}
use Rattle.rare_rule_reread.proofs.Applications.{term_out, GivesBack, word_back}
use Rattle.rare_rule_reread.proofs.Arguments.{pair, IsTree, node_is, IsBack}
use Rattle.rare_rule_reread.proofs.Indexed.{index_back, list_head_back, word_entry}
use Rattle.rare_rule_reread.proofs.Induction.{AllHave, each_has}
use Rattle.rare_rule_reread.proofs.Places.{where_is}
use Rattle.rare_rule_reread.proofs.RuleLiterals.{bits_back, decimal_back, linear_literal_back}
use Rattle.rare_rule_reread.proofs.RuleNumbers.{small_is}
use Rattle.rare_rule_reread.proofs.Spelled.{AllSpelled, items_spelled, symbol_in_bars, text_short}
use Rattle.rare_rule_reread.proofs.Spoken.{AreSpoken}
use Rattle.rare_rule_reread.proofs.Words.{is_constant, operator_word_is, constant_alone}

module _ (ps : List Param) (spoken : AreSpoken ps ps) where
  -- ---- symbols

  abbrev by_text : Sexpr → Option ℕ → Bool → Option WordUse → Read Tree
  by_text x (Some k) b w = Ok (node (head.Param k) [] [])
  by_text x None b w = if b then Ok (node head.Hole [] []) else word_term x w

  symbol_by : (x : Sexpr) (o : Option ℕ) → symbol_term x o ≡ by_text x o (bytes_eq (text_of x) (codes "_")) (operator_of_word (text_of x))
  symbol_by x (Some k) = refl
  symbol_by x None = refl

  abbrev of_symbol : Sexpr → List ℕ → Read Tree
  of_symbol x u = by_text x (term_named ps u) (bytes_eq u (codes "_")) (operator_of_word u)

  -- a symbol of the same text reads as the same term
  same_symbol : (e x : Sexpr) (u : List ℕ) (t : Tree) → of_symbol e u ≡ Ok t → of_symbol x u ≡ Ok t
  same_symbol e x u t is = go (term_named ps u) (bytes_eq u (codes "_")) (operator_of_word u) is
    where
      go : (o : Option ℕ) (b : Bool) (w : Option WordUse) → by_text e o b w ≡ Ok t → by_text x o b w ≡ Ok t
      go (Some k) b w is = is
      go None true w is = is
      go None false (Some (Constant h)) is = is
      go None false (Some (Plain h)) is = absurd cc
      go None false (Some Difference) is = absurd cc
      go None false None is = absurd cc

  abbrev IsWritten : List ℕ → Tree → Type 0
  IsWritten u t = rule_term_text ps t ≡ written_symbol u

  param_written : (u : List ℕ) (k : ℕ) → term_named ps u ≡ Some k → IsWritten u (node (head.Param k) [] [])
  param_written u k is =
      let n = spoken.names u k (where_is is_term_kind ps u k is).0 in
      node_is ps (head.Param k) [] [] ∙ ap name_or n.place ∙ ap written_symbol n.is_text

  hole_written : (u : List ℕ) → bytes_eq u (codes "_") ≡ true → IsWritten u (node head.Hole [] [])
  hole_written u is = node_is ps head.Hole [] [] ∙ ap written_symbol (sym ((bytes_eq-Decides u (codes "_")).0 is))

  constant_written : (u : List ℕ) (h : Head) → operator_of_word u ≡ Some (Constant h) → IsWritten u (node h [] [])
  constant_written u h used =
      let w = operator_word_is u (Constant h) used in
      let f = both (is_constant h) (bytes_eq u (operator_word h)) w.fit in
      node_is ps h [] [] ∙ constant_alone ps h f.0 ∙ sym ((bytes_eq-Decides u (operator_word h)).0 f.1)
      ∙ sym (ap (λ b. if b then u else (124 ∷ (u ++ 124 ∷ []))) w.word.simple)

  symbol_written : (e : Sexpr) (u : List ℕ) (t : Tree) → of_symbol e u ≡ Ok t → IsWritten u t
  symbol_written e u t is = go (term_named ps u) refl (bytes_eq u (codes "_")) refl (operator_of_word u) refl is
    where
      go : (o : Option ℕ) → term_named ps u ≡ o → (b : Bool) → bytes_eq u (codes "_") ≡ b → (w : Option WordUse) → operator_of_word u ≡ w → by_text e o b w ≡ Ok t → IsWritten u t
      go (Some k) named b hole w used is = subst (IsWritten u) (same_Ok (node (head.Param k) [] []) t is) (param_written u k named)
      go None named true hole w used is = subst (IsWritten u) (same_Ok (node head.Hole [] []) t is) (hole_written u hole)
      go None named false hole (Some (Constant h)) used is = subst (IsWritten u) (same_Ok (node h [] []) t is) (constant_written u h used)
      go None named false hole (Some (Plain h)) used is = absurd cc
      go None named false hole (Some Difference) used is = absurd cc
      go None named false hole None used is = absurd cc

  symbol_back : (e : Sexpr) (t : Tree) → IsSpelled e → kind_of e ≡ kind.Symbol → symbol_term e (term_named ps (text_of e)) ≡ Ok t → IsBack ps t
  symbol_back e t spelled symbol is =
      let u = text_of e in
      let read : of_symbol e (text_of e) ≡ Ok t = sym (symbol_by e (term_named ps (text_of e))) ∙ is in
      so_reads 0 (nesting t + 4) (written_symbol (text_of e)) (rule_term_text ps t) (IsAtom atom.Symbol (text_of e)) (IsTree ps t) (omega arith) (sym (symbol_written e (text_of e) t read))
      (λ x a. term_out ps x ∙ ap (λ k. term_by ps x k (map (pair ps) (items_of x))) (kind_is atom.Symbol (text_of e) x a) ∙ symbol_by x (term_named ps (text_of x))
      ∙ ap (of_symbol x) (text_is atom.Symbol (text_of e) x a) ∙ same_symbol e x (text_of e) t read)
      (symbol_reads 0 (text_of e) (symbol_in_bars e spelled (ap is_symbol_kind symbol)))

  -- ---- numerals

  number_back : (n : ℕ) → n ≤ LARGEST_SMALL → IsBack ps (node (head.Numeral n) [] [])
  number_back n le =
      so_reads 0 (nesting (node (head.Numeral n) [] []) + 4) (decimal n) (rule_term_text ps (node (head.Numeral n) [] [])) (IsAtom atom.Numeral (decimal n)) (IsTree ps (node (head.Numeral n) [] [])) (omega arith) (sym (node_is ps (head.Numeral n) [] []))
      (λ x a. term_out ps x ∙ ap (λ k. term_by ps x k (map (pair ps) (items_of x))) (kind_is atom.Numeral (decimal n) x a)
      ∙ ap (λ u. numeral_term x (small_number u)) (text_is atom.Numeral (decimal n) x a) ∙ ap (numeral_term x) (decimal_small n le)) (numeral_reads 0 n (omega (arith, le)))

  numeral_back : (e : Sexpr) (t : Tree) → numeral_term e (small_number (text_of e)) ≡ Ok t → IsBack ps t
  numeral_back e t is = go (small_number (text_of e)) refl is
    where
      go : (o : Option ℕ) → small_number (text_of e) ≡ o → numeral_term e o ≡ Ok t → IsBack ps t
      go None found is = absurd cc
      go (Some n) found is = subst (IsBack ps) (same_Ok (node (head.Numeral n) [] []) t is) (number_back n (small_is (digits_number 10 (text_of e)) n found))

  -- ---- lists

  head_back : (e h : Sexpr) (xs : List Sexpr) (k : Kind) (t : Tree) → AllHave (GivesBack ps) xs → AllSpelled xs → application_by ps e h (map (pair ps) xs) k ≡ Ok t → IsBack ps t
  head_back e h xs kind.Symbol t all spelled is = go (indexed_word_at h) refl is
    where
      go : (o : Option IndexedWord) → indexed_word_at h ≡ o → word_application ps e h (map (pair ps) xs) o ≡ Ok t → IsBack ps t
      go (Some w) found is = index_back ps spoken e (text_of h) w xs t (word_entry ps spoken h w found) all spelled is
      go None found is = word_back ps e h xs t all spelled is
  head_back e h xs kind.List t all spelled is = list_head_back ps spoken e h xs t all spelled is
  head_back e h xs k t all spelled is = absurd cc

  list_back : (e : Sexpr) (xs : List Sexpr) (t : Tree) → AllHave (GivesBack ps) xs → AllSpelled xs → list_term ps e (map (pair ps) xs) ≡ Ok t → IsBack ps t
  list_back e [] t all spelled is = absurd cc
  list_back e (h ∷ xs) t all spelled is = go (is_word (codes "_") h) (is_word (codes "bv") h) is
    where
      go : (a b : Bool) → (if a then decimal_literal e (items_of e) else (if b then linear_literal ps e (items_of e) else application_by ps e h (map (pair ps) xs) (kind_of h))) ≡ Ok t → IsBack ps t
      go true b is = decimal_back ps e (items_of e) t is
      go false true is = linear_literal_back ps spoken e (items_of e) t is
      go false false is = head_back e h xs (kind_of h) t all.1 spelled.1 is

  -- ---- all terms

  digits_back : (e : Sexpr) (base n : ℕ) (t : Tree) → IsSpelled e → is_string_kind (kind_of e) ≡ false → n ≤ 4 * length (text_of e) → bits_literal e (wide_number base (text_of e)) n ≡ Ok t → IsBack ps t
  digits_back e base n t spelled other le is = let short = text_short e spelled other in bits_back ps e (text_of e) base n t (omega (arith, short, le)) is

  by_kind : (e : Sexpr) (k : Kind) (t : Tree) → kind_of e ≡ k → AllHave (GivesBack ps) (items_of e) → IsSpelled e → term_by ps e k (map (pair ps) (items_of e)) ≡ Ok t → IsBack ps t
  by_kind e kind.List t same all spelled is = list_back e (items_of e) t all (items_spelled e spelled) is
  by_kind e kind.Symbol t same all spelled is = symbol_back e t spelled same is
  by_kind e kind.Numeral t same all spelled is = numeral_back e t is
  by_kind e kind.Binary t same all spelled is = digits_back e 2 (length (text_of e)) t spelled (ap is_string_kind same) (omega arith) is
  by_kind e kind.Hex t same all spelled is = digits_back e 16 (4 * length (text_of e)) t spelled (ap is_string_kind same) (omega arith) is
  by_kind e k t same all spelled is = absurd cc

  at_each : (e : Sexpr) → AllHave (GivesBack ps) (items_of e) → GivesBack ps e
  at_each e all spelled t is = by_kind e (kind_of e) t refl all spelled (sym (term_out ps e) ∙ is)

  -- what is written of a term that a spelled expression reads as is read back
  pub term_back : (e : Sexpr) → IsSpelled e → (t : Tree) → rule_term_at ps e ≡ Ok t → ReadsAs (nesting t + 4) (rule_term_text ps t) (λ x. rule_term_at ps x ≡ Ok t)
  term_back = each_has (GivesBack ps) at_each
