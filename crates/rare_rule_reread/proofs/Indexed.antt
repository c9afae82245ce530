-- Operators with indices in a rule: what is written of an application that was read is read back, where that holds of its arguments.
use Rattle.std.proofs.Common.{◌≡◌, ℕ, zero, suc, ◌+◌, ◌<◌, ◌≤◌, Bool, true, false, List, [], ◌∷◌, ◌++◌, map, length, take, drop, nat_eq, nat_lt, Option, Some, None, Ok, refl, sym, ap, ◌∙◌, subst, arith, length-append}
use Rattle.std.specs.Prelude.{codes, if◌then◌else◌}
use Rattle.std.proofs.lemmas.Bool.{eqb-true, ltb-false}
use Rattle.std.proofs.lemmas.Bool.Decides.{nat_tests}
use Rattle.std.proofs.lemmas.Grind.{flat_map-append}
use Rattle.std.proofs.lemmas.List.{drop-map, length-map}
use Rattle.std.proofs.lemmas.Option.{none-some}
use Rattle.rare_base.specs.declared.answers.Reason.TheVariants as reason
use Rattle.rare_linear.specs.Linears.{LinearExpression}
use Rattle.rare_sexpr.specs.declared.tree.AtomKind.TheVariants as atom
use Rattle.rare_sexpr.specs.declared.tree.Sexpr.{Sexpr}
use Rattle.rare_sexpr.specs.Tree.{kind_of, text_of, items_of}
use Rattle.rare_sort.specs.Trees.{node, nesting, greatest}
use Rattle.rare_sort.specs.declared.head.Head.{Head}
use Rattle.rare_sort.specs.declared.tree.Tree.{Tree}
use Rattle.rare_term.specs.inner.TreeLaws.{nesting_node}
use Rattle.rare_scope.specs.Entries.{entry}
use Rattle.rare_scope.specs.LinearText.{linear_at}
use Rattle.rare_scope.specs.Printing.{linear_text_by}
use Rattle.rare_scope.specs.Reading.{Read, refused, go_on, is_symbol_kind, is_word}
use Rattle.rare_scope.proofs.InOrder.{went, same_Ok}
use Rattle.rare_operators.specs.declared.head.IndexedHead.{IndexedHead}
use Rattle.rare_operators.specs.declared.words.IndexedWord.{IndexedWord}
use Rattle.rare_operators.specs.HeadText.{indices_at, indexed_by, indexed_word_at, indexed_items, indexed_head}
use Rattle.rare_operators.specs.OperatorWords.{indexed_words}
use Rattle.rare_rule.specs.declared.param.Param.{Param}
use Rattle.rare_parse.specs.RuleNames.{rule_widths}
use Rattle.rare_parse.specs.RuleTermText.{is_large, arguments_from, with_indices, indexed_application, word_application}
use Rattle.rare_term_printing.specs.OperatorTexts.{list_text, indexed_word}
use Rattle.rare_rule_printing.specs.ConstraintPrinting.{number_text}
use Rattle.rare_rule_printing.specs.RulePrinting.{index_texts, application_text, rule_term_text}
use Rattle.rare_rule_printing.specs.inner.RulePieces.{all_spaced}
use Rattle.rare_reread.specs.ReadsAs.{RunsAs, IsListOf}
use Rattle.rare_reread.proofs.Atoms.{IsAtom, list_kind, list_items, word_reads}
use Rattle.rare_reread.proofs.Joining.{list_reads}
use Rattle.rare_reread.proofs.Linears.{so_reads, so_runs, GiveEach, none_gives, more_gives}
use Rattle.rare_rule_reread.proofs.Applications.{GivesBack, all_back, word_out}
use Rattle.rare_rule_reread.proofs.Arguments.{pair, IsTree, AreTrees, node_is, arguments_read, arguments_again, IsBack, AllBack, arguments_run}
use Rattle.rare_rule_reread.proofs.Induction.{AllHave}
use Rattle.rare_rule_reread.proofs.Pairs.{AreBoth, both_run}
use Rattle.rare_rule_reread.proofs.Spelled.{AllSpelled}
use Rattle.rare_rule_reread.proofs.Spoken.{AllSpeak, AreSpoken, linear_speaks, linear_back}
use Rattle.rare_rule_reread.proofs.Words.{IsIndexedWord, indexed_word_is, applied_is}

module _ (ps : List Param) where
  -- ---- items before a place, and behind it

  firsts : (xs : List Sexpr) → map (λ (x : Sexpr × Read Tree). x.0) (map (pair ps) xs) ≡ xs
  firsts [] = refl
  firsts (x ∷ xs) = ap (λ ys. x ∷ ys) (firsts xs)

  taken : (xs ys : List Sexpr) → map (λ x. x.0) (take (length xs) (map (pair ps) (xs ++ ys))) ≡ xs
  taken [] ys = refl
  taken (x ∷ xs) ys = ap (λ zs. x ∷ zs) (taken xs ys)

  dropped : (xs ys : List Sexpr) → drop (length xs) (map (pair ps) (xs ++ ys)) ≡ map (pair ps) ys
  dropped [] ys = refl
  dropped (x ∷ xs) ys = dropped xs ys

  taken_count : (n : ℕ) (xs : List Sexpr) → n ≤ length xs → length (map (λ x. x.0) (take n (map (pair ps) xs))) ≡ n
  taken_count zero xs le = refl
  taken_count (suc n) [] le = absurd (omega (arith, le))
  taken_count (suc n) (x ∷ xs) le = ap suc (taken_count n xs (omega (arith, le)))

  drop_have : (n : ℕ) (xs : List Sexpr) → AllHave (GivesBack ps) xs → AllHave (GivesBack ps) (drop n xs)
  drop_have zero xs all = all
  drop_have (suc n) [] all = tt
  drop_have (suc n) (x ∷ xs) all = drop_have n xs all.1

  drop_spelled : (n : ℕ) (xs : List Sexpr) → AllSpelled xs → AllSpelled (drop n xs)
  drop_spelled zero xs all = all
  drop_spelled (suc n) [] all = tt
  drop_spelled (suc n) (x ∷ xs) all = drop_spelled n xs all.1

  -- ---- indices

  abbrev Indices : List LinearExpression → List Sexpr → Type 0
  Indices = GiveEach (rule_widths ps)

  indices_run : (ix : List LinearExpression) → AllSpeak ps ps ix → RunsAs 4 (all_spaced (index_texts ps ix)) (Indices ix)
  indices_run [] speak = none_gives (rule_widths ps) 4
  indices_run (l ∷ ix) speak = more_gives (rule_widths ps) 4 (linear_text_by (number_text ps) l) (all_spaced (index_texts ps ix)) l ix (linear_back ps ps l speak.0) (indices_run ix speak.1)

  indices_again : (ix : List LinearExpression) (xs : List Sexpr) → Indices ix xs → indices_at (rule_widths ps) xs ≡ Ok ix
  indices_again [] [] g = refl
  indices_again [] (x ∷ xs) g = absurd g
  indices_again (l ∷ ix) [] g = absurd g
  indices_again (l ∷ ix) (x ∷ xs) g =
      ap (λ q. go_on q (λ l. go_on (indices_at (rule_widths ps) xs) (λ ls. Ok (l ∷ ls)))) g.0 ∙ ap (λ q. go_on q (λ ls. Ok (l ∷ ls))) (indices_again ix xs g.1)

  index_count : (ix : List LinearExpression) (xs : List Sexpr) → Indices ix xs → length xs ≡ length ix
  index_count [] [] g = refl
  index_count [] (x ∷ xs) g = absurd g
  index_count (l ∷ ix) [] g = absurd g
  index_count (l ∷ ix) (x ∷ xs) g = ap suc (index_count ix xs g.1)

  -- ---- written

  abbrev Parts : List LinearExpression → List Tree → List Sexpr → Type 0
  Parts ix ts = AreBoth (Indices ix) (AreTrees ps ts)

  indexed_again : (w : IndexedWord) (ix : List LinearExpression) (ts : List Tree) (x : Sexpr) → entry indexed_words (indexed_word w.head) ≡ Some w → IsIndexedWord (indexed_word w.head) w → length ix ≡ w.indices → is_large w.head ix ts ≡ false →
      IsListOf (IsAtom atom.Symbol (indexed_word w.head)) (Parts ix ts) x → IsTree ps (node w.head ix ts) x
  indexed_again w ix ts x found word many small i =
      let t = indexed_word w.head in
      let front = i.are.front in
      let back = i.are.back in
      let n : w.indices ≡ length front = sym (index_count ix front i.are.are ∙ many) in
      let items : items_of x ≡ i.first ∷ (front ++ back) = ap items_of i.list ∙ list_items i.place (i.first ∷ i.items) ∙ ap (λ es. i.first ∷ es) i.are.both in
      let whole : length (map (pair ps) (front ++ back)) ≡ length (front ++ back) = length-map (front ++ back) (pair ps) in
      let l = length-append front back in
      let enough : nat_lt (length (map (pair ps) (front ++ back))) w.indices ≡ false = grind (arith, nat_tests) in
      word_out ps t x i.first (front ++ back) word.word (ap kind_of i.list ∙ list_kind i.place (i.first ∷ i.items)) items i.is
      ∙ ap (word_application ps x i.first (map (pair ps) (front ++ back))) found
      ∙ ap (λ b. if b then refused x reason.BadForm else go_on (indices_at (rule_widths ps) (map (λ x. x.0) (take w.indices (map (pair ps) (front ++ back))))) (λ ix. arguments_from x (with_indices w.head ix) [] (drop w.indices (map (pair ps) (front ++ back))))) enough
      ∙ ap (λ k. go_on (indices_at (rule_widths ps) (map (λ x. x.0) (take k (map (pair ps) (front ++ back))))) (λ ix. arguments_from x (with_indices w.head ix) [] (drop k (map (pair ps) (front ++ back))))) n
      ∙ ap (λ xs. go_on (indices_at (rule_widths ps) xs) (λ ix. arguments_from x (with_indices w.head ix) [] (drop (length front) (map (pair ps) (front ++ back))))) (taken front back)
      ∙ ap (λ q. go_on q (λ ix. arguments_from x (with_indices w.head ix) [] (drop (length front) (map (pair ps) (front ++ back))))) (indices_again ix front i.are.are)
      ∙ ap (arguments_from x (with_indices w.head ix) []) (dropped front back)
      ∙ arguments_again ps x (with_indices w.head ix) [] ts back i.are.bre small

  application_is : (h : Head) (ix : List LinearExpression) (ts : List (List ℕ)) → 0 < length ix → application_text h (index_texts ps ix) ts ≡ list_text (indexed_word h ∷ (index_texts ps ix ++ ts))
  application_is h [] ts some = absurd (omega (arith, some))
  application_is h (l ∷ ix) ts some = refl

  indexed_applied : (w : IndexedWord) (ix : List LinearExpression) (ts : List Tree) → entry indexed_words (indexed_word w.head) ≡ Some w → IsIndexedWord (indexed_word w.head) w → length ix ≡ w.indices → AllSpeak ps ps ix → is_large w.head ix ts ≡ false → AllBack ps ts →
      IsBack ps (node w.head ix ts)
  indexed_applied w ix ts found word many speak small all =
      let t = indexed_word w.head in
      let m = greatest (map nesting ts) + 4 in
      let nest = nesting_node w.head ix ts in
      let texts = map (rule_term_text ps) ts in
      let some : 0 < length ix = let n = word.some in omega (arith, n, many) in
      let run : RunsAs m (all_spaced (index_texts ps ix)) (Indices ix) = so_runs 4 m (all_spaced (index_texts ps ix)) (all_spaced (index_texts ps ix)) (Indices ix) (Indices ix) (omega arith) refl (λ es g. g) (indices_run ix speak) in
      so_reads (suc m) (nesting (node w.head ix ts) + 4) (40 ∷ (t ++ ((all_spaced (index_texts ps ix) ++ all_spaced texts) ++ 41 ∷ []))) (rule_term_text ps (node w.head ix ts)) (IsListOf (IsAtom atom.Symbol t) (Parts ix ts)) (IsTree ps (node w.head ix ts))
      (omega (arith, nest))
      (ap (λ u. 40 ∷ (t ++ (u ++ 41 ∷ []))) (sym (flat_map-append (λ u. codes " " ++ u) (index_texts ps ix) texts)) ∙ sym (application_is w.head ix texts some) ∙ sym (applied_is ps w.head ix texts word.applied) ∙ sym (node_is ps w.head ix ts))
      (λ x i. indexed_again w ix ts x found word many small i)
      (list_reads m t (all_spaced (index_texts ps ix) ++ all_spaced texts) (IsAtom atom.Symbol t) (Parts ix ts) (word_reads m t word.word.simple)
      (both_run m (all_spaced (index_texts ps ix)) (all_spaced texts) (Indices ix) (AreTrees ps ts) run (arguments_run ps m ts (omega arith) all)))

  -- ---- read

  module _ (spoken : AreSpoken ps ps) where
    indices_speak : (xs : List Sexpr) (ix : List LinearExpression) → indices_at (rule_widths ps) xs ≡ Ok ix → AllSpeak ps ps ix × (length ix ≡ length xs)
    indices_speak [] ix is = subst (λ (ix : List LinearExpression). AllSpeak ps ps ix × (length ix ≡ 0)) (same_Ok [] ix is) (tt, refl)
    indices_speak (x ∷ xs) ix is =
        let l = went (linear_at (rule_widths ps) x) (λ l. go_on (indices_at (rule_widths ps) xs) (λ ls. Ok (l ∷ ls))) ix is in
        let ls = went (indices_at (rule_widths ps) xs) (λ ls. Ok (l.0 ∷ ls)) ix l.2 in
        let rest = indices_speak xs ls.0 ls.1 in
        subst (λ (ix : List LinearExpression). AllSpeak ps ps ix × (length ix ≡ suc (length xs))) (same_Ok (l.0 ∷ ls.0) ix ls.2) ((linear_speaks ps ps spoken x l.0 l.1, rest.0), ap suc rest.1)

    -- with arguments behind
    applied_back : (e : Sexpr) (text : List ℕ) (w : IndexedWord) (ix : List LinearExpression) (xs : List Sexpr) (t : Tree) → entry indexed_words text ≡ Some w → length ix ≡ w.indices → AllSpeak ps ps ix → AllHave (GivesBack ps) xs → AllSpelled xs →
        arguments_from e (with_indices w.head ix) [] (map (pair ps) xs) ≡ Ok t → IsBack ps t
    applied_back e text w ix xs t found many speak all spelled is =
        let word = indexed_word_is text w found in
        let a = arguments_read ps e (with_indices w.head ix) [] xs t is in
        subst (IsBack ps) a.is
        (indexed_applied w ix a.trees (ap (entry indexed_words) (sym word.is) ∙ found) (subst (λ (u : List ℕ). IsIndexedWord u w) word.is word) many speak a.small (all_back ps a.trees xs all spelled a.are))

    -- `(extract j i x)`
    pub index_back : (e : Sexpr) (text : List ℕ) (w : IndexedWord) (xs : List Sexpr) (t : Tree) → entry indexed_words text ≡ Some w → AllHave (GivesBack ps) xs → AllSpelled xs → indexed_application ps e w (map (pair ps) xs) ≡ Ok t → IsBack ps t
    index_back e text w xs t found all spelled is = go (nat_lt (length (map (pair ps) xs)) w.indices) refl is
      where
        go : (b : Bool) → nat_lt (length (map (pair ps) xs)) w.indices ≡ b →
            (if b then refused e reason.BadForm else go_on (indices_at (rule_widths ps) (map (λ x. x.0) (take w.indices (map (pair ps) xs)))) (λ ix. arguments_from e (with_indices w.head ix) [] (drop w.indices (map (pair ps) xs)))) ≡ Ok t → IsBack ps t
        go true few is = absurd cc
        go false few is =
            let ix = went (indices_at (rule_widths ps) (map (λ x. x.0) (take w.indices (map (pair ps) xs)))) (λ ix. arguments_from e (with_indices w.head ix) [] (drop w.indices (map (pair ps) xs))) t is in
            let speak = indices_speak (map (λ x. x.0) (take w.indices (map (pair ps) xs))) ix.0 ix.1 in
            let m = length-map xs (pair ps) in
            let le = ltb-false (length (map (pair ps) xs)) w.indices few in
            let many : length ix.0 ≡ w.indices = speak.1 ∙ taken_count w.indices xs (omega (arith, m, le)) in
            applied_back e text w ix.0 (drop w.indices xs) t found many speak.0 (drop_have w.indices xs all) (drop_spelled w.indices xs spelled)
            (ap (arguments_from e (with_indices w.head ix.0) []) (sym (drop-map (pair ps) w.indices xs)) ∙ ix.2)

    pub word_entry : (word : Sexpr) (w : IndexedWord) → indexed_word_at word ≡ Some w → entry indexed_words (text_of word) ≡ Some w
    word_entry word w is = go (is_symbol_kind (kind_of word)) is
      where
        go : (b : Bool) → (if b then entry indexed_words (text_of word) else None) ≡ Some w → entry indexed_words (text_of word) ≡ Some w
        go true is = is
        go false is = absurd (none-some w is)

    -- an operator with its indices
    record IsIndexed (o : IndexedHead) : Type 0 where
      text : List ℕ
      word : IndexedWord
      indices : List LinearExpression
      found : entry indexed_words text ≡ Some word
      many : length indices ≡ word.indices
      speak : AllSpeak ps ps indices
      is : with_indices word.head indices ≡ o

    by_word : (h word : Sexpr) (xs : List Sexpr) (u : Option IndexedWord) (o : IndexedHead) → indexed_word_at word ≡ u → indexed_by (rule_widths ps) h word xs u ≡ Ok o → IsIndexed o
    by_word h word xs None o found is = absurd cc
    by_word h word xs (Some w) o found is = go (nat_eq (length xs) w.indices) refl is
      where
        go : (b : Bool) → nat_eq (length xs) w.indices ≡ b →
            (if b then go_on (indices_at (rule_widths ps) xs) (λ ls. Ok (record { head = w.head; indices = ls })) else refused h reason.BadForm) ≡ Ok o → IsIndexed o
        go true same is =
            let ls = went (indices_at (rule_widths ps) xs) (λ ls. Ok (with_indices w.head ls)) o is in
            let speak = indices_speak xs ls.0 ls.1 in
            record { text = text_of word; word = w; indices = ls.0; found = word_entry word w found; many = speak.1 ∙ eqb-true (length xs) w.indices same; speak = speak.0; is = same_Ok (with_indices w.head ls.0) o ls.2 }
        go false same is = absurd cc

    items_indexed : (h : Sexpr) (xs : List Sexpr) (o : IndexedHead) → indexed_items (rule_widths ps) h xs ≡ Ok o → IsIndexed o
    items_indexed h [] o is = absurd cc
    items_indexed h (u ∷ []) o is = absurd cc
    items_indexed h (u ∷ word ∷ []) o is = absurd cc
    items_indexed h (u ∷ word ∷ x ∷ []) o is = by_word h word (x ∷ []) (indexed_word_at word) o refl is
    items_indexed h (u ∷ word ∷ x ∷ y ∷ []) o is = by_word h word (x ∷ y ∷ []) (indexed_word_at word) o refl is
    items_indexed h (u ∷ word ∷ x ∷ y ∷ z ∷ zs) o is = absurd cc

    head_indexed : (h : Sexpr) (xs : List Sexpr) (o : IndexedHead) → indexed_head (rule_widths ps) h xs ≡ Ok o → IsIndexed o
    head_indexed h [] o is = absurd cc
    head_indexed h (u ∷ xs) o is = go (is_word (codes "_") u) is
      where
        go : (b : Bool) → (if b then indexed_items (rule_widths ps) h (u ∷ xs) else refused h reason.BadForm) ≡ Ok o → IsIndexed o
        go true is = items_indexed h (u ∷ xs) o is
        go false is = absurd cc

    -- `((_ extract j i) x)`
    pub list_head_back : (e h : Sexpr) (xs : List Sexpr) (t : Tree) → AllHave (GivesBack ps) xs → AllSpelled xs →
        go_on (indexed_head (rule_widths ps) h (items_of h)) (λ o. arguments_from e o [] (map (pair ps) xs)) ≡ Ok t → IsBack ps t
    list_head_back e h xs t all spelled is =
        let o = went (indexed_head (rule_widths ps) h (items_of h)) (λ o. arguments_from e o [] (map (pair ps) xs)) t is in
        let i = head_indexed h (items_of h) o.0 o.1 in
        applied_back e i.text i.word i.indices xs t i.found i.many i.speak all spelled (ap (λ o. arguments_from e o [] (map (pair ps) xs)) i.is ∙ o.2)
