-- Applications in a rule: what is written of one that was read is read back, where that holds of its arguments.
use Rattle.std.proofs.Common.{◌≡◌, ℕ, suc, ◌+◌, Bool, true, false, List, [], ◌∷◌, map, length, bytes_eq, nat_eq, Option, Some, None, Ok, refl, sym, ap, ◌∙◌, subst, arith}
use Rattle.std.specs.Prelude.{codes, if◌then◌else◌}
use Rattle.std.proofs.lemmas.List.{length-map}
use Rattle.std.proofs.lemmas.Slice.Eq.{bytes_eq-Decides}
use Rattle.rare_base.specs.declared.answers.Reason.TheVariants as reason
use Rattle.rare_sexpr.specs.declared.tree.AtomKind.TheVariants as atom
use Rattle.rare_sexpr.specs.declared.tree.Kind.TheVariants as kind
use Rattle.rare_sexpr.specs.declared.tree.Sexpr.{Sexpr}
use Rattle.rare_sexpr.specs.Tree.{kind_of, text_of, items_of}
use Rattle.rare_sexpr.proofs.Trees.{go_out}
use Rattle.rare_sort.specs.Trees.{node, nesting, greatest}
use Rattle.rare_sort.specs.declared.head.Head.{Head}
use Rattle.rare_sort.specs.declared.head.Head.TheVariants as head
use Rattle.rare_sort.specs.declared.tree.Tree.{Tree}
use Rattle.rare_sort.proofs.NeedsLemmas.{both}
use Rattle.rare_term.specs.inner.TreeLaws.{nesting_node}
use Rattle.rare_scope.specs.Entries.{entry}
use Rattle.rare_scope.specs.Reading.{Read, refused, go_on, is_symbol_kind, is_word}
use Rattle.rare_scope.proofs.InOrder.{went, same_Ok}
use Rattle.rare_operators.specs.declared.head.IndexedHead.{IndexedHead}
use Rattle.rare_operators.specs.declared.words.WordUse.{WordUse}
use Rattle.rare_operators.specs.declared.words.WordUse.TheVariants.{Constant, Difference, Plain}
use Rattle.rare_operators.specs.HeadText.{bare, word_head}
use Rattle.rare_operators.specs.OperatorWords.{operator_of_word, indexed_words}
use Rattle.rare_rule.specs.declared.param.Param.{Param}
use Rattle.rare_parse.specs.RuleTermText.{is_large, arguments_from, word_application, application_by, list_term, term_by, rule_term_at}
use Rattle.rare_term_printing.specs.OperatorTexts.{list_text, operator_word}
use Rattle.rare_rule_printing.specs.RulePrinting.{node_text, rule_term_text}
use Rattle.rare_rule_printing.specs.inner.RulePieces.{all_spaced}
use Rattle.rare_reread.specs.ReadsAs.{IsListOf}
use Rattle.rare_reread.proofs.Atoms.{IsAtom, kind_is, text_is, list_kind, list_items, word_reads}
use Rattle.rare_reread.proofs.Heads.{if_no}
use Rattle.rare_reread.proofs.Joining.{list_reads}
use Rattle.rare_reread.proofs.Linears.{so_reads}
use Rattle.rare_reread.proofs.Lists.{word_is}
use Rattle.rare_rule_reread.specs.Spelled.{IsSpelled}
use Rattle.rare_rule_reread.proofs.Arguments.{pair, IsTree, AreTrees, as_many, node_is, arguments_read, arguments_again, IsBack, AllBack, arguments_run}
use Rattle.rare_rule_reread.proofs.Induction.{AllHave}
use Rattle.rare_rule_reread.proofs.Spelled.{AllSpelled}
use Rattle.rare_rule_reread.proofs.Words.{IsWord, IsOperatorWord, fits, is_constant, is_applied, operator_word_is, applied_is, constant_before, neg_text, minus_text}

module _ (ps : List Param) where
  -- ---- by the parts of an expression

  pub term_out : (x : Sexpr) → rule_term_at ps x ≡ term_by ps x (kind_of x) (map (pair ps) (items_of x))
  term_out x = go_out (Read Tree) (λ e items. term_by ps e (kind_of e) items) x

  pub list_out : (x h : Sexpr) (xs : List Sexpr) → kind_of x ≡ kind.List → items_of x ≡ h ∷ xs → rule_term_at ps x ≡ list_term ps x (map (pair ps) (h ∷ xs))
  list_out x h xs list items = term_out x ∙ ap (λ k. term_by ps x k (map (pair ps) (items_of x))) list ∙ ap (λ ys. list_term ps x (map (pair ps) ys)) items

  -- a list that begins with a word of an operator
  pub word_out : (t : List ℕ) (x h : Sexpr) (xs : List Sexpr) → IsWord t → kind_of x ≡ kind.List → items_of x ≡ h ∷ xs → IsAtom atom.Symbol t h →
      rule_term_at ps x ≡ word_application ps x h (map (pair ps) xs) (entry indexed_words t)
  word_out t x h xs w list items a =
      list_out x h xs list items
      ∙ if_no (is_word (codes "_") h) _ _ (word_is (codes "_") t h a ∙ w.no_hole)
      ∙ if_no (is_word (codes "bv") h) _ _ (word_is (codes "bv") t h a ∙ w.no_literal)
      ∙ ap (application_by ps x h (map (pair ps) xs)) (kind_is atom.Symbol t h a)
      ∙ ap (word_application ps x h (map (pair ps) xs)) (ap (λ k. if is_symbol_kind k then entry indexed_words (text_of h) else None) (kind_is atom.Symbol t h a) ∙ ap (entry indexed_words) (text_is atom.Symbol t h a))

  -- what a term reads as is read back
  abbrev pub GivesBack : Sexpr → Type 0
  GivesBack e = IsSpelled e → (t : Tree) → IsTree ps t e → IsBack ps t

  pub all_back : (ts : List Tree) (xs : List Sexpr) → AllHave GivesBack xs → AllSpelled xs → AreTrees ps ts xs → AllBack ps ts
  all_back [] xs all spelled are = tt
  all_back (t ∷ ts) [] all spelled are = absurd are
  all_back (t ∷ ts) (x ∷ xs) all spelled are = (all.0 spelled.0 t are.0, all_back ts xs all.1 spelled.1 are.1)

  -- ---- operators without indices

  -- the operator of a word does not depend on where it stands
  same_head : (e f h k : Sexpr) (n : ℕ) (u : WordUse) (o : IndexedHead) → word_head e h n (Some u) ≡ Ok o → word_head f k n (Some u) ≡ Ok o
  same_head e f h k n (Constant c) o is = go (nat_eq n 0) is
    where
      go : (b : Bool) → (if b then refused e reason.BadForm else Ok (bare c)) ≡ Ok o → (if b then refused f reason.BadForm else Ok (bare c)) ≡ Ok o
      go true is = absurd cc
      go false is = is
  same_head e f h k n Difference o is = is
  same_head e f h k n (Plain c) o is = is

  abbrev TextIs : List ℕ → List (List ℕ) → IndexedHead → Type 0
  TextIs t ts o = node_text ps o.head o.indices ts ≡ list_text (t ∷ ts)

  word_same : (t : List ℕ) (ts : List (List ℕ)) (c : Head) → bytes_eq t (operator_word c) ≡ true → list_text (operator_word c ∷ ts) ≡ list_text (t ∷ ts)
  word_same t ts c same = ap (λ w. list_text (w ∷ ts)) (sym ((bytes_eq-Decides t (operator_word c)).0 same))

  constant_text : (e : Sexpr) (t : List ℕ) (ts : List (List ℕ)) (c : Head) (o : IndexedHead) → is_constant c ≡ true → bytes_eq t (operator_word c) ≡ true → (if nat_eq (length ts) 0 then refused e reason.BadForm else Ok (bare c)) ≡ Ok o → TextIs t ts o
  constant_text e t [] c o constant same is = absurd cc
  constant_text e t (s ∷ ts) c o constant same is = go (nat_eq (length (s ∷ ts)) 0) is
    where
      go : (b : Bool) → (if b then refused e reason.BadForm else Ok (bare c)) ≡ Ok o → TextIs t (s ∷ ts) o
      go true is = absurd cc
      go false is = subst (TextIs t (s ∷ ts)) (same_Ok (bare c) o is) (constant_before ps c s ts constant ∙ word_same t (s ∷ ts) c same)

  difference_text : (t : List ℕ) (ts : List (List ℕ)) (o : IndexedHead) (b : Bool) → bytes_eq t (codes "-") ≡ true → ◌≡◌ {A = Read IndexedHead} (if b then Ok (bare head.Neg) else Ok (bare head.Minus)) (Ok o) → TextIs t ts o
  difference_text t ts o true same is = subst (TextIs t ts) (same_Ok (bare head.Neg) o is) (neg_text ps ts ∙ ap (λ w. list_text (w ∷ ts)) (sym ((bytes_eq-Decides t (codes "-")).0 same)))
  difference_text t ts o false same is = subst (TextIs t ts) (same_Ok (bare head.Minus) o is) (minus_text ps ts ∙ ap (λ w. list_text (w ∷ ts)) (sym ((bytes_eq-Decides t (codes "-")).0 same)))

  head_text : (e h : Sexpr) (t : List ℕ) (ts : List (List ℕ)) (u : WordUse) (o : IndexedHead) → fits t u ≡ true → word_head e h (length ts) (Some u) ≡ Ok o → TextIs t ts o
  head_text e h t ts (Constant c) o fit is = let f = both (is_constant c) (bytes_eq t (operator_word c)) fit in constant_text e t ts c o f.0 f.1 is
  head_text e h t ts Difference o fit is = difference_text t ts o (nat_eq (length ts) 1) fit is
  head_text e h t ts (Plain c) o fit is =
      let f = both (is_applied c) (bytes_eq t (operator_word c)) fit in
      subst (TextIs t ts) (same_Ok (bare c) o is) (applied_is ps c [] ts f.0 ∙ word_same t ts c f.1)

  word_again : (e h : Sexpr) (t : List ℕ) (u : WordUse) (o : IndexedHead) (ts : List Tree) (x : Sexpr) → operator_of_word t ≡ Some u → IsOperatorWord t u → word_head e h (length ts) (Some u) ≡ Ok o → is_large o.head o.indices ts ≡ false →
      IsListOf (IsAtom atom.Symbol t) (AreTrees ps ts) x → IsTree ps (node o.head o.indices ts) x
  word_again e h t u o ts x used w is small i =
      let count : length (map (pair ps) i.items) ≡ length ts = length-map i.items (pair ps) ∙ as_many ps ts i.items i.are in
      word_out t x i.first i.items w.word (ap kind_of i.list ∙ list_kind i.place (i.first ∷ i.items)) (ap items_of i.list ∙ list_items i.place (i.first ∷ i.items)) i.is
      ∙ ap (word_application ps x i.first (map (pair ps) i.items)) w.no_index
      ∙ ap (λ v. go_on (word_head x i.first (length (map (pair ps) i.items)) v) (λ o. arguments_from x o [] (map (pair ps) i.items))) (ap operator_of_word (text_is atom.Symbol t i.first i.is) ∙ used)
      ∙ ap (λ q. go_on q (λ o. arguments_from x o [] (map (pair ps) i.items))) (ap (λ n. word_head x i.first n (Some u)) count ∙ same_head e x h i.first (length ts) u o is)
      ∙ arguments_again ps x o [] ts i.items i.are small

  word_applied : (e h : Sexpr) (t : List ℕ) (u : WordUse) (o : IndexedHead) (ts : List Tree) → operator_of_word t ≡ Some u → word_head e h (length ts) (Some u) ≡ Ok o → is_large o.head o.indices ts ≡ false → AllBack ps ts → IsBack ps (node o.head o.indices ts)
  word_applied e h t u o ts used is small all =
      let w = operator_word_is t u used in
      let m = greatest (map nesting ts) + 4 in
      let nest = nesting_node o.head o.indices ts in
      let texts = map (rule_term_text ps) ts in
      let many : length (map (rule_term_text ps) ts) ≡ length ts = length-map ts (rule_term_text ps) in
      so_reads (suc m) (nesting (node o.head o.indices ts) + 4) (list_text (t ∷ map (rule_term_text ps) ts)) (rule_term_text ps (node o.head o.indices ts)) (IsListOf (IsAtom atom.Symbol t) (AreTrees ps ts)) (IsTree ps (node o.head o.indices ts))
      (omega (arith, nest)) (sym (node_is ps o.head o.indices ts ∙ head_text e h t (map (rule_term_text ps) ts) u o w.fit (ap (λ n. word_head e h n (Some u)) many ∙ is)))
      (λ x i. word_again e h t u o ts x used w is small i)
      (list_reads m t (all_spaced (map (rule_term_text ps) ts)) (IsAtom atom.Symbol t) (AreTrees ps ts) (word_reads m t w.word.simple) (arguments_run ps m ts (omega arith) all))

  -- an application of a word
  pub word_back : (e h : Sexpr) (xs : List Sexpr) (t : Tree) → AllHave GivesBack xs → AllSpelled xs →
      go_on (word_head e h (length (map (pair ps) xs)) (operator_of_word (text_of h))) (λ o. arguments_from e o [] (map (pair ps) xs)) ≡ Ok t → IsBack ps t
  word_back e h xs t all spelled is = go (operator_of_word (text_of h)) refl is
    where
      go : (u : Option WordUse) → operator_of_word (text_of h) ≡ u → go_on (word_head e h (length (map (pair ps) xs)) u) (λ o. arguments_from e o [] (map (pair ps) xs)) ≡ Ok t → IsBack ps t
      go None used is = absurd cc
      go (Some u) used is =
          let o = went (word_head e h (length (map (pair ps) xs)) (Some u)) (λ o. arguments_from e o [] (map (pair ps) xs)) t is in
          let a = arguments_read ps e o.0 [] xs t o.2 in
          let count : length (map (pair ps) xs) ≡ length a.trees = length-map xs (pair ps) ∙ as_many ps a.trees xs a.are in
          subst (IsBack ps) a.is
          (word_applied e h (text_of h) u o.0 a.trees used (ap (λ n. word_head e h n (Some u)) (sym count) ∙ o.1) a.small (all_back a.trees xs all spelled a.are))
