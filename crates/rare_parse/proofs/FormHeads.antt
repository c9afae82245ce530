-- The operators that a rule's text spells, with their indices, are those of nodes of rules.
use Rattle.std.proofs.Common.{◌≡◌, ℕ, suc, Bool, true, false, ◌&&◌, List, [], ◌∷◌, length, nat_eq, Option, Some, None, Ok, refl, ap, ◌∙◌, subst}
use Rattle.std.specs.Prelude.{if◌then◌else◌, codes}
use Rattle.std.proofs.lemmas.Bool.{eq-eqb, eqb-true}
use Rattle.std.proofs.lemmas.Option.{none-some}
use Rattle.rare_base.specs.declared.answers.Reason.TheVariants as reason
use Rattle.rare_linear.specs.Linears.{LinearExpression}
use Rattle.rare_sort.proofs.NeedsLemmas.{both, and_both}
use Rattle.rare_sort.specs.declared.head.Head.{Head}
use Rattle.rare_sort.specs.declared.head.Head.TheVariants as head
use Rattle.rare_sexpr.specs.declared.tree.Sexpr.{Sexpr}
use Rattle.rare_sexpr.specs.Tree.{kind_of, text_of}
use Rattle.rare_scope.specs.Entries.{entry}
use Rattle.rare_scope.specs.LinearText.{linear_at}
use Rattle.rare_scope.specs.Reading.{Read, refused, go_on, is_symbol_kind, is_word}
use Rattle.rare_scope.proofs.InOrder.{went, same_Ok}
use Rattle.rare_operators.specs.declared.head.IndexedHead.{IndexedHead}
use Rattle.rare_operators.specs.declared.words.IndexedWord.{IndexedWord}
use Rattle.rare_operators.specs.declared.words.WordUse.{WordUse}
use Rattle.rare_operators.specs.declared.words.WordUse.TheVariants.{Constant, Difference, Plain}
use Rattle.rare_operators.specs.HeadText.{bare, unless_alone, word_head, indices_at, indexed_by, indexed_word_at, indexed_items, indexed_head}
use Rattle.rare_operators.specs.OperatorWords.{operator_words, operator_of_word, indexed_words}
use Rattle.rare_rule.specs.NodeForms.{index_count, is_literal_within, has_indices, is_node_form}
use Rattle.rare_rule.specs.Nodes.{Node}
use Rattle.rare_rule.specs.ParamForms.{all_are_numbers}
use Rattle.rare_rule.specs.declared.param.Param.{Param}
use Rattle.rare_parse.specs.RuleNames.{rule_widths}
use Rattle.rare_parse.proofs.FormBounds.{expression_over}
use Rattle.rare_parse.proofs.FormSorts.{AreAmong}
use Rattle.rare_parse.proofs.FormTables.{entry_all}

-- ---- words

-- an operator without indices that is no numeral and no name
abbrev pub is_plain_head : Head → Bool
is_plain_head (head.Numeral n) = false
is_plain_head (head.Bits v) = false
is_plain_head head.Literal = false
is_plain_head (head.Free k) = false
is_plain_head (head.Param k) = false
is_plain_head head.Hole = false
is_plain_head h = nat_eq (index_count h) 0

abbrev is_plain_use : WordUse → Bool
is_plain_use (Constant h) = is_plain_head h
is_plain_use (Plain h) = is_plain_head h
is_plain_use Difference = true

abbrev pub is_indexed_head : Head → Bool
is_indexed_head head.Extract = true
is_indexed_head head.ZeroExtend = true
is_indexed_head head.SignExtend = true
is_indexed_head head.RotateLeft = true
is_indexed_head head.RotateRight = true
is_indexed_head head.Repeat = true
is_indexed_head h = false

-- as many indices as its operator has
abbrev pub is_indexed_use : IndexedWord → Bool
is_indexed_use w = is_indexed_head w.head && nat_eq w.indices (index_count w.head)

pub word_plain : (text : List ℕ) (u : WordUse) → operator_of_word text ≡ Some u → is_plain_use u ≡ true
word_plain text u is = entry_all is_plain_use operator_words text u refl is

pub indexed_plain : (word : Sexpr) (w : IndexedWord) → indexed_word_at word ≡ Some w → is_indexed_use w ≡ true
indexed_plain word w is = go (is_symbol_kind (kind_of word)) is
  where
    go : (b : Bool) → (if b then entry indexed_words (text_of word) else None) ≡ Some w → is_indexed_use w ≡ true
    go true is = entry_all is_indexed_use indexed_words (text_of word) w refl is
    go false is = absurd (none-some w is)

module _ (ps : List Param) where
  -- a node of a rule in form
  abbrev pub is_fine_node : Node → Bool
  is_fine_node n = has_indices ps n && (is_node_form ps n && is_literal_within n.head n.indices)

  -- an operator with its indices, whatever it is an argument of and whatever its arguments are
  abbrev pub IsOperator : Head → List LinearExpression → Type 0
  IsOperator h ix = (parent : Option Head) (args : List Head) → is_fine_node (record { head = h; indices = ix; parent = parent; args = args }) ≡ true

  pub plain_operator : (h : Head) → is_plain_head h ≡ true → IsOperator h []
  plain_operator (head.Numeral n) is = absurd cc
  plain_operator (head.Bits v) is = absurd cc
  plain_operator head.Literal is = absurd cc
  plain_operator (head.Free k) is = absurd cc
  plain_operator (head.Param k) is = absurd cc
  plain_operator head.Hole is = absurd cc
  plain_operator head.Extract is = absurd cc
  plain_operator head.ZeroExtend is = absurd cc
  plain_operator head.SignExtend is = absurd cc
  plain_operator head.RotateLeft is = absurd cc
  plain_operator head.RotateRight is = absurd cc
  plain_operator head.Repeat is = absurd cc
  plain_operator h is = λ parent args. refl

  abbrev AreIndices : Head → List LinearExpression → Type 0
  AreIndices h ix = (nat_eq (length ix) (index_count h) && all_are_numbers ps ix) ≡ true

  pub indexed_operator : (h : Head) (ix : List LinearExpression) → is_indexed_head h ≡ true → AreIndices h ix → IsOperator h ix
  indexed_operator head.Extract ix is fine = λ parent args. and_both _ _ fine refl
  indexed_operator head.ZeroExtend ix is fine = λ parent args. and_both _ _ fine refl
  indexed_operator head.SignExtend ix is fine = λ parent args. and_both _ _ fine refl
  indexed_operator head.RotateLeft ix is fine = λ parent args. and_both _ _ fine refl
  indexed_operator head.RotateRight ix is fine = λ parent args. and_both _ _ fine refl
  indexed_operator head.Repeat ix is fine = λ parent args. and_both _ _ fine refl
  indexed_operator h ix is fine = absurd cc

  -- ---- a word at a head

  abbrev pub IsHead : IndexedHead → Type 0
  IsHead o = IsOperator o.head o.indices

  alone_fine : (e : Sexpr) (n : ℕ) (h : Head) (o : IndexedHead) → is_plain_head h ≡ true → unless_alone e n h ≡ Ok o → IsHead o
  alone_fine e n h o plain is = go (nat_eq n 0) is
    where
      go : (b : Bool) → (if b then refused e reason.BadForm else Ok (bare h)) ≡ Ok o → IsHead o
      go true is = absurd cc
      go false is = subst IsHead (same_Ok (bare h) o is) (plain_operator h plain)

  minus_fine : (b : Bool) (o : IndexedHead) → ◌≡◌ {A = Read IndexedHead} (if b then Ok (bare head.Neg) else Ok (bare head.Minus)) (Ok o) → IsHead o
  minus_fine true o is = subst IsHead (same_Ok (bare head.Neg) o is) (plain_operator head.Neg refl)
  minus_fine false o is = subst IsHead (same_Ok (bare head.Minus) o is) (plain_operator head.Minus refl)

  use_fine : (e h : Sexpr) (n : ℕ) (u : Option WordUse) (o : IndexedHead) → ((w : WordUse) → u ≡ Some w → is_plain_use w ≡ true) → word_head e h n u ≡ Ok o → IsHead o
  use_fine e h n None o plain is = absurd cc
  use_fine e h n (Some (Constant c)) o plain is = alone_fine e n c o (plain (Constant c) refl) is
  use_fine e h n (Some Difference) o plain is = minus_fine (nat_eq n 1) o is
  use_fine e h n (Some (Plain c)) o plain is = subst IsHead (same_Ok (bare c) o is) (plain_operator c (plain (Plain c) refl))

  pub word_fine : (e h : Sexpr) (n : ℕ) (o : IndexedHead) → word_head e h n (operator_of_word (text_of h)) ≡ Ok o → IsHead o
  word_fine e h n o is = use_fine e h n (operator_of_word (text_of h)) o (word_plain (text_of h)) is

  -- ---- indices

  -- as many as these, and over numbers
  abbrev AreRead : List Sexpr → List LinearExpression → Type 0
  AreRead xs ix = (length ix ≡ length xs) × (all_are_numbers ps ix ≡ true)

  module _ (among : AreAmong ps ps) where
    pub indices_read : (xs : List Sexpr) (ix : List LinearExpression) → indices_at (rule_widths ps) xs ≡ Ok ix → AreRead xs ix
    indices_read [] ix is = subst (AreRead []) (same_Ok [] ix is) (refl, refl)
    indices_read (x ∷ xs) ix is =
        let l = went (linear_at (rule_widths ps) x) (λ l. go_on (indices_at (rule_widths ps) xs) (λ ls. Ok (l ∷ ls))) ix is in
        let ls = went (indices_at (rule_widths ps) xs) (λ ls. Ok (l.0 ∷ ls)) ix l.2 in
        let rest = indices_read xs ls.0 ls.1 in
        subst (AreRead (x ∷ xs)) (same_Ok (l.0 ∷ ls.0) ix ls.2) (ap (λ n. suc n) rest.0, and_both _ _ (expression_over ps among x l.0 l.1) rest.1)

    -- an operator with as many indices as its word has
    pub with_indices_fine : (w : IndexedWord) (xs : List Sexpr) (ix : List LinearExpression) → is_indexed_use w ≡ true → nat_eq (length xs) w.indices ≡ true → AreRead xs ix → IsOperator w.head ix
    with_indices_fine w xs ix good same fine =
        let g = both (is_indexed_head w.head) (nat_eq w.indices (index_count w.head)) good in
        let count : nat_eq (length ix) (index_count w.head) ≡ true =
        eq-eqb (length ix) (index_count w.head) (fine.0 ∙ eqb-true (length xs) w.indices same ∙ eqb-true w.indices (index_count w.head) g.1) in
        indexed_operator w.head ix g.0 (and_both _ _ count fine.1)

    by_word : (h word : Sexpr) (xs : List Sexpr) (u : Option IndexedWord) (o : IndexedHead) → ((w : IndexedWord) → u ≡ Some w → is_indexed_use w ≡ true) →
        indexed_by (rule_widths ps) h word xs u ≡ Ok o → IsHead o
    by_word h word xs None o good is = absurd cc
    by_word h word xs (Some w) o good is = go (nat_eq (length xs) w.indices) refl is
      where
        go : (b : Bool) → nat_eq (length xs) w.indices ≡ b →
            (if b then go_on (indices_at (rule_widths ps) xs) (λ ls. Ok (record { head = w.head; indices = ls })) else refused h reason.BadForm) ≡ Ok o → IsHead o
        go true same is =
            let ls = went (indices_at (rule_widths ps) xs) (λ ls. Ok (record { head = w.head; indices = ls })) o is in
            subst IsHead (same_Ok (record { head = w.head; indices = ls.0 }) o ls.2) (with_indices_fine w xs ls.0 (good w refl) same (indices_read xs ls.0 ls.1))
        go false same is = absurd cc

    items_fine : (h : Sexpr) (xs : List Sexpr) (o : IndexedHead) → indexed_items (rule_widths ps) h xs ≡ Ok o → IsHead o
    items_fine h (u ∷ word ∷ x ∷ []) o is = by_word h word (x ∷ []) (indexed_word_at word) o (indexed_plain word) is
    items_fine h (u ∷ word ∷ x ∷ y ∷ []) o is = by_word h word (x ∷ y ∷ []) (indexed_word_at word) o (indexed_plain word) is
    items_fine h xs o is = absurd cc

    pub indexed_fine : (h : Sexpr) (xs : List Sexpr) (o : IndexedHead) → indexed_head (rule_widths ps) h xs ≡ Ok o → IsHead o
    indexed_fine h [] o is = absurd cc
    indexed_fine h (u ∷ xs) o is = go (is_word (codes "_") u) is
      where
        go : (b : Bool) → (if b then indexed_items (rule_widths ps) h (u ∷ xs) else refused h reason.BadForm) ≡ Ok o → IsHead o
        go true is = items_fine h (u ∷ xs) o is
        go false is = absurd cc
