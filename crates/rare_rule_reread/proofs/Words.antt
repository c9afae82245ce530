-- The words of operators: each is that of its operator, without bars, and begins no other form.
use Rattle.std.proofs.Common.{◌≡◌, ℕ, ◌<◌, Bool, true, false, not, ◌&&◌, List, [], ◌∷◌, bytes_eq, nat_lt, Option, Some, None, refl, sym, ap}
use Rattle.std.specs.Prelude.{codes}
use Rattle.std.specs.Option.{is_none}
use Rattle.std.proofs.lemmas.Bool.{ltb-true}
use Rattle.std.proofs.lemmas.Slice.Eq.{bytes_eq-Decides}
use Rattle.rare_linear.specs.Linears.{LinearExpression}
use Rattle.rare_sexpr.specs.Written.{is_simple}
use Rattle.rare_sort.specs.Sameness.{head_eq}
use Rattle.rare_sort.specs.declared.head.Head.{Head}
use Rattle.rare_sort.specs.declared.head.Head.TheVariants as head
use Rattle.rare_sort.proofs.NeedsLemmas.{both}
use Rattle.rare_scope.specs.Entries.{entry}
use Rattle.rare_operators.specs.OperatorWords.{operator_words, operator_of_word, indexed_words}
use Rattle.rare_operators.specs.declared.words.IndexedWord.{IndexedWord}
use Rattle.rare_operators.specs.declared.words.WordUse.{WordUse}
use Rattle.rare_operators.specs.declared.words.WordUse.TheVariants.{Constant, Difference, Plain}
use Rattle.rare_term_printing.specs.OperatorTexts.{list_text, operator_word, indexed_word}
use Rattle.rare_rule.specs.declared.param.Param.{Param}
use Rattle.rare_rule_printing.specs.RulePrinting.{index_texts, application_text, node_text}
use Rattle.rare_rule_reread.proofs.Tables.{entry_passes}

-- ---- operators

abbrev pub is_constant : Head → Bool
is_constant head.True = true
is_constant head.False = true
is_constant h = false

-- written as an application
abbrev pub is_applied : Head → Bool
is_applied (head.Param k) = false
is_applied head.Hole = false
is_applied head.True = false
is_applied head.False = false
is_applied (head.Numeral n) = false
is_applied (head.Bits v) = false
is_applied head.Literal = false
is_applied h = true

-- the word is that of the operator
abbrev pub fits : List ℕ → WordUse → Bool
fits t (Constant h) = is_constant h && bytes_eq t (operator_word h)
fits t (Plain h) = is_applied h && bytes_eq t (operator_word h)
fits t Difference = bytes_eq t (codes "-")

-- neither the hole nor the word of literals
abbrev is_other : List ℕ → Bool
is_other t = not (bytes_eq t (codes "_")) && not (bytes_eq t (codes "bv"))

abbrev is_operator_word : List ℕ → WordUse → Bool
is_operator_word t u = is_simple t && (is_other t && (is_none (entry indexed_words t) && fits t u))

abbrev is_indexed_word : List ℕ → IndexedWord → Bool
is_indexed_word t w = is_simple t && (is_other t && ((is_applied w.head && nat_lt 0 w.indices) && bytes_eq t (indexed_word w.head)))

pub record IsWord (t : List ℕ) : Type 0 where
  pub simple : is_simple t ≡ true
  pub no_hole : bytes_eq t (codes "_") ≡ false
  pub no_literal : bytes_eq t (codes "bv") ≡ false

no : (b : Bool) → not b ≡ true → b ≡ false
no true is = absurd cc
no false is = refl

word_of : (t : List ℕ) → is_simple t ≡ true → is_other t ≡ true → IsWord t
word_of t simple other = let o = both _ _ other in record { simple = simple; no_hole = no _ o.0; no_literal = no _ o.1 }

pub record IsOperatorWord (t : List ℕ) (u : WordUse) : Type 0 where
  pub word : IsWord t
  pub no_index : entry indexed_words t ≡ None
  pub fit : fits t u ≡ true

none_is : {A : Type 0} (o : Option A) → is_none o ≡ true → o ≡ None
none_is None is = refl
none_is (Some x) is = absurd cc

operator_passes : (t : List ℕ) (u : WordUse) → operator_of_word t ≡ Some u → is_operator_word t u ≡ true
unfolding head_eq
operator_passes t u is = entry_passes is_operator_word operator_words t u refl is

pub operator_word_is : (t : List ℕ) (u : WordUse) → operator_of_word t ≡ Some u → IsOperatorWord t u
operator_word_is t u is =
    let a = both _ _ (operator_passes t u is) in
    let b = both _ _ a.1 in
    let c = both _ _ b.1 in
    record { word = word_of t a.0 b.0; no_index = none_is (entry indexed_words t) c.0; fit = c.1 }

pub record IsIndexedWord (t : List ℕ) (w : IndexedWord) : Type 0 where
  pub word : IsWord t
  pub applied : is_applied w.head ≡ true
  pub some : 0 < w.indices
  pub is : t ≡ indexed_word w.head

indexed_passes : (t : List ℕ) (w : IndexedWord) → entry indexed_words t ≡ Some w → is_indexed_word t w ≡ true
unfolding head_eq
indexed_passes t w is = entry_passes is_indexed_word indexed_words t w refl is

pub indexed_word_is : (t : List ℕ) (w : IndexedWord) → entry indexed_words t ≡ Some w → IsIndexedWord t w
indexed_word_is t w is =
    let a = both _ _ (indexed_passes t w is) in
    let b = both _ _ a.1 in
    let c = both _ _ b.1 in
    let d = both _ _ c.0 in
    record { word = word_of t a.0 b.0; applied = d.0; some = ltb-true 0 w.indices d.1; is = (bytes_eq-Decides t (indexed_word w.head)).0 c.1 }

-- ---- texts of applications

pub applied_is : (ps : List Param) (h : Head) (ix : List LinearExpression) (ts : List (List ℕ)) → is_applied h ≡ true → node_text ps h ix ts ≡ application_text h (index_texts ps ix) ts
applied_is ps (head.Param k) ix ts is = absurd cc
applied_is ps head.Hole ix ts is = absurd cc
applied_is ps head.True ix ts is = absurd cc
applied_is ps head.False ix ts is = absurd cc
applied_is ps (head.Numeral n) ix ts is = absurd cc
applied_is ps (head.Bits v) ix ts is = absurd cc
applied_is ps head.Literal ix ts is = absurd cc
applied_is ps h ix ts is = refl

true_word : operator_word head.True ≡ codes "true"
unfolding head_eq
true_word = refl

false_word : operator_word head.False ≡ codes "false"
unfolding head_eq
false_word = refl

neg_word : operator_word head.Neg ≡ codes "-"
unfolding head_eq
neg_word = refl

minus_word : operator_word head.Minus ≡ codes "-"
unfolding head_eq
minus_word = refl

-- a constant alone
pub constant_alone : (ps : List Param) (h : Head) → is_constant h ≡ true → node_text ps h [] [] ≡ operator_word h
constant_alone ps head.True is = sym true_word
constant_alone ps head.False is = sym false_word
constant_alone ps h is = absurd cc

-- a constant before arguments
pub constant_before : (ps : List Param) (h : Head) (t : List ℕ) (ts : List (List ℕ)) → is_constant h ≡ true → node_text ps h [] (t ∷ ts) ≡ list_text (operator_word h ∷ t ∷ ts)
constant_before ps head.True t ts is = ap (λ w. list_text (w ∷ t ∷ ts)) (sym true_word)
constant_before ps head.False t ts is = ap (λ w. list_text (w ∷ t ∷ ts)) (sym false_word)
constant_before ps h t ts is = absurd cc

-- the two operators of one word
pub neg_text : (ps : List Param) (ts : List (List ℕ)) → node_text ps head.Neg [] ts ≡ list_text (codes "-" ∷ ts)
neg_text ps ts = ap (λ w. list_text (w ∷ ts)) neg_word

pub minus_text : (ps : List Param) (ts : List (List ℕ)) → node_text ps head.Minus [] ts ≡ list_text (codes "-" ∷ ts)
minus_text ps ts = ap (λ w. list_text (w ∷ ts)) minus_word
