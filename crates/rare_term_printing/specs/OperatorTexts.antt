-- How operators are written (SMT-LIB 2.6, theories Core, Ints, ArraysEx and FixedSizeBitVectors with the operators of logic QF_BV;
-- `(bv E E)` is this project's own).
use Rattle.std.specs.Prelude.{ℕ, Bool, ◌||◌, List, [], ◌∷◌, ◌++◌, map, flat_map, codes, if◌then◌else◌}
use Rattle.std.specs.Fmt.{decimal}
use Rattle.rare_linear.specs.Linears.{LinearExpression}
use Rattle.rare_sort.specs.Sameness.{head_eq}
use Rattle.rare_sort.specs.declared.head.Head.{Head}
use Rattle.rare_sort.specs.declared.head.Head.TheVariants as head
use Rattle.rare_scope.specs.Names.{Held, symbol_names, width_names}
use Rattle.rare_scope.specs.Printing.{linear_text, name_text}
use Rattle.rare_operators.specs.declared.words.WordUse.{WordUse}
use Rattle.rare_operators.specs.declared.words.WordUse.TheVariants.{Constant, Difference, Plain}
use Rattle.rare_operators.specs.OperatorWords.{operator_words, indexed_words}

-- texts between parentheses, a blank between two
abbrev pub list_text : List (List ℕ) → List ℕ
list_text [] = codes "()"
list_text (t ∷ ts) = codes "(" ++ (t ++ (flat_map (λ u. codes " " ++ u) ts ++ codes ")"))

-- ---- words

abbrev pub is_use_of : Head → WordUse → Bool
is_use_of h (Constant o) = head_eq h o
is_use_of h Difference = head_eq h head.Neg || head_eq h head.Minus
is_use_of h (Plain o) = head_eq h o

-- the first word of a table whose use is such
abbrev pub word_with : {A : Type 0} → (A → Bool) → List (List ℕ × A) → List ℕ
word_with test [] = []
word_with test (w ∷ ws) = if test w.1 then w.0 else word_with test ws

-- the word of an operator without indices, and of one with indices
abbrev pub operator_word : Head → List ℕ
operator_word h = word_with (is_use_of h) operator_words

abbrev pub indexed_word : Head → List ℕ
indexed_word h = word_with (λ i. head_eq h i.head) indexed_words

-- `op`, or `(_ op E ..)`
abbrev pub word_text : Head → List (List ℕ) → List ℕ
word_text h [] = operator_word h
word_text h (t ∷ ts) = list_text (codes "_" ∷ indexed_word h ∷ t ∷ ts)

-- ---- operators with their indices

abbrev pub index_texts : Held → List LinearExpression → List (List ℕ)
index_texts held ix = map (linear_text (width_names held)) ix

-- a numeral, `(_ bvV W)`, `(bv E E)`, a symbol, or a word
abbrev pub operator_text : Held → Head → List LinearExpression → List ℕ
operator_text held (head.Numeral n) ix = decimal n
operator_text held (head.Bits v) ix = list_text (codes "_" ∷ (codes "bv" ++ decimal v) ∷ index_texts held ix)
operator_text held head.Literal ix = list_text (codes "bv" ∷ index_texts held ix)
operator_text held (head.Free k) ix = name_text (symbol_names held) k
operator_text held h ix = word_text h (index_texts held ix)
