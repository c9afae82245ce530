-- Terms without arguments, read.
use Rattle.std.proofs.Common.{◌≡◌, ℕ, ◌<◌, ◌≤◌, ◌^◌, true, false, List, [], ◌∷◌, ◌++◌, map, length, Option, Some, None, Ok, refl, ap, ◌∙◌, arith, if◌then◌else◌}
use Rattle.std.specs.Prelude.{codes, slice_index_or, nat_eq, pos}
use Rattle.std.specs.Fmt.{decimal}
use Rattle.std.proofs.lemmas.Bool.{lt-ltb}
use Rattle.std.proofs.lemmas.Bool.Decides.{nat_tests}
use Rattle.rare_base.specs.declared.answers.Reason.TheVariants.{IllSorted, LiteralTooWide}
use Rattle.rare_linear.specs.Linears.{LinearExpression, number}
use Rattle.rare_sexpr.specs.Written.{is_simple}
use Rattle.rare_sexpr.specs.declared.tree.AtomKind.{AtomKind}
use Rattle.rare_sexpr.specs.declared.tree.AtomKind.TheVariants as atom
use Rattle.rare_sexpr.specs.declared.tree.Kind.TheVariants as kind
use Rattle.rare_sexpr.specs.declared.tree.Sexpr.{Sexpr}
use Rattle.rare_sexpr.specs.Tree.{kind_of, items_of}
use Rattle.rare_sexpr.proofs.Trees.{go_out}
use Rattle.rare_sort.specs.Trees.{node}
use Rattle.rare_sort.specs.declared.declarations.Declarations.{Declarations}
use Rattle.rare_sort.specs.declared.head.Head.{Head}
use Rattle.rare_sort.specs.declared.head.Head.TheVariants as head
use Rattle.rare_sort.specs.declared.tree.Tree.{Tree}
use Rattle.rare_term.specs.Literals.{operator, reduced, application}
use Rattle.rare_term.specs.declared.literals.Operator.{Operator}
use Rattle.rare_term.specs.Refusals.{refusal}
use Rattle.rare_term.specs.declared.terms.TermError.{TermError}
use Rattle.rare_scope.specs.Names.{Held, Names, found, names_of, symbol_names}
use Rattle.rare_scope.specs.Numbers.{LARGEST_SMALL, LARGEST_WIDE, small_number, wide_number}
use Rattle.rare_scope.specs.Printing.{name_text}
use Rattle.rare_scope.specs.Reading.{go_on, is_word, is_list_kind, refused}
use Rattle.rare_scope.specs.Reserved.{is_theory_word}
use Rattle.rare_operators.specs.Applications.{application_at, application_unless}
use Rattle.rare_operators.specs.AtomText.{constant_unless, word_term, named_term, atom_by, atom_at}
use Rattle.rare_operators.specs.LiteralText.{numeral_term, literal_unless, literal_at, bits_of_value, bits_literal, numeral_at, decimal_literal}
use Rattle.rare_operators.specs.OperatorWords.{operator_of_word}
use Rattle.rare_operators.specs.declared.words.WordUse.TheVariants.{Constant}
use Rattle.rare_term_text.specs.TermText.{Roles, list_term, term_by, roles, roles_at, term_at}
use Rattle.rare_reread.specs.ReadsAs.{ReadsAs}
use Rattle.rare_reread.specs.Readable.{IsReadable}
use Rattle.rare_reread.proofs.Atoms.{IsAtom, kind_is, text_is, word_reads, symbol_reads, numeral_reads, decimal_small, decimal_wide}
use Rattle.rare_reread.proofs.Digits.{digits_read, width_read}
use Rattle.rare_reread.proofs.Finding.{symbol_symbol}
use Rattle.rare_reread.proofs.Heads.{if_no, if_yes, word_unknown, symbol_known}
use Rattle.rare_reread.proofs.Linears.{so_reads}
use Rattle.rare_reread.proofs.Lists.{HasThree, word_is}

module _ (held : Held) (r : IsReadable held) (d : Declarations) (ts : List Tree) where
  abbrev names : Names
  names = names_of ts held

  abbrev pub pair : Sexpr → Sexpr × Roles
  pair x = (x, roles_at d x)

  abbrev pub Is : Tree → Sexpr → Type 0
  Is t e = term_at d (names_of ts held) e ≡ Ok t

  pub term_out : (e : Sexpr) → term_at d (names_of ts held) e ≡ term_by d (names_of ts held) e (is_list_kind (kind_of e)) (map pair (items_of e))
  term_out e = ap (λ (q : Roles). q.term (names_of ts held)) (go_out Roles (roles d) e)

  -- an atom
  pub atom_out : (k : AtomKind) (text : List ℕ) (e : Sexpr) → IsAtom k text e → is_list_kind (kind_of e) ≡ false → term_at d (names_of ts held) e ≡ atom_at d (names_of ts held) e
  atom_out k text e a other = term_out e ∙ ap (λ b. term_by d (names_of ts held) e b (map pair (items_of e))) other

  -- an application that is not refused, its literals reduced
  pub record Fits (h : Head) (ix : List LinearExpression) (us : List Tree) : Type 0 where
    pub allowed : refusal d h ix us ≡ None
    pub literals : reduced h ix ≡ operator h ix

  pub same_node : (h : Head) (ix : List LinearExpression) (us : List Tree) → reduced h ix ≡ operator h ix → application h ix us ≡ node h ix us
  same_node h ix us is = ap (λ (o : Operator). node o.head o.indices us) is

  pub applies : (e : Sexpr) (h : Head) (ix : List LinearExpression) (us : List Tree) → Fits h ix us → application_at d e h ix us ≡ Ok (node h ix us)
  applies e h ix us f = ap (λ (o : Option TermError). application_unless e o (application h ix us)) f.allowed ∙ ap Ok (same_node h ix us f.literals)

  pub literal_applies : (e : Sexpr) (h : Head) (ix : List LinearExpression) → Fits h ix [] → literal_at d e h ix ≡ Ok (node h ix [])
  literal_applies e h ix f = ap (λ (o : Option TermError). literal_unless e o (application h ix [])) f.allowed ∙ ap Ok (same_node h ix [] f.literals)

  -- ---- words, numerals and symbols

  pub constant_reads : (m : ℕ) (word : List ℕ) (h : Head) → operator_of_word word ≡ Some (Constant h) → is_theory_word word ≡ true → is_simple word ≡ true → Fits h [] [] → ReadsAs m word (Is (node h [] []))
  constant_reads m word h used theory simple f =
      so_reads m m word word (IsAtom atom.Symbol word) (Is (node h [] [])) (omega arith) refl
      (λ e a. atom_out atom.Symbol word e a (ap is_list_kind (kind_is atom.Symbol word e a)) ∙ ap (atom_by d (names_of ts held) e) (kind_is atom.Symbol word e a)
      ∙ ap (λ t. named_term d e (found (names_of ts held) t)) (text_is atom.Symbol word e a) ∙ ap (named_term d e) (word_unknown held r d ts word theory)
      ∙ ap (λ t. word_term d e (operator_of_word t)) (text_is atom.Symbol word e a) ∙ ap (word_term d e) used ∙ applies e h [] [] f) (word_reads m word simple)

  pub numeral_term_reads : (m n : ℕ) → n ≤ LARGEST_SMALL → Fits (head.Numeral n) [] [] → ReadsAs m (decimal n) (Is (node (head.Numeral n) [] []))
  numeral_term_reads m n le f =
      so_reads m m (decimal n) (decimal n) (IsAtom atom.Numeral (decimal n)) (Is (node (head.Numeral n) [] [])) (omega arith) refl
      (λ e a. atom_out atom.Numeral (decimal n) e a (ap is_list_kind (kind_is atom.Numeral (decimal n) e a)) ∙ ap (atom_by d (names_of ts held) e) (kind_is atom.Numeral (decimal n) e a)
      ∙ ap (λ t. numeral_term d e (small_number t)) (text_is atom.Numeral (decimal n) e a) ∙ ap (numeral_term d e) (decimal_small n le) ∙ applies e (head.Numeral n) [] [] f) (numeral_reads m n (omega arith))

  pub symbol_reads_as : (m k : ℕ) → k < length (symbol_names held) → Fits (head.Free k) [] [] → ReadsAs m (name_text (symbol_names held) k) (Is (node (head.Free k) [] []))
  symbol_reads_as m k lt f =
      let name = slice_index_or (symbol_names held) k [] in
      so_reads m m (name_text (symbol_names held) k) (name_text (symbol_names held) k) (IsAtom atom.Symbol name) (Is (node (head.Free k) [] [])) (omega arith) refl
      (λ e a. atom_out atom.Symbol name e a (ap is_list_kind (kind_is atom.Symbol name e a)) ∙ ap (atom_by d (names_of ts held) e) (kind_is atom.Symbol name e a)
      ∙ ap (λ t. named_term d e (found (names_of ts held) t)) (text_is atom.Symbol name e a) ∙ ap (named_term d e) (symbol_known held r d ts k lt)
      ∙ ap (λ (o : Option TermError). constant_unless e o (application (head.Free k) [] [])) f.allowed ∙ ap Ok (same_node (head.Free k) [] [] f.literals)) (symbol_reads m name (symbol_symbol held r k lt))

  -- ---- literals

  pub list_by : (e : Sexpr) (h : Sexpr) (xs : List Sexpr) → kind_of e ≡ kind.List → items_of e ≡ h ∷ xs → term_at d (names_of ts held) e ≡ list_term d (names_of ts held) e (map pair (h ∷ xs))
  list_by e h xs list items = term_out e ∙ ap (λ k. term_by d (names_of ts held) e (is_list_kind k) (map pair (items_of e))) list ∙ ap (λ ys. list_term d (names_of ts held) e (map pair ys)) items

  value_fits : (e : Sexpr) (v k : ℕ) → 0 < k → v < 2 ^ k → Fits (head.Bits v) (number (pos k) ∷ []) [] → bits_literal d e (Some v) k ≡ Ok (node (head.Bits v) (number (pos k) ∷ []) [])
  value_fits e v k some lt f =
      let wide : nat_eq k 0 ≡ false = grind (arith, nat_tests) in
      ap (λ b. if b then refused e IllSorted else bits_of_value d e (Some v) k) wide
      ∙ ap (λ b. if b then literal_at d e (head.Bits v) (number (pos k) ∷ []) else refused e LiteralTooWide) (lt-ltb v (2 ^ k) lt) ∙ literal_applies e (head.Bits v) (number (pos k) ∷ []) f

  pub given_is : (v k : ℕ) (e : Sexpr) → v ≤ LARGEST_WIDE → k ≤ LARGEST_SMALL → 0 < k → v < 2 ^ k → Fits (head.Bits v) (number (pos k) ∷ []) [] →
      HasThree (IsAtom atom.Symbol (codes "_")) (IsAtom atom.Symbol (codes "bv" ++ decimal v)) (IsAtom atom.Numeral (decimal k)) e → Is (node (head.Bits v) (number (pos k) ∷ []) []) e
  given_is v k e lv lk some lt f h =
      let xs = h.second ∷ h.third ∷ [] in
      list_by e h.first (h.second ∷ h.third ∷ []) h.list h.items
      ∙ if_no (is_word (codes "let") h.first) _ _ (word_is (codes "let") (codes "_") h.first h.is_first)
      ∙ if_yes (is_word (codes "_") h.first) _ _ (word_is (codes "_") (codes "_") h.first h.is_first)
      ∙ ap (decimal_literal d e) h.items
      ∙ ap (λ q. go_on q (λ ds. go_on (numeral_at h.third) (λ n. bits_literal d e (wide_number 10 ds) n))) (digits_read h.second v lv h.is_second)
      ∙ ap (λ q. go_on q (λ n. bits_literal d e (wide_number 10 (decimal v)) n)) (width_read h.third k lk h.is_third)
      ∙ ap (λ o. bits_literal d e o k) (decimal_wide v lv) ∙ value_fits e v k some lt f
