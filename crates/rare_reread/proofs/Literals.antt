-- Literals of bit vectors, and the names of shared terms, read.
use Rattle.std.proofs.Common.{◌≡◌, ℕ, ◌<◌, ◌≤◌, ◌^◌, ◌%◌, ◌≤ℤ◌, T, Bool, true, false, ◌&&◌, ◌||◌, List, [], ◌∷◌, ◌++◌, length, Some, All, refl, sym, ap, ◌∙◌, subst, arith}
use Rattle.std.specs.Prelude.{codes, flat_map, ℤ, pos, negsuc, ◌+ℤ◌, ◌*ℤ◌, int_le, FitsSigned}
use Rattle.std.specs.List.{list_any}
use Rattle.std.specs.Fmt.{decimal}
use Rattle.std.specs.Option.{is_none}
use Rattle.std.specs.Int.{w128}
use Rattle.std.specs.Int.Signed.{le_z_yes}
use Rattle.std.proofs.lemmas.Int.{ints}
use Rattle.std.proofs.lemmas.List.{append-nil}
use Rattle.std.proofs.lemmas.Nat.{pow_pos}
use Rattle.rare_linear.specs.Linears.{LinearExpression, NamesBelow, number, linear}
use Rattle.rare_linear.specs.Entailment.{minus}
use Rattle.rare_linear.specs.EntailmentTest.{is_within, is_entailed, is_plainly_met}
use Rattle.rare_sexpr.specs.Written.{is_simple}
use Rattle.rare_sexpr.specs.declared.tree.AtomKind.TheVariants as atom
use Rattle.rare_sexpr.specs.declared.tree.Sexpr.{Sexpr}
use Rattle.rare_sexpr.specs.Tree.{kind_of, items_of, list_of}
use Rattle.rare_sort.specs.DeclaredSorts.{follows}
use Rattle.rare_sort.specs.SortRules.{less_one}
use Rattle.rare_sort.specs.Trees.{node}
use Rattle.rare_sort.specs.declared.declarations.Declarations.{Declarations}
use Rattle.rare_sort.specs.declared.head.Head.TheVariants as head
use Rattle.rare_sort.specs.declared.tree.Tree.{Tree}
use Rattle.rare_term.specs.Literals.{operator, reduced}
use Rattle.rare_term.specs.declared.literals.Operator.{Operator}
use Rattle.rare_scope.specs.LinearText.{linear_at, widths_held}
use Rattle.rare_scope.specs.Names.{Held, a_term, found, names_of, width_names}
use Rattle.rare_scope.specs.Numbers.{LARGEST_SMALL, LARGEST_WIDE}
use Rattle.rare_scope.specs.Printing.{linear_text, name_text}
use Rattle.rare_scope.specs.Reading.{go_on, is_word, is_list_kind}
use Rattle.rare_scope.proofs.PrintingSteps.{number_only}
use Rattle.rare_scope.proofs.SortSteps.{same_widths}
use Rattle.rare_operators.specs.AtomText.{named_term, atom_by}
use Rattle.rare_operators.specs.LiteralText.{literal_at, linear_literal}
use Rattle.rare_term_text.specs.TermText.{begins_literal}
use Rattle.rare_term_printing.specs.OperatorTexts.{list_text, index_texts, operator_text}
use Rattle.rare_reread.specs.ReadsAs.{ReadsAs, IsListOf}
use Rattle.rare_reread.specs.Readable.{IsReadable, IsKeptLinear}
use Rattle.rare_reread.proofs.Atoms.{IsAtom, kind_is, text_is, list_kind, list_items, word_reads, numeral_reads}
use Rattle.rare_reread.proofs.Digits.{decimal_in_symbol, bv_simple}
use Rattle.rare_reread.proofs.Heads.{if_no, if_yes, word_unknown, Indices, indices_run}
use Rattle.rare_reread.proofs.Joining.{Begins, nothing_runs, more_runs, list_reads}
use Rattle.rare_reread.proofs.Leaves.{Is, Fits, atom_out, list_by, literal_applies, given_is}
use Rattle.rare_reread.proofs.Linears.{so_reads}
use Rattle.rare_reread.proofs.Lists.{IsEnd, has_three, word_is}

-- ---- words that end in digits

pub name_simple : (n : ℕ) → n < 10 ^ 64 → is_simple (codes "@" ++ decimal n) ≡ true
name_simple n lt = decimal_in_symbol n lt

-- ---- widths of given literals

plainly : (a b z : Bool) → (a && ((true && b) || (false && z))) ≡ true → b ≡ true
plainly true true z is = refl
plainly true false z is = absurd cc
plainly false b z is = absurd cc

number_follows : (d : Declarations) (c : ℤ) → follows d (number c) ≡ true → int_le (pos 0) (c +ℤ pos 0) ≡ true
unfolding follows is_entailed
number_follows d c is = plainly (is_within (number c)) (int_le (pos 0) (c +ℤ pos 0)) (list_any (λ k. is_plainly_met (λ n. pos 1) (minus (number c) k.floor)) d.constraints) is

not_zero : (n : ℕ) → int_le (pos 0) ((pos n +ℤ (negsuc 0 *ℤ pos 1)) +ℤ pos 0) ≡ true → 0 < n
not_zero n is = let le : pos 0 ≤ℤ ((pos n +ℤ (negsuc 0 *ℤ pos 1)) +ℤ pos 0) = le_z_yes (subst T (sym is) tt) in omega (arith, ints)

not_below : (n : ℕ) → int_le (pos 0) ((negsuc n +ℤ (negsuc 0 *ℤ pos 1)) +ℤ pos 0) ≡ true → ⊥
not_below n is = let le : pos 0 ≤ℤ ((negsuc n +ℤ (negsuc 0 *ℤ pos 1)) +ℤ pos 0) = le_z_yes (subst T (sym is) tt) in omega (arith, ints)

reduced_below : (v k : ℕ) → reduced (head.Bits v) (number (pos k) ∷ []) ≡ operator (head.Bits v) (number (pos k) ∷ []) → v < 2 ^ k
unfolding reduced
reduced_below v k is =
    let same : head.Bits (v % 2 ^ k) ≡ head.Bits v = ap (λ (o : Operator). o.head) is in
    let e : v % 2 ^ k ≡ v = cc in
    let some = pow_pos k in
    omega arith

module _ (held : Held) (r : IsReadable held) (d : Declarations) (ts : List Tree) where
  number_bytes : (k : ℕ) → decimal k ≡ linear_text (width_names held) (number (pos k))
  number_bytes k = sym (append-nil (decimal k)) ∙ number_only (name_text (width_names held)) (number (pos k)) refl

  number_given : (v k : ℕ) → v ≤ LARGEST_WIDE → k ≤ LARGEST_SMALL → 0 < k → Fits held r d ts (head.Bits v) (number (pos k) ∷ []) [] →
      ReadsAs 5 (operator_text held (head.Bits v) (number (pos k) ∷ [])) (Is held r d ts (node (head.Bits v) (number (pos k) ∷ []) []))
  number_given v k lv lk some f =
      let bv : List ℕ = codes "bv" ++ decimal v in
      let text = decimal k in
      so_reads 5 5 (40 ∷ 95 ∷ ((32 ∷ ((codes "bv" ++ decimal v) ++ (32 ∷ (decimal k ++ [])))) ++ 41 ∷ [])) (operator_text held (head.Bits v) (number (pos k) ∷ []))
      (IsListOf (IsAtom atom.Symbol (codes "_")) (Begins (IsAtom atom.Symbol (codes "bv" ++ decimal v)) (Begins (IsAtom atom.Numeral (decimal k)) IsEnd))) (Is held r d ts (node (head.Bits v) (number (pos k) ∷ []) [])) (omega arith)
      (ap (λ t. list_text (codes "_" ∷ (codes "bv" ++ decimal v) ∷ t ∷ [])) (number_bytes k))
      (λ e i. given_is held r d ts v k e lv lk some (reduced_below v k f.literals) f (has_three (IsAtom atom.Symbol (codes "_")) (IsAtom atom.Symbol (codes "bv" ++ decimal v)) (IsAtom atom.Numeral (decimal k)) e i))
      (list_reads 4 (codes "_") (32 ∷ ((codes "bv" ++ decimal v) ++ (32 ∷ (decimal k ++ [])))) (IsAtom atom.Symbol (codes "_")) (Begins (IsAtom atom.Symbol (codes "bv" ++ decimal v)) (Begins (IsAtom atom.Numeral (decimal k)) IsEnd)) (word_reads 4 (codes "_") refl)
      (more_runs 4 (codes "bv" ++ decimal v) (32 ∷ (decimal k ++ [])) (IsAtom atom.Symbol (codes "bv" ++ decimal v)) (Begins (IsAtom atom.Numeral (decimal k)) IsEnd) (word_reads 4 (codes "bv" ++ decimal v) (bv_simple v (omega arith)))
      (more_runs 4 (decimal k) [] (IsAtom atom.Numeral (decimal k)) IsEnd (numeral_reads 4 k (omega arith)) (nothing_runs 4))))

  constant_given : (v : ℕ) (c : ℤ) → v ≤ LARGEST_WIDE → FitsSigned w128 c → follows d (less_one (number c)) ≡ true → Fits held r d ts (head.Bits v) (number c ∷ []) [] →
      ReadsAs 5 (operator_text held (head.Bits v) (number c ∷ [])) (Is held r d ts (node (head.Bits v) (number c ∷ []) []))
  constant_given v (pos k) lv fit least f = number_given v k lv (let lt = fit.sfits in omega arith) (not_zero k (number_follows d (pos k +ℤ (negsuc 0 *ℤ pos 1)) least)) f
  constant_given v (negsuc n) lv fit least f = absurd (not_below n (number_follows d (negsuc n +ℤ (negsuc 0 *ℤ pos 1)) least))

  -- a literal of given value
  pub given_reads : (v : ℕ) (w : LinearExpression) → v ≤ LARGEST_WIDE → w.parts ≡ [] → IsKeptLinear w → follows d (less_one w) ≡ true → Fits held r d ts (head.Bits v) (w ∷ []) [] →
      ReadsAs 5 (operator_text held (head.Bits v) (w ∷ [])) (Is held r d ts (node (head.Bits v) (w ∷ []) []))
  given_reads v w lv none kept least f = go (linear w.constant []) (λ i. linear w.constant (none i)) kept least f
    where
      go : (x : LinearExpression) → w ≡ x → IsKeptLinear w → follows d (less_one w) ≡ true → Fits held r d ts (head.Bits v) (w ∷ []) [] →
          ReadsAs 5 (operator_text held (head.Bits v) (w ∷ [])) (Is held r d ts (node (head.Bits v) (w ∷ []) []))
      go x is kept least f =
          let same : w ≡ number w.constant = λ i. linear w.constant (none i) in
          subst (λ (y : LinearExpression). ReadsAs 5 (operator_text held (head.Bits v) (y ∷ [])) (Is held r d ts (node (head.Bits v) (y ∷ []) []))) (sym same)
          (constant_given v w.constant lv kept.within.constant (subst (λ (y : LinearExpression). follows d (less_one y) ≡ true) same least) (subst (λ (y : LinearExpression). Fits held r d ts (head.Bits v) (y ∷ []) []) same f))

  -- any other literal
  literal_is : (a b : LinearExpression) (e : Sexpr) → Fits held r d ts head.Literal (a ∷ b ∷ []) [] → IsListOf (IsAtom atom.Symbol (codes "bv")) (Indices held r d ts (a ∷ b ∷ [])) e → Is held r d ts (node head.Literal (a ∷ b ∷ []) []) e
  literal_is a b e f i = go i.items i.are i.list
    where
      go : (xs : List Sexpr) → Indices held r d ts (a ∷ b ∷ []) xs → e ≡ list_of i.place (i.first ∷ xs) → Is held r d ts (node head.Literal (a ∷ b ∷ []) []) e
      go [] g list = absurd g
      go (x ∷ []) g list = absurd g.1
      go (x ∷ y ∷ z ∷ zs) g list = absurd g.1.1
      go (x ∷ y ∷ []) g list =
          let items : items_of e ≡ i.first ∷ x ∷ y ∷ [] = ap items_of list ∙ list_items i.place (i.first ∷ x ∷ y ∷ []) in
          let unknown : is_none (found (names_of ts held) (codes "bv")) ≡ true = ap is_none (word_unknown held r d ts (codes "bv") refl) in
          list_by held r d ts e i.first (x ∷ y ∷ []) (ap kind_of list ∙ list_kind i.place (i.first ∷ x ∷ y ∷ [])) items
          ∙ if_no (is_word (codes "let") i.first) _ _ (word_is (codes "let") (codes "bv") i.first i.is)
          ∙ if_no (is_word (codes "_") i.first) _ _ (word_is (codes "_") (codes "bv") i.first i.is)
          ∙ if_yes (begins_literal (names_of ts held) i.first) _ _ (ap (λ t. t && is_none (found (names_of ts held) (codes "bv"))) (word_is (codes "bv") (codes "bv") i.first i.is) ∙ unknown)
          ∙ ap (λ w. linear_literal d w e (items_of e)) (same_widths ts held) ∙ ap (linear_literal d (widths_held held) e) items
          ∙ ap (λ q. go_on q (λ a. go_on (linear_at (widths_held held) y) (λ b. literal_at d e head.Literal (a ∷ b ∷ [])))) g.0
          ∙ ap (λ q. go_on q (λ b. literal_at d e head.Literal (a ∷ b ∷ []))) g.1.0
          ∙ literal_applies held r d ts e head.Literal (a ∷ b ∷ []) f

  pub literal_reads : (n : ℕ) (a b : LinearExpression) → n ≤ length (width_names held) → All (λ l. NamesBelow n l.parts) (a ∷ b ∷ []) → All IsKeptLinear (a ∷ b ∷ []) → Fits held r d ts head.Literal (a ∷ b ∷ []) [] →
      ReadsAs 5 (operator_text held head.Literal (a ∷ b ∷ [])) (Is held r d ts (node head.Literal (a ∷ b ∷ []) []))
  literal_reads n a b le named kept f =
      let text = operator_text held head.Literal (a ∷ b ∷ []) in
      so_reads 5 5 (operator_text held head.Literal (a ∷ b ∷ [])) (operator_text held head.Literal (a ∷ b ∷ [])) (IsListOf (IsAtom atom.Symbol (codes "bv")) (Indices held r d ts (a ∷ b ∷ []))) (Is held r d ts (node head.Literal (a ∷ b ∷ []) [])) (omega arith) refl
      (λ e i. literal_is a b e f i)
      (list_reads 4 (codes "bv") (flat_map (λ u. codes " " ++ u) (index_texts held (a ∷ b ∷ []))) (IsAtom atom.Symbol (codes "bv")) (Indices held r d ts (a ∷ b ∷ [])) (word_reads 4 (codes "bv") refl) (indices_run held r d ts n (a ∷ b ∷ []) le named kept))

  -- the name of a shared term
  pub name_reads : (m k : ℕ) (t : Tree) → k < 10 ^ 64 → found (names_of ts held) (codes "@" ++ decimal k) ≡ Some (a_term t) → ReadsAs m (codes "@" ++ decimal k) (Is held r d ts t)
  name_reads m k t lt is =
      so_reads m m (codes "@" ++ decimal k) (codes "@" ++ decimal k) (IsAtom atom.Symbol (codes "@" ++ decimal k)) (Is held r d ts t) (omega arith) refl
      (λ e a. atom_out held r d ts atom.Symbol (codes "@" ++ decimal k) e a (ap is_list_kind (kind_is atom.Symbol (codes "@" ++ decimal k) e a)) ∙ ap (atom_by d (names_of ts held) e) (kind_is atom.Symbol (codes "@" ++ decimal k) e a)
      ∙ ap (λ x. named_term d e (found (names_of ts held) x)) (text_is atom.Symbol (codes "@" ++ decimal k) e a) ∙ ap (named_term d e) is)
      (word_reads m (codes "@" ++ decimal k) (name_simple k lt))
