-- Literals in a rule: what is written of one that was read is read back.
use Rattle.std.proofs.Common.{◌≡◌, ℕ, ◌+◌, ◌^◌, ◌<◌, ◌≤◌, Bool, true, false, ◌&&◌, List, [], ◌∷◌, ◌++◌, nat_lt, Option, Some, None, Ok, refl, sym, ap, ◌∙◌, subst, arith, FitsSigned}
use Rattle.std.specs.Prelude.{ℤ, pos, negsuc, codes, nat_le, int_lt, if◌then◌else◌}
use Rattle.std.specs.Fmt.{decimal}
use Rattle.std.specs.Int.{w128}
use Rattle.std.proofs.lemmas.Bool.{leb-true, lt-ltb, ltb-true}
use Rattle.std.proofs.lemmas.Bool.Decides.{nat_tests}
use Rattle.std.proofs.lemmas.List.{append-nil}
use Rattle.rare_base.specs.declared.answers.Reason.TheVariants as reason
use Rattle.rare_linear.specs.Linears.{LinearExpression, number}
use Rattle.rare_sexpr.specs.declared.tree.AtomKind.TheVariants as atom
use Rattle.rare_sexpr.specs.declared.tree.Sexpr.{Sexpr}
use Rattle.rare_sexpr.specs.Tree.{kind_of, text_of}
use Rattle.rare_sort.specs.SortRules.{number_in}
use Rattle.rare_sort.specs.Trees.{node, nesting}
use Rattle.rare_sort.specs.declared.head.Head.TheVariants as head
use Rattle.rare_sort.specs.declared.tree.Tree.{Tree}
use Rattle.rare_term.specs.Literals.{reduced_value}
use Rattle.rare_term.specs.Refusals.{is_below_wide}
use Rattle.rare_term.specs.inner.TreeLaws.{nesting_node}
use Rattle.rare_scope.specs.LinearText.{linear_at}
use Rattle.rare_scope.specs.Numbers.{LARGEST_SMALL, LARGEST_WIDE, digits_number, small_number, wide_number}
use Rattle.rare_scope.specs.Printing.{linear_text_by}
use Rattle.rare_scope.specs.Reading.{refused, go_on, is_numeral_kind, is_word}
use Rattle.rare_scope.proofs.InOrder.{went, same_Ok}
use Rattle.rare_scope.proofs.PrintingSteps.{number_only}
use Rattle.rare_operators.specs.LiteralText.{digits_behind, width_numeral, numeral_at}
use Rattle.rare_rule.specs.declared.param.Param.{Param}
use Rattle.rare_parse.specs.RuleNames.{rule_widths}
use Rattle.rare_parse.specs.RuleTermText.{bits, bits_literal, decimal_literal, given_literal, linear_literal}
use Rattle.rare_term_printing.specs.OperatorTexts.{list_text}
use Rattle.rare_rule_printing.specs.ConstraintPrinting.{number_text}
use Rattle.rare_rule_printing.specs.RulePrinting.{index_texts, bits_text, rule_term_text}
use Rattle.rare_reread.specs.ReadsAs.{ReadsAs}
use Rattle.rare_reread.proofs.Atoms.{IsAtom, word_reads, numeral_reads, decimal_wide}
use Rattle.rare_reread.proofs.Digits.{bv_simple, digits_read, width_read}
use Rattle.rare_reread.proofs.Heads.{if_no, if_yes}
use Rattle.rare_reread.proofs.Linears.{so_reads, number_reads}
use Rattle.rare_reread.proofs.Lists.{HasThree, word_is}
use Rattle.rare_rule_reread.proofs.Applications.{list_out}
use Rattle.rare_rule_reread.proofs.Arguments.{IsTree, node_is, IsBack}
use Rattle.rare_rule_reread.proofs.Pairs.{list_of_three}
use Rattle.rare_rule_reread.proofs.RuleNumbers.{small_is, wide_is, reduced_is, already, only_number}
use Rattle.rare_rule_reread.proofs.Spoken.{Speaks, AreSpoken, linear_speaks, linear_back}

module _ (ps : List Param) where
  abbrev IsNumber : ℕ → Sexpr → Type 0
  IsNumber n x = linear_at (rule_widths ps) x ≡ Ok (number (pos n))

  -- ---- literals of given value

  number_bytes : (k : ℕ) → decimal k ≡ linear_text_by (number_text ps) (number (pos k))
  number_bytes k = sym (append-nil (decimal k)) ∙ number_only (number_text ps) (number (pos k)) refl

  natural_reads : (n : ℕ) → n ≤ LARGEST_SMALL → ReadsAs 4 (decimal n) (IsNumber n)
  natural_reads n le = so_reads 2 4 (decimal n) (decimal n) (IsNumber n) (IsNumber n) (omega arith) refl (λ e g. g) (number_reads (rule_widths ps) (pos n) (record { sfits = omega (arith, le) }))

  never_wide : (v : ℕ) (b : Bool) → (b && int_lt (pos v) (pos 0)) ≡ false
  never_wide v true = no_less
    where
      no_less : int_lt (pos v) (pos 0) ≡ false
      no_less = grind (arith, nat_tests)
  never_wide v false = refl

  given_again : (e : Sexpr) (v k : ℕ) → v < 2 ^ k → given_literal e (number (pos v)) (number (pos k)) (Some (pos v)) (Some (pos k)) ≡ Ok (bits v (number (pos k)))
  given_again e v k lt =
      ap (λ b. if b then refused e reason.LiteralTooWide else Ok (bits (reduced_value (pos v) (pos k)) (number (pos k)))) (never_wide v (int_lt (pos 128) (pos k)))
      ∙ ap (λ u. Ok (bits u (number (pos k)))) (already v k lt)

  small_again : (v k : ℕ) (x : Sexpr) → v < 2 ^ k → HasThree (IsAtom atom.Symbol (codes "bv")) (IsNumber v) (IsNumber k) x → IsTree ps (bits v (number (pos k))) x
  small_again v k x lt h =
      list_out ps x h.first (h.second ∷ h.third ∷ []) h.list h.items
      ∙ if_no (is_word (codes "_") h.first) _ _ (word_is (codes "_") (codes "bv") h.first h.is_first)
      ∙ if_yes (is_word (codes "bv") h.first) _ _ (word_is (codes "bv") (codes "bv") h.first h.is_first)
      ∙ ap (linear_literal ps x) h.items
      ∙ ap (λ q. go_on q (λ a. go_on (linear_at (rule_widths ps) h.third) (λ b. given_literal x a b (number_in a) (number_in b)))) h.is_second
      ∙ ap (λ q. go_on q (λ b. given_literal x (number (pos v)) b (Some (pos v)) (number_in b))) h.is_third
      ∙ given_again x v k lt

  value_again : (e : Sexpr) (v k : ℕ) → v < 2 ^ k → bits_literal e (Some v) k ≡ Ok (bits v (number (pos k)))
  value_again e v k lt = ap (λ b. if b then Ok (bits v (number (pos k))) else refused e reason.LiteralTooWide) (lt-ltb v (2 ^ k) lt)

  wide_again : (v k : ℕ) (x : Sexpr) → v ≤ LARGEST_WIDE → k ≤ LARGEST_SMALL → v < 2 ^ k →
      HasThree (IsAtom atom.Symbol (codes "_")) (IsAtom atom.Symbol (codes "bv" ++ decimal v)) (IsAtom atom.Numeral (decimal k)) x → IsTree ps (bits v (number (pos k))) x
  wide_again v k x lv lk lt h =
      list_out ps x h.first (h.second ∷ h.third ∷ []) h.list h.items
      ∙ if_yes (is_word (codes "_") h.first) _ _ (word_is (codes "_") (codes "_") h.first h.is_first)
      ∙ ap (decimal_literal x) h.items
      ∙ ap (λ q. go_on q (λ ds. go_on (numeral_at h.third) (λ n. bits_literal x (wide_number 10 ds) n))) (digits_read h.second v lv h.is_second)
      ∙ ap (λ q. go_on q (λ n. bits_literal x (wide_number 10 (decimal v)) n)) (width_read h.third k lk h.is_third)
      ∙ ap (λ o. bits_literal x o k) (decimal_wide v lv) ∙ value_again x v k lt

  bits_node : (v : ℕ) (w : LinearExpression) → rule_term_text ps (bits v w) ≡ bits_text v (index_texts ps (w ∷ []))
  bits_node v w = node_is ps (head.Bits v) (w ∷ []) []

  pub given_back : (v k : ℕ) → v ≤ LARGEST_WIDE → k ≤ LARGEST_SMALL → v < 2 ^ k → IsBack ps (bits v (number (pos k)))
  given_back v k lv lk lt = go (nat_le v LARGEST_SMALL) refl
    where
      nest : nesting (bits v (number (pos k))) ≡ 1
      nest = nesting_node (head.Bits v) (number (pos k) ∷ []) []

      text : (b : Bool) → nat_le v LARGEST_SMALL ≡ b → (if b then list_text (codes "bv" ∷ decimal v ∷ decimal k ∷ []) else list_text (codes "_" ∷ (codes "bv" ++ decimal v) ∷ decimal k ∷ [])) ≡ rule_term_text ps (bits v (number (pos k)))
      text b is =
          ap (λ t. if b then list_text (codes "bv" ∷ decimal v ∷ t ∷ []) else list_text (codes "_" ∷ (codes "bv" ++ decimal v) ∷ t ∷ [])) (number_bytes k)
          ∙ ap (λ c. if c then list_text (codes "bv" ∷ decimal v ∷ index_texts ps (number (pos k) ∷ [])) else list_text (codes "_" ∷ (codes "bv" ++ decimal v) ∷ index_texts ps (number (pos k) ∷ []))) (sym is)
          ∙ sym (bits_node v (number (pos k)))

      go : (b : Bool) → nat_le v LARGEST_SMALL ≡ b → IsBack ps (bits v (number (pos k)))
      go true is =
          so_reads 5 (nesting (bits v (number (pos k))) + 4) (list_text (codes "bv" ∷ decimal v ∷ decimal k ∷ [])) (rule_term_text ps (bits v (number (pos k)))) (HasThree (IsAtom atom.Symbol (codes "bv")) (IsNumber v) (IsNumber k)) (IsTree ps (bits v (number (pos k))))
          (omega (arith, nest)) (text true is) (λ x h. small_again v k x lt h)
          (list_of_three 4 (codes "bv") (decimal v) (decimal k) (IsAtom atom.Symbol (codes "bv")) (IsNumber v) (IsNumber k) (word_reads 4 (codes "bv") refl) (natural_reads v (leb-true v LARGEST_SMALL is)) (natural_reads k lk))
      go false is =
          so_reads 5 (nesting (bits v (number (pos k))) + 4) (list_text (codes "_" ∷ (codes "bv" ++ decimal v) ∷ decimal k ∷ [])) (rule_term_text ps (bits v (number (pos k))))
          (HasThree (IsAtom atom.Symbol (codes "_")) (IsAtom atom.Symbol (codes "bv" ++ decimal v)) (IsAtom atom.Numeral (decimal k))) (IsTree ps (bits v (number (pos k))))
          (omega (arith, nest)) (text false is) (λ x h. wide_again v k x lv lk lt h)
          (list_of_three 4 (codes "_") (codes "bv" ++ decimal v) (decimal k) (IsAtom atom.Symbol (codes "_")) (IsAtom atom.Symbol (codes "bv" ++ decimal v)) (IsAtom atom.Numeral (decimal k))
          (word_reads 4 (codes "_") refl) (word_reads 4 (codes "bv" ++ decimal v) (bv_simple v (omega (arith, lv)))) (numeral_reads 4 k (omega (arith, lk))))

  -- a value that was read, and its width
  pub bits_back : (e : Sexpr) (text : List ℕ) (base n : ℕ) (t : Tree) → n ≤ LARGEST_SMALL → bits_literal e (wide_number base text) n ≡ Ok t → IsBack ps t
  bits_back e text base n t le is = go (wide_number base text) refl is
    where
      fit : (v : ℕ) → v ≤ LARGEST_WIDE → (b : Bool) → nat_lt v (2 ^ n) ≡ b → (if b then Ok (bits v (number (pos n))) else refused e reason.LiteralTooWide) ≡ Ok t → IsBack ps t
      fit v lv true lt is = subst (IsBack ps) (same_Ok (bits v (number (pos n))) t is) (given_back v n lv le (ltb-true v (2 ^ n) lt))
      fit v lv false lt is = absurd cc

      go : (o : Option ℕ) → wide_number base text ≡ o → bits_literal e o n ≡ Ok t → IsBack ps t
      go None found is = absurd cc
      go (Some v) found is = fit v (wide_is (digits_number base text) v found) (nat_lt v (2 ^ n)) refl is

  -- `(_ bvV W)`
  width_small : (w : Sexpr) (n : ℕ) → numeral_at w ≡ Ok n → n ≤ LARGEST_SMALL
  width_small w n is = go (is_numeral_kind (kind_of w)) is
    where
      by_number : (o : Option ℕ) → small_number (text_of w) ≡ o → width_numeral w o ≡ Ok n → n ≤ LARGEST_SMALL
      by_number None found is = absurd cc
      by_number (Some k) found is = small_is (digits_number 10 (text_of w)) n (found ∙ ap Some (same_Ok k n is))

      go : (b : Bool) → (if b then width_numeral w (small_number (text_of w)) else refused w reason.BadForm) ≡ Ok n → n ≤ LARGEST_SMALL
      go true is = by_number (small_number (text_of w)) refl is
      go false is = absurd cc

  pub decimal_back : (e : Sexpr) (items : List Sexpr) (t : Tree) → decimal_literal e items ≡ Ok t → IsBack ps t
  decimal_back e [] t is = absurd cc
  decimal_back e (u ∷ []) t is = absurd cc
  decimal_back e (u ∷ v ∷ []) t is = absurd cc
  decimal_back e (u ∷ v ∷ w ∷ []) t is =
      let ds = went (digits_behind v) (λ ds. go_on (numeral_at w) (λ n. bits_literal e (wide_number 10 ds) n)) t is in
      let n = went (numeral_at w) (λ n. bits_literal e (wide_number 10 ds.0) n) t ds.2 in
      bits_back e ds.0 10 n.0 t (width_small w n.0 n.1) n.2
  decimal_back e (u ∷ v ∷ w ∷ x ∷ xs) t is = absurd cc

  -- ---- other literals

  module _ (spoken : AreSpoken ps ps) where
    abbrev IsExpression : LinearExpression → Sexpr → Type 0
    IsExpression l x = linear_at (rule_widths ps) x ≡ Ok l

    abbrev other : LinearExpression → LinearExpression → Tree
    other a b = node head.Literal (a ∷ b ∷ []) []

    other_again : (a b : LinearExpression) (x : Sexpr) → ((e : Sexpr) → given_literal e a b (number_in a) (number_in b) ≡ Ok (node head.Literal (a ∷ b ∷ []) [])) →
        HasThree (IsAtom atom.Symbol (codes "bv")) (IsExpression a) (IsExpression b) x → IsTree ps (node head.Literal (a ∷ b ∷ []) []) x
    other_again a b x given h =
        list_out ps x h.first (h.second ∷ h.third ∷ []) h.list h.items
        ∙ if_no (is_word (codes "_") h.first) _ _ (word_is (codes "_") (codes "bv") h.first h.is_first)
        ∙ if_yes (is_word (codes "bv") h.first) _ _ (word_is (codes "bv") (codes "bv") h.first h.is_first)
        ∙ ap (linear_literal ps x) h.items
        ∙ ap (λ q. go_on q (λ a. go_on (linear_at (rule_widths ps) h.third) (λ b. given_literal x a b (number_in a) (number_in b)))) h.is_second
        ∙ ap (λ q. go_on q (λ b. given_literal x a b (number_in a) (number_in b))) h.is_third
        ∙ given x

    other_back : (a b : LinearExpression) → Speaks ps ps a → Speaks ps ps b → ((e : Sexpr) → given_literal e a b (number_in a) (number_in b) ≡ Ok (node head.Literal (a ∷ b ∷ []) [])) → IsBack ps (node head.Literal (a ∷ b ∷ []) [])
    other_back a b sa sb given =
        let nest = nesting_node head.Literal (a ∷ b ∷ []) [] in
        let ta = linear_text_by (number_text ps) a in
        let tb = linear_text_by (number_text ps) b in
        so_reads 5 (nesting (node head.Literal (a ∷ b ∷ []) []) + 4) (list_text (codes "bv" ∷ ta ∷ tb ∷ [])) (rule_term_text ps (node head.Literal (a ∷ b ∷ []) []))
        (HasThree (IsAtom atom.Symbol (codes "bv")) (IsExpression a) (IsExpression b)) (IsTree ps (node head.Literal (a ∷ b ∷ []) [])) (omega (arith, nest)) (sym (node_is ps head.Literal (a ∷ b ∷ []) []))
        (λ x h. other_again a b x given h)
        (list_of_three 4 (codes "bv") ta tb (IsAtom atom.Symbol (codes "bv")) (IsExpression a) (IsExpression b) (word_reads 4 (codes "bv") refl) (linear_back ps ps a sa) (linear_back ps ps b sb))

    -- by whether value and width are numbers
    by_numbers : (e : Sexpr) (a b : LinearExpression) (j k : Option ℤ) (t : Tree) → Speaks ps ps a → Speaks ps ps b → number_in a ≡ j → number_in b ≡ k → given_literal e a b j k ≡ Ok t → IsBack ps t
    by_numbers e a b (Some m) (Some (pos n)) t sa sb ia ib is = go (is_below_wide (Some m) (Some (pos n))) refl is
      where
        go : (w : Bool) → is_below_wide (Some m) (Some (pos n)) ≡ w → (if w then refused e reason.LiteralTooWide else Ok (bits (reduced_value m (pos n)) b)) ≡ Ok t → IsBack ps t
        go true wide is = absurd cc
        go false wide is =
            let va = only_number a m ia in
            let wb = only_number b (pos n) ib in
            let fit : FitsSigned w128 m = subst (λ (l : LinearExpression). FitsSigned w128 l.constant) va sa.kept.within.constant in
            let narrow : FitsSigned w128 (pos n) = subst (λ (l : LinearExpression). FitsSigned w128 l.constant) wb sb.kept.within.constant in
            let r = reduced_is m n fit wide in
            subst (IsBack ps) (ap (bits (reduced_value m (pos n))) (sym wb) ∙ same_Ok (bits (reduced_value m (pos n)) b) t is) (given_back (reduced_value m (pos n)) n r.wide (let lt = narrow.sfits in omega arith) r.below)
    by_numbers e a b (Some m) (Some (negsuc n)) t sa sb ia ib is =
        subst (IsBack ps) (same_Ok (node head.Literal (a ∷ b ∷ []) []) t is) (other_back a b sa sb (λ x. ap (λ j. given_literal x a b j (number_in b)) ia ∙ ap (given_literal x a b (Some m)) ib))
    by_numbers e a b (Some m) None t sa sb ia ib is =
        subst (IsBack ps) (same_Ok (node head.Literal (a ∷ b ∷ []) []) t is) (other_back a b sa sb (λ x. ap (λ j. given_literal x a b j (number_in b)) ia ∙ ap (given_literal x a b (Some m)) ib))
    by_numbers e a b None k t sa sb ia ib is =
        subst (IsBack ps) (same_Ok (node head.Literal (a ∷ b ∷ []) []) t is) (other_back a b sa sb (λ x. ap (λ j. given_literal x a b j (number_in b)) ia))

    -- `(bv E E)`
    pub linear_literal_back : (e : Sexpr) (items : List Sexpr) (t : Tree) → linear_literal ps e items ≡ Ok t → IsBack ps t
    linear_literal_back e [] t is = absurd cc
    linear_literal_back e (h ∷ []) t is = absurd cc
    linear_literal_back e (h ∷ v ∷ []) t is = absurd cc
    linear_literal_back e (h ∷ v ∷ w ∷ []) t is =
        let a = went (linear_at (rule_widths ps) v) (λ a. go_on (linear_at (rule_widths ps) w) (λ b. given_literal e a b (number_in a) (number_in b))) t is in
        let b = went (linear_at (rule_widths ps) w) (λ b. given_literal e a.0 b (number_in a.0) (number_in b)) t a.2 in
        by_numbers e a.0 b.0 (number_in a.0) (number_in b.0) t (linear_speaks ps ps spoken v a.0 a.1) (linear_speaks ps ps spoken w b.0 b.1) refl refl b.2
    linear_literal_back e (h ∷ v ∷ w ∷ x ∷ xs) t is = absurd cc
