-- The steps of readings of literals.
use Rattle.std.proofs.Common.{◌≡◌, ℕ, ◌^◌, ◌≤◌, true, false, List, [], ◌∷◌, length, slice_get, Option, Some, None, Ok, Err, refl, ap, ◌∙◌, arith, inl, inr, if◌then◌else◌}
use Rattle.std.specs.Prelude.{ℤ, pos, negsuc, ◌≤ℤ◌, ◌⊎◌, nat_lt, ◌&&◌, codes, bytes_eq}
use Rattle.std.proofs.lemmas.Int.{ints}
use Rattle.std.proofs.lemmas.Option.{none-some, same_Some}
use Rattle.rare_base.specs.declared.answers.Fault.{Fault}
use Rattle.rare_base.specs.declared.answers.Reason.TheVariants as reason
use Rattle.rare_linear.specs.Linears.{LinearExpression, number}
use Rattle.rare_sexpr.specs.declared.tree.Sexpr.{Sexpr}
use Rattle.rare_sexpr.specs.Tree.{items_of, text_of}
use Rattle.rare_sort.specs.SortRules.{number_in}
use Rattle.rare_sort.specs.Trees.{node}
use Rattle.rare_sort.specs.declared.head.Head.TheVariants as head
use Rattle.rare_sort.specs.declared.tree.Tree.{Tree}
use Rattle.rare_term.specs.Literals.{reduced_value}
use Rattle.rare_term.specs.Refusals.{is_below_wide}
use Rattle.rare_scope.specs.Answers.{Fails}
use Rattle.rare_scope.specs.LinearText.{linear_at}
use Rattle.rare_scope.specs.Numbers.{wide_number}
use Rattle.rare_scope.specs.Reading.{Read, refused, go_on}
use Rattle.rare_scope.proofs.InOrder.{fails_on, goes_on}
use Rattle.rare_operators.specs.LiteralText.{digits_behind, numeral_at}
use Rattle.rare_operators.specs.OperatorWords.{operator_of_word}
use Rattle.rare_rule.specs.declared.param.Param.{Param}
use Rattle.rare_parse.specs.RuleNames.{rule_widths, term_named}
use Rattle.rare_parse.specs.RuleTermText.{bits, bits_literal, decimal_literal, given_literal, linear_literal, symbol_term, word_term}

pub fit_value : (e : Sexpr) (v w : ℕ) → nat_lt v (2 ^ w) ≡ true → bits_literal e (Some v) w ≡ Ok (bits v (number (pos w)))
fit_value e v w is = ap (λ b. if b then Ok (bits v (number (pos w))) else (refused e reason.LiteralTooWide)) is

pub wide_value : (e : Sexpr) (v w : ℕ) → nat_lt v (2 ^ w) ≡ false → bits_literal e (Some v) w ≡ refused e reason.LiteralTooWide
wide_value e v w is = ap (λ b. if b then Ok (bits v (number (pos w))) else (refused e reason.LiteralTooWide)) is

-- ---- `(_ bvV W)`

module _ (e : Sexpr) where
  pub other_decimal : ¬ (length (items_of e) ≡ 3) → decimal_literal e (items_of e) ≡ refused e reason.BadForm
  other_decimal ne = go (items_of e) ne
    where
      go : (xs : List Sexpr) → ¬ (length xs ≡ 3) → decimal_literal e xs ≡ refused e reason.BadForm
      go [] ne = refl
      go (a ∷ []) ne = refl
      go (a ∷ b ∷ []) ne = refl
      go (a ∷ b ∷ c ∷ []) ne = absurd (ne refl)
      go (a ∷ b ∷ c ∷ d ∷ xs) ne = refl

  module _ (v w : Sexpr) (len : length (items_of e) ≡ 3) (p : slice_get (items_of e) 1 ≡ Some v) (q : slice_get (items_of e) 2 ≡ Some w) where
    abbrev value_next : List ℕ → Read Tree
    value_next ds = go_on (numeral_at w) (λ n. bits_literal e (wide_number 10 ds) n)

    by_parts : decimal_literal e (items_of e) ≡ go_on (digits_behind v) value_next
    by_parts = go (items_of e) len p q
      where
        go : (xs : List Sexpr) → length xs ≡ 3 → slice_get xs 1 ≡ Some v → slice_get xs 2 ≡ Some w → decimal_literal e xs ≡ go_on (digits_behind v) value_next
        go [] len p q = absurd (none-some v p)
        go (a ∷ []) len p q = absurd (none-some v p)
        go (a ∷ b ∷ []) len p q = absurd (none-some w q)
        go (a ∷ b ∷ c ∷ []) len p q =
            ap (λ z. go_on (digits_behind z) (λ ds. go_on (numeral_at c) (λ n. bits_literal e (wide_number 10 ds) n))) (same_Some b v p)
            ∙ ap (λ z. go_on (digits_behind v) (λ ds. go_on (numeral_at z) (λ n. bits_literal e (wide_number 10 ds) n))) (same_Some c w q)
        go (a ∷ b ∷ c ∷ d ∷ xs) len p q = absurd (omega (arith, len))

    abbrev valued : Read (Option ℕ)
    valued = go_on (digits_behind v) (λ ds. Ok (wide_number 10 ds))

    by_value : decimal_literal e (items_of e) ≡ go_on valued (λ o. go_on (numeral_at w) (λ n. bits_literal e o n))
    by_value = by_parts ∙ go (digits_behind v)
      where
        go : (r : Read (List ℕ)) → go_on r value_next ≡ go_on (go_on r (λ ds. Ok (wide_number 10 ds))) (λ o. go_on (numeral_at w) (λ n. bits_literal e o n))
        go (Ok ds) = refl
        go (Err f) = refl

    pub value_fails : (f : Fault) → Fails f (go_on (digits_behind v) (λ ds. Ok (wide_number 10 ds))) → Fails f (decimal_literal e (items_of e))
    value_fails f bad = fails_on f valued (λ o. go_on (numeral_at w) (λ n. bits_literal e o n)) (decimal_literal e (items_of e)) by_value bad

    module _ (o : Option ℕ) (is : go_on (digits_behind v) (λ ds. Ok (wide_number 10 ds)) ≡ Ok o) where
      behind_value : decimal_literal e (items_of e) ≡ go_on (numeral_at w) (λ n. bits_literal e o n)
      behind_value = goes_on valued o (λ o. go_on (numeral_at w) (λ n. bits_literal e o n)) (decimal_literal e (items_of e)) by_value is

      pub width_fails : (f : Fault) → Fails f (numeral_at w) → Fails f (decimal_literal e (items_of e))
      width_fails f bad = fails_on f (numeral_at w) (λ n. bits_literal e o n) (decimal_literal e (items_of e)) behind_value bad

      pub decimal_read : (n : ℕ) → numeral_at w ≡ Ok n → decimal_literal e (items_of e) ≡ bits_literal e o n
      decimal_read n read = goes_on (numeral_at w) n (λ n. bits_literal e o n) (decimal_literal e (items_of e)) behind_value read

-- ---- `(bv E E)`

small : (m : ℕ) → (nat_lt 128 m && true) ≡ false → m ≤ 128
small m few = grind arith

pub may_reduce : (v w : ℤ) → is_below_wide (Some v) (Some w) ≡ false → (w ≤ℤ pos 128) ⊎ (pos 0 ≤ℤ v)
may_reduce (pos n) w few = inr (omega (arith, ints))
may_reduce (negsuc n) (negsuc m) few = inl (omega (arith, ints))
may_reduce (negsuc n) (pos m) few = let le : m ≤ 128 = small m few in inl (omega (arith, ints, le))

module _ (e : Sexpr) (v w : LinearExpression) where
  abbrev other : Read Tree
  other = Ok (node head.Literal (v ∷ w ∷ []) [])

  pub number_given : (m n : ℤ) → number_in v ≡ Some m → number_in w ≡ Some n → pos 0 ≤ℤ n →
      given_literal e v w (number_in v) (number_in w) ≡ (if is_below_wide (Some m) (Some n) then (refused e reason.LiteralTooWide) else Ok (bits (reduced_value m n) w))
  number_given m (pos n) p q le = rw (p, q) refl
  number_given m (negsuc n) p q le = absurd (omega (arith, le))

  pub below_given : (m n : ℤ) → number_in v ≡ Some m → number_in w ≡ Some n → ¬ (pos 0 ≤ℤ n) → given_literal e v w (number_in v) (number_in w) ≡ Ok (node head.Literal (v ∷ w ∷ []) [])
  below_given m (pos n) p q below = absurd (below (omega (arith, ints)))
  below_given m (negsuc n) p q below = rw (p, q) refl

  pub no_width_given : (m : ℤ) → number_in v ≡ Some m → number_in w ≡ None → given_literal e v w (number_in v) (number_in w) ≡ Ok (node head.Literal (v ∷ w ∷ []) [])
  no_width_given m p q = rw (p, q) refl

  pub no_value_given : number_in v ≡ None → given_literal e v w (number_in v) (number_in w) ≡ Ok (node head.Literal (v ∷ w ∷ []) [])
  no_value_given p = rw p refl

module _ (ps : List Param) (e : Sexpr) where
  pub other_linear : ¬ (length (items_of e) ≡ 3) → linear_literal ps e (items_of e) ≡ refused e reason.BadForm
  other_linear ne = go (items_of e) ne
    where
      go : (xs : List Sexpr) → ¬ (length xs ≡ 3) → linear_literal ps e xs ≡ refused e reason.BadForm
      go [] ne = refl
      go (a ∷ []) ne = refl
      go (a ∷ b ∷ []) ne = refl
      go (a ∷ b ∷ c ∷ []) ne = absurd (ne refl)
      go (a ∷ b ∷ c ∷ d ∷ xs) ne = refl

  module _ (v w : Sexpr) (len : length (items_of e) ≡ 3) (p : slice_get (items_of e) 1 ≡ Some v) (q : slice_get (items_of e) 2 ≡ Some w) where
    abbrev linear_next : LinearExpression → Read Tree
    linear_next a = go_on (linear_at (rule_widths ps) w) (λ b. given_literal e a b (number_in a) (number_in b))

    by_linear : linear_literal ps e (items_of e) ≡ go_on (linear_at (rule_widths ps) v) linear_next
    by_linear = go (items_of e) len p q
      where
        go : (xs : List Sexpr) → length xs ≡ 3 → slice_get xs 1 ≡ Some v → slice_get xs 2 ≡ Some w → linear_literal ps e xs ≡ go_on (linear_at (rule_widths ps) v) linear_next
        go [] len p q = absurd (none-some v p)
        go (a ∷ []) len p q = absurd (none-some v p)
        go (a ∷ b ∷ []) len p q = absurd (none-some w q)
        go (a ∷ b ∷ c ∷ []) len p q =
            ap (λ z. linear_literal ps e (a ∷ z ∷ c ∷ [])) (same_Some b v p)
            ∙ ap (λ z. linear_literal ps e (a ∷ v ∷ z ∷ [])) (same_Some c w q)
        go (a ∷ b ∷ c ∷ d ∷ xs) len p q = absurd (omega (arith, len))

    pub linear_value_fails : (f : Fault) → Fails f (linear_at (rule_widths ps) v) → Fails f (linear_literal ps e (items_of e))
    linear_value_fails f bad = fails_on f (linear_at (rule_widths ps) v) linear_next (linear_literal ps e (items_of e)) by_linear bad

    module _ (a : LinearExpression) (is : linear_at (rule_widths ps) v ≡ Ok a) where
      behind_linear : linear_literal ps e (items_of e) ≡ go_on (linear_at (rule_widths ps) w) (λ b. given_literal e a b (number_in a) (number_in b))
      behind_linear = goes_on (linear_at (rule_widths ps) v) a linear_next (linear_literal ps e (items_of e)) by_linear is

      pub linear_width_fails : (f : Fault) → Fails f (linear_at (rule_widths ps) w) → Fails f (linear_literal ps e (items_of e))
      linear_width_fails f bad = fails_on f (linear_at (rule_widths ps) w) (λ b. given_literal e a b (number_in a) (number_in b)) (linear_literal ps e (items_of e)) behind_linear bad

      pub linear_read : (b : LinearExpression) → linear_at (rule_widths ps) w ≡ Ok b → linear_literal ps e (items_of e) ≡ given_literal e a b (number_in a) (number_in b)
      linear_read b read = goes_on (linear_at (rule_widths ps) w) b (λ b. given_literal e a b (number_in a) (number_in b)) (linear_literal ps e (items_of e)) behind_linear read

-- ---- symbols

module _ (ps : List Param) (e : Sexpr) (none : term_named ps (text_of e) ≡ None) where
  other_symbol : symbol_term e (term_named ps (text_of e)) ≡ (if bytes_eq (text_of e) (codes "_") then Ok (node head.Hole [] []) else word_term e (operator_of_word (text_of e)))
  other_symbol = ap (symbol_term e) none

  pub hole_read : bytes_eq (text_of e) (codes "_") ≡ true → symbol_term e (term_named ps (text_of e)) ≡ Ok (node head.Hole [] [])
  hole_read is = other_symbol ∙ ap (λ b. if b then Ok (node head.Hole [] []) else word_term e (operator_of_word (text_of e))) is

  pub word_read : bytes_eq (text_of e) (codes "_") ≡ false → symbol_term e (term_named ps (text_of e)) ≡ word_term e (operator_of_word (text_of e))
  word_read is = other_symbol ∙ ap (λ b. if b then Ok (node head.Hole [] []) else word_term e (operator_of_word (text_of e))) is
