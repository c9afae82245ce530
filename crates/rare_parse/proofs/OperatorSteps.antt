-- The steps of a reading of an operator.
use Rattle.std.proofs.Common.{◌≡◌, ℕ, zero, suc, ◌+◌, ◌-◌, ◌<◌, ◌≤◌, true, false, List, [], ◌∷◌, drop, take, length, Some, None, Ok, refl, sym, ap, ◌∙◌, subst, arith, if◌then◌else◌}
use Rattle.std.specs.Prelude.{nat_lt}
use Rattle.rare_base.specs.declared.answers.Fault.{Fault}
use Rattle.rare_base.specs.declared.answers.Reason.TheVariants as reason
use Rattle.rare_linear.specs.Linears.{LinearExpression}
use Rattle.rare_sexpr.specs.declared.tree.Sexpr.{Sexpr}
use Rattle.rare_sexpr.specs.declared.tree.Kind.TheVariants as kind
use Rattle.rare_sexpr.specs.Tree.{items_of, kind_of, text_of}
use Rattle.rare_scope.specs.Answers.{Fails}
use Rattle.rare_scope.specs.Reading.{Read, refused, go_on}
use Rattle.rare_scope.proofs.InOrder.{fails_on, goes_on}
use Rattle.rare_operators.specs.declared.head.IndexedHead.{IndexedHead}
use Rattle.rare_operators.specs.declared.words.IndexedWord.{IndexedWord}
use Rattle.rare_operators.specs.HeadText.{word_head, indices_at, indexed_head, indexed_word_at}
use Rattle.rare_operators.specs.OperatorWords.{operator_of_word}
use Rattle.rare_rule.specs.declared.param.Param.{Param}
use Rattle.rare_parse.specs.RuleNames.{rule_widths}
use Rattle.rare_parse.specs.RuleTermText.{with_indices}
use Rattle.rare_parse.specs.inner.TermReading.{Placed, placed, word_placed, placed_by, operator_at}

-- the items behind the first
pub count_behind : (xs : List Sexpr) (n : ℕ) → n ≡ length xs → n - 1 ≡ length (drop 1 xs)
count_behind [] n is = omega (arith, is)
count_behind (x ∷ xs) n is = omega (arith, is)

first_items : (xs : List Sexpr) (n : ℕ) → drop 1 (take (1 + n) xs) ≡ take n (drop 1 xs)
first_items xs n = let e : 1 + n ≡ suc n = omega arith in ap (λ k. drop 1 (take k xs)) e ∙ go xs n
  where
    go : (xs : List Sexpr) (n : ℕ) → drop 1 (take (suc n) xs) ≡ take n (drop 1 xs)
    go [] zero = refl
    go [] (suc n) = refl
    go (x ∷ xs) n = refl

module _ (ps : List Param) (e h : Sexpr) (w : IndexedWord) where
  abbrev xs : List Sexpr
  xs = drop 1 (items_of e)

  abbrev indices_of_word : Read Placed
  indices_of_word = go_on (indices_at (rule_widths ps) (take w.indices xs)) (λ ix. Ok (placed (1 + w.indices) (with_indices w.head ix)))

  pub few_indices : (n : ℕ) → n ≡ length (items_of e) → n - 1 < w.indices → word_placed ps e h (drop 1 (items_of e)) (Some w) ≡ refused e reason.BadForm
  few_indices n is lt =
      let few : length xs < w.indices = omega (arith, count_behind (items_of e) n is, lt) in
      let t : nat_lt (length xs) w.indices ≡ true = grind (arith, few) in
      ap (λ b. if b then (refused e reason.BadForm) else indices_of_word) t

  module _ (n : ℕ) (is : n ≡ length (items_of e)) (le : w.indices ≤ n - 1) where
    enough : word_placed ps e h xs (Some w) ≡ indices_of_word
    enough =
        let many : w.indices ≤ length xs = omega (arith, count_behind (items_of e) n is, le) in
        let t : nat_lt (length xs) w.indices ≡ false = grind (arith, many) in
        ap (λ b. if b then (refused e reason.BadForm) else indices_of_word) t

    pub indices_fail : (f : Fault) → Fails f (indices_at (rule_widths ps) (drop 1 (take (1 + w.indices) (items_of e)))) → Fails f (word_placed ps e h (drop 1 (items_of e)) (Some w))
    indices_fail f bad =
        fails_on f (indices_at (rule_widths ps) (take w.indices xs)) (λ ix. Ok (placed (1 + w.indices) (with_indices w.head ix))) (word_placed ps e h xs (Some w)) enough
        (subst (λ (ys : List Sexpr). Fails f (indices_at (rule_widths ps) ys)) (first_items (items_of e) w.indices) bad)

    pub indices_read : (ix : List LinearExpression) → indices_at (rule_widths ps) (drop 1 (take (1 + w.indices) (items_of e))) ≡ Ok ix →
        word_placed ps e h (drop 1 (items_of e)) (Some w) ≡ Ok (placed (1 + w.indices) (with_indices w.head ix))
    indices_read ix read =
        goes_on (indices_at (rule_widths ps) (take w.indices xs)) ix (λ ix. Ok (placed (1 + w.indices) (with_indices w.head ix))) (word_placed ps e h xs (Some w)) enough
        (ap (indices_at (rule_widths ps)) (sym (first_items (items_of e) w.indices)) ∙ read)

module _ (ps : List Param) (e h : Sexpr) (none : indexed_word_at h ≡ None) where
  abbrev behind : List Sexpr
  behind = drop 1 (items_of e)

  by_word : word_placed ps e h behind (indexed_word_at h) ≡ go_on (word_head e h (length behind) (operator_of_word (text_of h))) (λ o. Ok (placed 1 o))
  by_word = ap (word_placed ps e h behind) none

  pub word_fails : (n : ℕ) (f : Fault) → n ≡ length (drop 1 (items_of e)) → Fails f (word_head e h n (operator_of_word (text_of h))) → Fails f (word_placed ps e h (drop 1 (items_of e)) (indexed_word_at h))
  word_fails n f is bad =
      fails_on f (word_head e h (length behind) (operator_of_word (text_of h))) (λ o. Ok (placed 1 o)) (word_placed ps e h behind (indexed_word_at h)) by_word
      (subst (λ k. Fails f (word_head e h k (operator_of_word (text_of h)))) is bad)

  pub word_read : (n : ℕ) (o : IndexedHead) → n ≡ length (drop 1 (items_of e)) → word_head e h n (operator_of_word (text_of h)) ≡ Ok o → word_placed ps e h (drop 1 (items_of e)) (indexed_word_at h) ≡ Ok (placed 1 o)
  word_read n o is read =
      goes_on (word_head e h (length behind) (operator_of_word (text_of h))) o (λ o. Ok (placed 1 o)) (word_placed ps e h behind (indexed_word_at h)) by_word
      (ap (λ k. word_head e h k (operator_of_word (text_of h))) (sym is) ∙ read)

module _ (ps : List Param) (e h : Sexpr) (is : kind_of h ≡ kind.List) where
  by_list : operator_at ps e h ≡ go_on (indexed_head (rule_widths ps) h (items_of h)) (λ o. Ok (placed 1 o))
  by_list = ap (placed_by ps e h (drop 1 (items_of e))) is

  pub list_fails : (f : Fault) → Fails f (indexed_head (rule_widths ps) h (items_of h)) → Fails f (operator_at ps e h)
  list_fails f bad = fails_on f (indexed_head (rule_widths ps) h (items_of h)) (λ o. Ok (placed 1 o)) (operator_at ps e h) by_list bad

  pub list_read : (o : IndexedHead) → indexed_head (rule_widths ps) h (items_of h) ≡ Ok o → operator_at ps e h ≡ Ok (placed 1 o)
  list_read o read = goes_on (indexed_head (rule_widths ps) h (items_of h)) o (λ o. Ok (placed 1 o)) (operator_at ps e h) by_list read
