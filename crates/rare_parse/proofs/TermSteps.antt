-- The steps of a reading of a term.
use Rattle.std.proofs.Common.{◌≡◌, ℕ, ◌+◌, Bool, true, false, List, [], ◌∷◌, ◌++◌, map, drop, take, length, zero, suc, slice_get, Option, Some, None, Ok, Err, refl, sym, ap, ◌∙◌, arith, if◌then◌else◌}
use Rattle.std.specs.Prelude.{codes, nat_lt}
use Rattle.std.proofs.lemmas.Option.{none-some, same_Some}
use Rattle.std.proofs.lemmas.List.{length-map, drop-map, take-map}
use Rattle.rare_base.specs.declared.answers.Fault.{Fault}
use Rattle.rare_base.specs.declared.answers.Reason.TheVariants as reason
use Rattle.rare_linear.specs.Linears.{LinearExpression}
use Rattle.rare_sexpr.specs.declared.tree.Sexpr.{Sexpr}
use Rattle.rare_sexpr.specs.declared.tree.Kind.{Kind}
use Rattle.rare_sexpr.specs.declared.tree.Kind.TheVariants as kind
use Rattle.rare_sexpr.specs.Tree.{items_of, kind_of, text_of}
use Rattle.rare_sexpr.proofs.Trees.{go_out}
use Rattle.rare_sort.specs.declared.tree.Tree.{Tree}
use Rattle.rare_scope.specs.Answers.{Fails}
use Rattle.rare_scope.specs.Reading.{Read, refused, go_on, is_list_kind, is_word}
use Rattle.rare_scope.proofs.InOrder.{fails_on, goes_on}
use Rattle.rare_scope.proofs.Listing.{drop_at}
use Rattle.rare_operators.specs.declared.head.IndexedHead.{IndexedHead}
use Rattle.rare_operators.specs.declared.words.IndexedWord.{IndexedWord}
use Rattle.rare_operators.specs.HeadText.{word_head, indices_at, indexed_head, indexed_word_at}
use Rattle.rare_operators.specs.OperatorWords.{operator_of_word}
use Rattle.rare_rule.specs.declared.param.Param.{Param}
use Rattle.rare_parse.specs.RuleNames.{rule_widths}
use Rattle.rare_parse.specs.RuleTermText.{Items, rule_term_at, term_by, list_term, atom_by, decimal_literal, linear_literal, application_by, arguments_from, word_application, with_indices}
use Rattle.rare_parse.specs.inner.TermReading.{Placed, placed, word_placed, placed_by, operator_at}

module _ (ps : List Param) where
  abbrev pub pair : Sexpr → Sexpr × Read Tree
  pair x = (x, rule_term_at ps x)

  -- ---- an application by its operator

  behind : {A B C : Type 0} (r : Read A) (f : A → B) (g : B → Read C) → go_on r (λ x. g (f x)) ≡ go_on (go_on r (λ x. Ok (f x))) g
  behind (Ok x) f g = refl
  behind (Err r) f g = refl

  abbrev from_first : Sexpr → List Sexpr → Placed → Read Tree
  from_first e xs o = arguments_from e o.operator [] (map pair (drop o.first xs))

  abbrev no_items : List Sexpr
  no_items = []

  firsts : (xs : List Sexpr) → map (λ x. x.0) (map pair xs) ≡ xs
  firsts [] = refl
  firsts (x ∷ xs) = ap (λ ys. x ∷ ys) (firsts xs)

  nothing : (n : ℕ) → drop n (drop 1 no_items) ≡ drop (suc n) no_items
  nothing zero = refl
  nothing (suc n) = refl

  further : (n : ℕ) (xs : List Sexpr) → drop n (drop 1 xs) ≡ drop (1 + n) xs
  further n xs = let e : suc n ≡ 1 + n = omega arith in go xs ∙ ap (λ k. drop k xs) e
    where
      go : (xs : List Sexpr) → drop n (drop 1 xs) ≡ drop (suc n) xs
      go [] = nothing n
      go (x ∷ xs) = refl

  by_word : (e h : Sexpr) (xs : List Sexpr) (o : Option IndexedWord) → word_application ps e h (map pair (drop 1 xs)) o ≡ go_on (word_placed ps e h (drop 1 xs) o) (from_first e xs)
  by_word e h xs None =
      ap (λ n. go_on (word_head e h n (operator_of_word (text_of h))) (λ o. arguments_from e o [] (map pair (drop 1 xs)))) (length-map (drop 1 xs) pair)
      ∙ behind (word_head e h (length (drop 1 xs)) (operator_of_word (text_of h))) (placed 1) (from_first e xs)
  by_word e h xs (Some w) =
      let ys = drop 1 xs in
      let rest : Items → List LinearExpression → Read Tree = λ zs. λ ix. arguments_from e (with_indices w.head ix) [] zs in
      let indices : List Sexpr → Read (List LinearExpression) = λ zs. indices_at (rule_widths ps) zs in
      ap (λ n. if nat_lt n w.indices then (refused e reason.BadForm) else go_on (indices (map (λ x. x.0) (take w.indices (map pair ys)))) (rest (drop w.indices (map pair ys)))) (length-map ys pair)
      ∙ ap (λ zs. if nat_lt (length ys) w.indices then (refused e reason.BadForm) else go_on (indices zs) (rest (drop w.indices (map pair ys)))) (ap (map (λ x. x.0)) (take-map pair w.indices ys) ∙ firsts (take w.indices ys))
      ∙ ap (λ zs. if nat_lt (length ys) w.indices then (refused e reason.BadForm) else go_on (indices (take w.indices ys)) (rest zs)) (drop-map pair w.indices ys ∙ ap (map pair) (further w.indices xs))
      ∙ split (nat_lt (length ys) w.indices) (indices (take w.indices ys))
    where
      split : (b : Bool) (r : Read (List LinearExpression)) →
          (if b then (refused e reason.BadForm) else go_on r (λ ix. arguments_from e (with_indices w.head ix) [] (map pair (drop (1 + w.indices) xs))))
          ≡ go_on (if b then (refused e reason.BadForm) else go_on r (λ ix. Ok (placed (1 + w.indices) (with_indices w.head ix)))) (from_first e xs)
      split true r = refl
      split false r = behind r (λ ix. placed (1 + w.indices) (with_indices w.head ix)) (from_first e xs)

  by_operator : (e h : Sexpr) (xs : List Sexpr) (k : Kind) → application_by ps e h (map pair (drop 1 xs)) k ≡ go_on (placed_by ps e h (drop 1 xs) k) (from_first e xs)
  by_operator e h xs kind.Symbol = by_word e h xs (indexed_word_at h)
  by_operator e h xs kind.List = behind (indexed_head (rule_widths ps) h (items_of h)) (placed 1) (from_first e xs)
  by_operator e h xs k = refl

  -- ---- one level of a reading

  term_out : (e : Sexpr) → rule_term_at ps e ≡ term_by ps e (kind_of e) (map pair (items_of e))
  term_out e = go_out (Read Tree) (λ e items. term_by ps e (kind_of e) items) e

  atom : (e : Sexpr) (k : Kind) (items : Items) → is_list_kind k ≡ false → term_by ps e k items ≡ atom_by ps e k
  atom e kind.List items no_list = absurd cc
  atom e k items no_list = refl

  pub atom_read : (e : Sexpr) → is_list_kind (kind_of e) ≡ false → rule_term_at ps e ≡ atom_by ps e (kind_of e)
  atom_read e no_list = term_out e ∙ atom e (kind_of e) (map pair (items_of e)) no_list

  listed : (e : Sexpr) (k : Kind) (items : Items) → is_list_kind k ≡ true → term_by ps e k items ≡ list_term ps e items
  listed e kind.List items is = refl
  listed e k items is = absurd cc

  module _ (e : Sexpr) (is : is_list_kind (kind_of e) ≡ true) where
    list_read : rule_term_at ps e ≡ list_term ps e (map pair (items_of e))
    list_read = term_out e ∙ listed e (kind_of e) (map pair (items_of e)) is

    pub empty_read : length (items_of e) ≡ 0 → rule_term_at ps e ≡ refused e reason.BadForm
    empty_read none = list_read ∙ go (items_of e) none
      where
        go : (xs : List Sexpr) → length xs ≡ 0 → list_term ps e (map pair xs) ≡ refused e reason.BadForm
        go [] none = refl
        go (x ∷ xs) none = absurd (omega (arith, none))

    module _ (h : Sexpr) (first : slice_get (items_of e) 0 ≡ Some h) where
      abbrev applied : Read Tree
      applied = application_by ps e h (map pair (drop 1 (items_of e))) (kind_of h)

      begun : rule_term_at ps e ≡ (if is_word (codes "_") h then decimal_literal e (items_of e) else (if is_word (codes "bv") h then linear_literal ps e (items_of e) else applied))
      begun = list_read ∙ go (items_of e) first
        where
          go : (xs : List Sexpr) → slice_get xs 0 ≡ Some h →
              list_term ps e (map pair xs)
              ≡ (if is_word (codes "_") h then decimal_literal e (items_of e) else (if is_word (codes "bv") h then linear_literal ps e (items_of e) else application_by ps e h (map pair (drop 1 xs)) (kind_of h)))
          go [] first = absurd (none-some h first)
          go (x ∷ xs) first =
              ap (λ z. if is_word (codes "_") z then decimal_literal e (items_of e) else (if is_word (codes "bv") z then linear_literal ps e (items_of e) else application_by ps e z (map pair xs) (kind_of z))) (same_Some x h first)

      pub decimal_read : is_word (codes "_") h ≡ true → rule_term_at ps e ≡ decimal_literal e (items_of e)
      decimal_read mark = begun ∙ ap (λ b. if b then decimal_literal e (items_of e) else (if is_word (codes "bv") h then linear_literal ps e (items_of e) else applied)) mark

      module _ (no_mark : is_word (codes "_") h ≡ false) where
        unmarked : rule_term_at ps e ≡ (if is_word (codes "bv") h then linear_literal ps e (items_of e) else applied)
        unmarked = begun ∙ ap (λ b. if b then decimal_literal e (items_of e) else (if is_word (codes "bv") h then linear_literal ps e (items_of e) else applied)) no_mark

        pub linear_read : is_word (codes "bv") h ≡ true → rule_term_at ps e ≡ linear_literal ps e (items_of e)
        linear_read word = unmarked ∙ ap (λ b. if b then linear_literal ps e (items_of e) else applied) word

        pub applied_read : is_word (codes "bv") h ≡ false → rule_term_at ps e ≡ go_on (operator_at ps e h) (λ o. arguments_from e o.operator [] (map pair (drop o.first (items_of e))))
        applied_read no_word =
            unmarked ∙ ap (λ b. if b then linear_literal ps e (items_of e) else applied) no_word ∙ by_operator e h (items_of e) (kind_of h)

    -- an argument
    module _ (o : IndexedHead) (ts : List Tree) (x : Sexpr) (k : ℕ) (at : slice_get (items_of e) k ≡ Some x) (so : arguments_from e o ts (map pair (drop k (items_of e))) ≡ rule_term_at ps e) where
      next : rule_term_at ps e ≡ go_on (rule_term_at ps x) (λ t. arguments_from e o (ts ++ t ∷ []) (map pair (drop (k + 1) (items_of e))))
      next = sym so ∙ ap (λ xs. arguments_from e o ts (map pair xs)) (drop_at (items_of e) k x at)

      pub argument_fails : (f : Fault) → Fails f (rule_term_at ps x) → Fails f (rule_term_at ps e)
      argument_fails f bad = fails_on f (rule_term_at ps x) (λ t. arguments_from e o (ts ++ t ∷ []) (map pair (drop (k + 1) (items_of e)))) (rule_term_at ps e) next bad

      pub argument_read : (t : Tree) → rule_term_at ps x ≡ Ok t → arguments_from e o (ts ++ t ∷ []) (map pair (drop (k + 1) (items_of e))) ≡ rule_term_at ps e
      argument_read t read = sym (goes_on (rule_term_at ps x) t (λ t. arguments_from e o (ts ++ t ∷ []) (map pair (drop (k + 1) (items_of e)))) (rule_term_at ps e) next read)
