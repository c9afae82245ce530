-- The steps of a reading of an operator with indices.
use Rattle.std.proofs.Common.{◌≡◌, ℕ, zero, suc, ◌+◌, ◌<◌, ◌≤◌, true, List, [], ◌∷◌, ◌++◌, drop, take, length, slice_get, Some, Ok, Err, refl, sym, ap, ◌∙◌, arith, append_assoc}
use Rattle.std.specs.Prelude.{codes}
use Rattle.std.proofs.lemmas.Option.{none-some, same_Some}
use Rattle.rare_base.specs.declared.answers.Fault.{Fault}
use Rattle.rare_linear.specs.Linears.{LinearExpression}
use Rattle.rare_sexpr.specs.declared.tree.Sexpr.{Sexpr}
use Rattle.rare_scope.specs.Answers.{Fails}
use Rattle.rare_scope.specs.LinearText.{WidthNames, linear_at}
use Rattle.rare_scope.specs.Reading.{Read, go_on, is_word}
use Rattle.rare_scope.proofs.InOrder.{fails_on}
use Rattle.rare_scope.proofs.Listing.{drop_at}
use Rattle.rare_operators.specs.HeadText.{indices_at, indexed_by, indexed_head, indexed_word_at}

-- ---- lists up to an item

pub whole_list : (xs : List Sexpr) (n : ℕ) → n ≡ length xs → take n xs ≡ xs
whole_list xs n is = ap (λ k. take k xs) is ∙ go xs
  where
    go : (xs : List Sexpr) → take (length xs) xs ≡ xs
    go [] = refl
    go (x ∷ xs) = ap (λ ys. x ∷ ys) (go xs)

pub get_before : (xs : List Sexpr) (n k : ℕ) (x : Sexpr) → k < n → slice_get xs k ≡ Some x → slice_get (take n xs) k ≡ Some x
get_before [] n k x lt is = absurd (none-some x is)
get_before (y ∷ ys) zero k x lt is = absurd (omega (arith, lt))
get_before (y ∷ ys) (suc n) zero x lt is = is
get_before (y ∷ ys) (suc n) (suc k) x lt is = get_before ys n k x (omega (arith, lt)) is

module _ (w : WidthNames) where
  -- what was read, and behind it what is read of the rest
  abbrev pub behind : List LinearExpression → Read (List LinearExpression) → Read (List LinearExpression)
  behind done rest = go_on rest (λ ls. Ok (done ++ ls))

  abbrev rest_behind : List Sexpr → LinearExpression → Read (List LinearExpression)
  rest_behind xs l = go_on (indices_at w xs) (λ ls. Ok (l ∷ ls))

  one_more : (done : List LinearExpression) (l : LinearExpression) (rest : Read (List LinearExpression)) → behind done (go_on rest (λ ls. Ok (l ∷ ls))) ≡ behind (done ++ l ∷ []) rest
  one_more done l (Ok ls) = ap Ok (sym (append_assoc done (l ∷ []) ls))
  one_more done l (Err r) = refl

  module _ (items : List Sexpr) (k : ℕ) (x : Sexpr) (done : List LinearExpression) (whole : Read (List LinearExpression)) (at : slice_get items k ≡ Some x) (so : behind done (indices_at w (drop k items)) ≡ whole) where
    next_read : behind done (go_on (linear_at w x) (rest_behind (drop (k + 1) items))) ≡ whole
    next_read = ap (λ xs. behind done (indices_at w xs)) (sym (drop_at items k x at)) ∙ so

    -- an index is read
    pub index_read : (l : LinearExpression) → linear_at w x ≡ Ok l → behind (done ++ l ∷ []) (indices_at w (drop (k + 1) items)) ≡ whole
    index_read l is =
        sym (one_more done l (indices_at w (drop (k + 1) items)))
        ∙ ap (λ r. behind done (go_on r (rest_behind (drop (k + 1) items)))) (sym is)
        ∙ next_read

    -- an index has a fault
    pub index_fails : (f : Fault) → Fails f (linear_at w x) → Fails f whole
    index_fails f bad =
        let first = go_on (linear_at w x) (rest_behind (drop (k + 1) items)) in
        fails_on f first (λ ls. Ok (done ++ ls)) whole (sym next_read) (fails_on f (linear_at w x) (rest_behind (drop (k + 1) items)) first refl bad)

  -- three or four items, of which the first is `_`
  pub word_read : (h word : Sexpr) (items : List Sexpr) (mark : Sexpr) → 3 ≤ length items → length items ≤ 4 → slice_get items 0 ≡ Some mark → slice_get items 1 ≡ Some word → is_word (codes "_") mark ≡ true →
      indexed_head w h items ≡ indexed_by w h word (drop 2 items) (indexed_word_at word)
  word_read h word [] mark few many first second is = absurd (none-some mark first)
  word_read h word (a ∷ []) mark few many first second is = absurd (none-some word second)
  word_read h word (a ∷ b ∷ []) mark few many first second is = absurd (omega (arith, few))
  word_read h word (a ∷ b ∷ x ∷ []) mark few many first second is =
      rw (ap (is_word (codes "_")) (same_Some a mark first) ∙ is) (ap (λ v. indexed_by w h v (x ∷ []) (indexed_word_at v)) (same_Some b word second))
  word_read h word (a ∷ b ∷ x ∷ y ∷ []) mark few many first second is =
      rw (ap (is_word (codes "_")) (same_Some a mark first) ∙ is) (ap (λ v. indexed_by w h v (x ∷ y ∷ []) (indexed_word_at v)) (same_Some b word second))
  word_read h word (a ∷ b ∷ x ∷ y ∷ z ∷ xs) mark few many first second is = absurd (omega (arith, many))
