-- The numbers of names among parameters that grow.
use Rattle.std.proofs.Common.{◌≡◌, ℕ, suc, ◌+◌, Bool, true, false, cond, List, [], ◌∷◌, ◌++◌, map, length, bytes_eq, Option, Some, None, refl, sym, ap, ◌∙◌, arith}
use Rattle.std.specs.Prelude.{position, if◌then◌else◌}
use Rattle.std.specs.Option.{option_and_then}
use Rattle.std.specs.List.{list_any, position_from}
use Rattle.std.proofs.lemmas.Iterator.Adapters.{position_from-zero}
use Rattle.std.proofs.lemmas.Option.{none-some}
use Rattle.rare_sort.proofs.Options.{if_some, then_some}
use Rattle.rare_scope.specs.Reserved.{is_among}
use Rattle.rare_scope.proofs.ScopeLemmas.{either}
use Rattle.rare_rule.specs.Params.{kind_at}
use Rattle.rare_rule.specs.declared.param.Param.{Param}
use Rattle.rare_rule.specs.declared.param.ParamKind.{ParamKind}
use Rattle.rare_parse.specs.RuleNames.{number_of_name, number_where, size_of_kind, size_named}
use Rattle.rare_parse.proofs.FormPlaces.{kind_first}

-- ---- the first that passes

module _ {A : Type 0} (test : A → Bool) where
  from_first : (i : ℕ) (xs ys : List A) (k : ℕ) → position_from test i xs ≡ Some k → position_from test i (xs ++ ys) ≡ Some k
  from_first i [] ys k is = absurd (none-some k is)
  from_first i (x ∷ xs) ys k is = go (test x) is (λ later. from_first (i + 1) xs ys k later)
    where
      go : (b : Bool) → cond b (Some i) (position_from test (i + 1) xs) ≡ Some k → (position_from test (i + 1) xs ≡ Some k → position_from test (i + 1) (xs ++ ys) ≡ Some k) →
          cond b (Some i) (position_from test (i + 1) (xs ++ ys)) ≡ Some k
      go true is later = is
      go false is later = later is

  from_behind : (i : ℕ) (xs ys : List A) → position_from test i xs ≡ None → position_from test i (xs ++ ys) ≡ position_from test (i + length xs) ys
  from_behind i [] ys none = let n : i ≡ i + 0 = omega arith in ap (λ j. position_from test j ys) n
  from_behind i (x ∷ xs) ys none = go (test x) none (λ later. from_behind (i + 1) xs ys later)
    where
      go : (b : Bool) → cond b (Some i) (position_from test (i + 1) xs) ≡ None → (position_from test (i + 1) xs ≡ None → position_from test (i + 1) (xs ++ ys) ≡ position_from test (i + 1 + length xs) ys) →
          cond b (Some i) (position_from test (i + 1) (xs ++ ys)) ≡ position_from test (i + suc (length xs)) ys
      go true is later = absurd (none-some i (sym is))
      go false is later = let n : i + 1 + length xs ≡ i + suc (length xs) = omega arith in later is ∙ ap (λ j. position_from test j ys) n

  by_steps : (xs : List A) → position test xs ≡ position_from test 0 xs
  by_steps xs = position_from-zero test xs

  position_first : (xs ys : List A) (k : ℕ) → position test xs ≡ Some k → position test (xs ++ ys) ≡ Some k
  position_first xs ys k is = by_steps (xs ++ ys) ∙ from_first 0 xs ys k (sym (by_steps xs) ∙ is)

  position_behind : (xs : List A) (y : A) → position test xs ≡ None → position test (xs ++ y ∷ []) ≡ cond (test y) (Some (length xs)) None
  position_behind xs y none =
      let n : 0 + length xs ≡ length xs = omega arith in
      by_steps (xs ++ y ∷ []) ∙ from_behind 0 xs (y ∷ []) (sym (by_steps xs) ∙ none) ∙ ap (λ j. position_from test j (y ∷ [])) n

-- ---- names

module _ (ps qs : List Param) (text : List ℕ) where
  pub number_first : (k : ℕ) → number_of_name ps text ≡ Some k → number_of_name (ps ++ qs) text ≡ Some k
  number_first k is = position_first (λ p. bytes_eq text p.name) ps qs k is

  -- the number of a name and its kind are the same among more
  pub where_first : (test : Option ParamKind → Bool) (d : ParamKind) (k : ℕ) → number_of_name ps text ≡ Some k → kind_at ps k ≡ Some d → number_where test (ps ++ qs) text ≡ number_where test ps text
  where_first test d k is kind =
      let last : number_where test (ps ++ qs) text ≡ (if test (kind_at (ps ++ qs) k) then (Some k) else None) = ap (option_and_then (λ k. if test (kind_at (ps ++ qs) k) then (Some k) else None)) (number_first k is) in
      let old : number_where test ps text ≡ (if test (kind_at ps k) then (Some k) else None) = ap (option_and_then (λ k. if test (kind_at ps k) then (Some k) else None)) is in
      last ∙ ap (λ (o : Option ParamKind). if test o then (Some k) else None) (kind_first ps qs k d kind ∙ sym kind) ∙ sym old

  pub size_same : (d : ParamKind) (k : ℕ) → number_of_name ps text ≡ Some k → kind_at ps k ≡ Some d → size_named (ps ++ qs) text ≡ size_of_kind k (Some d)
  size_same d k is kind =
      ap (option_and_then (λ k. size_of_kind k (kind_at (ps ++ qs) k))) (number_first k is) ∙ ap (size_of_kind k) (kind_first ps qs k d kind)

-- the name of the last
pub number_behind : (ps : List Param) (p : Param) (text : List ℕ) → number_of_name ps text ≡ None → number_of_name (ps ++ p ∷ []) text ≡ cond (bytes_eq text p.name) (Some (length ps)) None
number_behind ps p text none = position_behind (λ p. bytes_eq text p.name) ps p none

-- ---- numbers that are found

-- the number of a name of such a kind
pub where_is : (test : Option ParamKind → Bool) (ps : List Param) (text : List ℕ) (k : ℕ) → number_where test ps text ≡ Some k → (number_of_name ps text ≡ Some k) × (test (kind_at ps k) ≡ true)
where_is test ps text k is =
    let found = then_some (λ j. if test (kind_at ps j) then (Some j) else None) (number_of_name ps text) k is in
    let good = if_some (test (kind_at ps found.0)) found.0 k found.2 in
    (found.1 ∙ ap Some good.1, ap (λ j. test (kind_at ps j)) (sym good.1) ∙ good.0)

pub where_so : (test : Option ParamKind → Bool) (ps : List Param) (text : List ℕ) (k : ℕ) (d : ParamKind) → number_of_name ps text ≡ Some k → kind_at ps k ≡ Some d → test (Some d) ≡ true → number_where test ps text ≡ Some k
where_so test ps text k d is kind passes =
    ap (option_and_then (λ j. if test (kind_at ps j) then (Some j) else None)) is ∙ ap (λ (o : Option ParamKind). if test o then (Some k) else None) kind ∙ ap (λ b. if b then (Some k) else None) passes

-- ---- names that are new

none_from : (i : ℕ) (ps : List Param) (text : List ℕ) → is_among (map (λ p. p.name) ps) text ≡ false → position_from (λ (p : Param). bytes_eq text p.name) i ps ≡ None
none_from i [] text none = refl
none_from i (p ∷ ps) text none =
    let parts = either (bytes_eq text p.name) (list_any (bytes_eq text) (map (λ p. p.name) ps)) none in
    ap (λ b. cond b (Some i) (position_from (λ (p : Param). bytes_eq text p.name) (i + 1) ps)) parts.0 ∙ none_from (i + 1) ps text parts.1

-- a name that stands nowhere has no number
pub none_among : (ps : List Param) (text : List ℕ) → is_among (map (λ p. p.name) ps) text ≡ false → number_of_name ps text ≡ None
none_among ps text none = by_steps (λ p. bytes_eq text p.name) ps ∙ none_from 0 ps text none
