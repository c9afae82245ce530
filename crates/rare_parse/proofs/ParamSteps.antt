-- The steps of a reading of parameters.
use Rattle.std.proofs.Common.{◌≡◌, ℕ, ◌+◌, ◌≤◌, Bool, true, false, List, [], ◌∷◌, ◌++◌, map, drop, length, length-append, slice_get, Option, Some, None, Ok, refl, sym, ap, ◌∙◌, arith, if◌then◌else◌, option_map}
use Rattle.std.specs.Prelude.{◌||◌, bytes_eq}
use Rattle.std.proofs.lemmas.Option.{none-some, same_Some}
use Rattle.rare_base.specs.declared.answers.Fault.{Fault}
use Rattle.rare_base.specs.declared.answers.Reason.TheVariants as reason
use Rattle.rare_sexpr.specs.declared.tree.Sexpr.{Sexpr}
use Rattle.rare_sexpr.specs.Tree.{items_of, kind_of, text_of}
use Rattle.rare_sort.specs.declared.sort.Sort.{Sort}
use Rattle.rare_scope.specs.Answers.{Fails}
use Rattle.rare_scope.specs.Entries.{entry}
use Rattle.rare_scope.specs.Reading.{Read, refused, go_on, is_list_kind, is_symbol_kind, symbol_at}
use Rattle.rare_scope.specs.Reserved.{is_among}
use Rattle.rare_scope.proofs.InOrder.{fails_on, goes_on}
use Rattle.rare_scope.proofs.Listing.{drop_at, drop_all}
use Rattle.rare_rule.specs.ParamForms.{NO_NAMES}
use Rattle.rare_rule.specs.declared.param.Param.{Param}
use Rattle.rare_rule.specs.declared.param.ParamKind.TheVariants as kind
use Rattle.rare_parse.specs.ParamText.{WrittenKind, WrittenParam, bringing, kind_words, kind_or, kind_at, new_name, param_name, written, param_of, param_at, params_from, params_at}
use Rattle.rare_parse.specs.RuleSortText.{rule_sort_at}
use Rattle.rare_parse.specs.declared.params.KindWord.{KindWord}
use Rattle.rare_parse.specs.inner.ParamReading.{words, kind_of_word, kind_word_at, from_parts, listed}

-- ---- kinds

entry_map : {A B : Type 0} (f : A → B) (ws : List (List ℕ × A)) (text : List ℕ) → entry (map (λ w. (w.0, f w.1)) ws) text ≡ option_map f (entry ws text)
entry_map f [] text = refl
entry_map f (w ∷ ws) text = go (bytes_eq text w.0) (entry_map f ws text)
  where
    go : (b : Bool) → entry (map (λ w. (w.0, f w.1)) ws) text ≡ option_map f (entry ws text) →
        (if b then Some (f w.1) else entry (map (λ w. (w.0, f w.1)) ws) text) ≡ option_map f (if b then Some w.1 else entry ws text)
    go true rest = refl
    go false rest = rest

by_words : (fresh : ℕ) (b : Bool) (text : List ℕ) → (if b then entry (kind_words fresh) text else None) ≡ option_map (kind_of_word fresh) (if b then entry words text else None)
by_words fresh true text = entry_map (kind_of_word fresh) words text
by_words fresh false text = refl

module _ (fresh : ℕ) (before : List Param) (s : Sexpr) where
  kind_out : kind_at fresh before s ≡ kind_or (option_map (kind_of_word fresh) (kind_word_at s)) (rule_sort_at before s)
  kind_out = ap (λ o. kind_or o (rule_sort_at before s)) (by_words fresh (is_symbol_kind (kind_of s)) (text_of s))

  pub kind_by_word : (w : KindWord) → kind_word_at s ≡ Some w → kind_at fresh before s ≡ Ok (kind_of_word fresh w)
  kind_by_word w is = kind_out ∙ ap (λ o. kind_or (option_map (kind_of_word fresh) o) (rule_sort_at before s)) is

  no_word : kind_word_at s ≡ None → kind_at fresh before s ≡ go_on (rule_sort_at before s) (λ t. Ok (bringing (kind.Term t) None))
  no_word is = kind_out ∙ ap (λ o. kind_or (option_map (kind_of_word fresh) o) (rule_sort_at before s)) is

  pub kind_by_sort : (t : Sort) → kind_word_at s ≡ None → rule_sort_at before s ≡ Ok t → kind_at fresh before s ≡ Ok (bringing (kind.Term t) None)
  kind_by_sort t is read = goes_on (rule_sort_at before s) t (λ t. Ok (bringing (kind.Term t) None)) (kind_at fresh before s) (no_word is) read

  pub sort_fails : (f : Fault) → kind_word_at s ≡ None → Fails f (rule_sort_at before s) → Fails f (kind_at fresh before s)
  sort_fails f is bad = fails_on f (rule_sort_at before s) (λ t. Ok (bringing (kind.Term t) None)) (kind_at fresh before s) (no_word is) bad

-- ---- names

pub among_both : (xs ys : List (List ℕ)) (text : List ℕ) → is_among (xs ++ ys) text ≡ (is_among xs text || is_among ys text)
among_both [] ys text = refl
among_both (x ∷ xs) ys text = go (bytes_eq text x) (among_both xs ys text)
  where
    go : (b : Bool) → is_among (xs ++ ys) text ≡ (is_among xs text || is_among ys text) → (b || is_among (xs ++ ys) text) ≡ ((b || is_among xs text) || is_among ys text)
    go true rest = refl
    go false rest = rest

module _ (before : List Param) (n : Sexpr) where
  module _ (text : List ℕ) (is : symbol_at n ≡ Ok text) where
    named : param_name before n ≡ new_name before n text
    named = goes_on (symbol_at n) text (λ text. new_name before n text) (param_name before n) refl is

    pub name_taken : is_among (NO_NAMES ++ map (λ p. p.name) before) text ≡ true → param_name before n ≡ refused n reason.DuplicateParam
    name_taken t = named ∙ ap (λ b. if b then (refused n reason.DuplicateParam) else Ok text) t

    pub name_new : is_among (NO_NAMES ++ map (λ p. p.name) before) text ≡ false → param_name before n ≡ Ok text
    name_new t = named ∙ ap (λ b. if b then (refused n reason.DuplicateParam) else Ok text) t

  pub name_fails : (f : Fault) → Fails f (symbol_at n) → Fails f (param_name before n)
  name_fails f bad = fails_on f (symbol_at n) (λ text. new_name before n text) (param_name before n) refl bad

-- ---- a parameter

module _ (fresh : ℕ) (before : List Param) (n s : Sexpr) where
  pub first_fails : (f : Fault) → Fails f (param_name before n) → Fails f (from_parts fresh before n s)
  first_fails f bad = fails_on f (param_name before n) (λ text. go_on (kind_at fresh before s) (λ k. Ok (written text k))) (from_parts fresh before n s) refl bad

  module _ (text : List ℕ) (is : param_name before n ≡ Ok text) where
    behind : from_parts fresh before n s ≡ go_on (kind_at fresh before s) (λ k. Ok (written text k))
    behind = goes_on (param_name before n) text (λ text. go_on (kind_at fresh before s) (λ k. Ok (written text k))) (from_parts fresh before n s) refl is

    pub second_fails : (f : Fault) → Fails f (kind_at fresh before s) → Fails f (from_parts fresh before n s)
    second_fails f bad = fails_on f (kind_at fresh before s) (λ k. Ok (written text k)) (from_parts fresh before n s) behind bad

    pub both_read : (k : WrittenKind) → kind_at fresh before s ≡ Ok k → from_parts fresh before n s ≡ Ok (written text k)
    both_read k read = goes_on (kind_at fresh before s) k (λ k. Ok (written text k)) (from_parts fresh before n s) behind read

module _ (fresh : ℕ) (before : List Param) (e : Sexpr) where
  pub other_param : ¬ (length (items_of e) ≡ 2) → param_at fresh before e ≡ refused e reason.BadForm
  other_param ne = go (items_of e) ne
    where
      go : (xs : List Sexpr) → ¬ (length xs ≡ 2) → param_of fresh before e xs ≡ refused e reason.BadForm
      go [] ne = refl
      go (a ∷ []) ne = refl
      go (a ∷ b ∷ []) ne = absurd (ne refl)
      go (a ∷ b ∷ c ∷ xs) ne = refl

  pub two_items : (n s : Sexpr) → length (items_of e) ≡ 2 → slice_get (items_of e) 0 ≡ Some n → slice_get (items_of e) 1 ≡ Some s → param_at fresh before e ≡ from_parts fresh before n s
  two_items n s len p q = go (items_of e) len p q
    where
      go : (xs : List Sexpr) → length xs ≡ 2 → slice_get xs 0 ≡ Some n → slice_get xs 1 ≡ Some s → param_of fresh before e xs ≡ from_parts fresh before n s
      go [] len p q = absurd (none-some n p)
      go (a ∷ []) len p q = absurd (none-some s q)
      go (a ∷ b ∷ []) len p q = ap (λ z. from_parts fresh before z b) (same_Some a n p) ∙ ap (λ z. from_parts fresh before n z) (same_Some b s q)
      go (a ∷ b ∷ c ∷ xs) len p q = absurd (omega (arith, len))

-- ---- the list

module _ (first : ℕ) (declared fresh : List Param) (e x : Sexpr) (k : ℕ) (whole : Read (List Param)) (at : slice_get (items_of e) k ≡ Some x) (so : params_from first declared fresh (drop k (items_of e)) ≡ whole) where
  next : whole ≡ go_on (param_at (first + length fresh) declared x) (λ p. params_from first (declared ++ p.param ∷ []) (fresh ++ p.brings) (drop (k + 1) (items_of e)))
  next = sym so ∙ ap (params_from first declared fresh) (drop_at (items_of e) k x at)

  pub param_fails : (f : Fault) → Fails f (param_at (first + length fresh) declared x) → Fails f whole
  param_fails f bad = fails_on f (param_at (first + length fresh) declared x) (λ p. params_from first (declared ++ p.param ∷ []) (fresh ++ p.brings) (drop (k + 1) (items_of e))) whole next bad

  pub param_kept : (p : WrittenParam) → param_at (first + length fresh) declared x ≡ Ok p → params_from first (declared ++ p.param ∷ []) (fresh ++ p.brings) (drop (k + 1) (items_of e)) ≡ whole
  param_kept p read = sym (goes_on (param_at (first + length fresh) declared x) p (λ p. params_from first (declared ++ p.param ∷ []) (fresh ++ p.brings) (drop (k + 1) (items_of e))) whole next read)

pub all_read : (first : ℕ) (declared fresh : List Param) (e : Sexpr) (k : ℕ) (whole : Read (List Param)) → length (items_of e) ≤ k → params_from first declared fresh (drop k (items_of e)) ≡ whole → whole ≡ Ok (declared ++ fresh)
all_read first declared fresh e k whole le so = sym so ∙ ap (params_from first declared fresh) (drop_all (items_of e) k le)

pub no_list : (e : Sexpr) → is_list_kind (kind_of e) ≡ false → params_at e ≡ refused e reason.BadForm
no_list e is = ap (λ b. if b then params_from (length (items_of e)) [] [] (items_of e) else (refused e reason.BadForm)) is

pub list_read : (e : Sexpr) → is_list_kind (kind_of e) ≡ true → params_from (length (items_of e)) [] [] (items_of e) ≡ params_at e
list_read e is = sym (ap (λ b. if b then params_from (length (items_of e)) [] [] (items_of e) else (refused e reason.BadForm)) is)

pub pushed_one : (ps : List Param) (p : Param) (k : ℕ) → length ps ≡ k → length (ps ++ p ∷ []) ≡ k + 1
pushed_one ps p k is = omega (arith, length-append ps (p ∷ []), is)

pub pushed_some : (ps : List Param) (o : Option Param) (k : ℕ) → length ps ≤ k → length (ps ++ listed o) ≤ k + 1
pushed_some ps None k le = omega (arith, length-append ps [], le)
pushed_some ps (Some p) k le = omega (arith, length-append ps (p ∷ []), le)
