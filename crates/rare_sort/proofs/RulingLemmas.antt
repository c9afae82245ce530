-- What the code finds, family by family, is the ruling of the rule of sorts.
use Rattle.std.proofs.Common.{◌≡◌, ℕ, zero, suc, ◌+◌, ◌≤◌, ◌<◌, Bool, true, false, not, ◌&&◌, List, [], ◌∷◌, ◌++◌, length, zip, slice_get, refl, sym, ap, ◌∙◌, subst, arith, Option, Some, None, if◌then◌else◌, nat_eq, All}
use Rattle.std.specs.Prelude.{nat_le, pos, is_some}
use Rattle.std.specs.Option.{option_map, option_and_then}
use Rattle.std.proofs.lemmas.Option.{none-some, same_Some}
use Rattle.std.proofs.lemmas.Bool.Decides.{nat_tests}
use Rattle.rare_linear.specs.Linears.{LinearExpression, number, add}
use Rattle.rare_linear.specs.Entailment.{minus}
use Rattle.rare_linear.specs.EntailmentTest.{is_within, is_entailed}
use Rattle.rare_sort.specs.declared.declarations.Declarations.{Declarations}
use Rattle.rare_sort.specs.declared.family.Family.{Family}
use Rattle.rare_sort.specs.declared.family.Family.TheVariants as kind
use Rattle.rare_sort.specs.declared.family.Count.{Count}
use Rattle.rare_sort.specs.declared.family.Count.TheVariants as count
use Rattle.rare_sort.specs.declared.family.Basic.{Basic}
use Rattle.rare_sort.specs.declared.family.Basic.TheVariants as basic
use Rattle.rare_sort.specs.declared.family.Outcome.{Outcome}
use Rattle.rare_sort.specs.declared.family.Outcome.TheVariants as outcome
use Rattle.rare_sort.specs.declared.sort.Sort.{Sort, Bool as BoolSort, BitVec}
use Rattle.rare_sort.specs.declared.sort.Signature.{Signature}
use Rattle.rare_sort.specs.declared.ruling.Ruling.{Ruling}
use Rattle.rare_sort.specs.declared.ruling.Ruling.TheVariants.{Ill, Wide, Has}
use Rattle.rare_sort.specs.Sameness.{sort_eq}
use Rattle.rare_sort.specs.SortRules.{SortRule, gives, basic_sort, outcome_sort, each_is, counts, width, width_needs, array_parts, less_one, total_from, total, slice_needs, slice_width, product, sort_rule}
use Rattle.rare_sort.specs.DeclaredSorts.{follows, all_follow, is_sort}
use Rattle.rare_sort.specs.Rulings.{all_one, all_within, listed_width, sums_from, widths_of, ruled_by, ruled, ruling_of_family}
use Rattle.rare_sort.specs.inner.Within.{within, within_by, sum_with, summed, zero_width, formed_width, where_has, all_words, only_width, extract_of, extend_of, rotate_of, formed_product, repeat_of}
use Rattle.rare_sort.specs.Ids.{sorts_at}
use Rattle.rare_sort.specs.declared.tree.TermId.{TermId}
use Rattle.rare_sort.proofs.WithinLemmas.{none_follows}
use Rattle.rare_sort.proofs.NeedsLemmas.{both, needs_follow, width_fine}

and_true : (b : Bool) → (b && true) ≡ b
and_true true = refl
and_true false = refl

if_and_true : {X : Type 0} (b : Bool) (x y : X) → (if b then x else y) ≡ (if (b && true) then x else y)
if_and_true true x y = refl
if_and_true false x y = refl

-- ---- operators that form no width

module _ (d : Declarations) where
  bare : (s : Sort) (es : List (Sort × Sort)) (met : Bool) → all_follow d (width_needs s) ≡ true → met ≡ all_one es → where_has met s ≡ ruled_by d [] (gives s es [])
  bare s es met h e = ap (λ b. where_has b s) e ∙ go (all_one es) (all_follow d (width_needs s)) h
    where
      go : (t u : Bool) → u ≡ true → where_has t s ≡ (if (t && true) then (if u then (Has s) else Ill) else Ill)
      go true true h = refl
      go true false h = cc
      go false u h = refl

  basic_needs : (b : Basic) → all_follow d (width_needs (basic_sort b)) ≡ true
  basic_needs basic.Bool = refl
  basic_needs basic.Int = refl

  -- a bare rule that stands under a test
  under : (f : Family) (ss : List Sort) (t : Bool) (s : Sort) (es : List (Sort × Sort)) (met : Bool) → ((r : SortRule) → ruled d f ss (Some r) ≡ ruled_by d [] r) →
      all_follow d (width_needs s) ≡ true → met ≡ (t && all_one es) → where_has met s ≡ ruled d f ss (if t then (Some (gives s es [])) else None)
  under f ss true s es met plain h e = bare s es met h e ∙ sym (plain (gives s es []))
  under f ss false s es met plain h e = ap (λ b. where_has b s) e

  pub fixed_ruled : (c : Count) (a b : Basic) (ss : List Sort) (met : Bool) → met ≡ (counts c 2 (length ss) && all_one (each_is (basic_sort a) ss)) →
      where_has met (basic_sort b) ≡ ruling_of_family d (kind.Fixed c a b) [] ss
  fixed_ruled c a b ss met e = under (kind.Fixed c a b) ss (counts c 2 (length ss)) (basic_sort b) (each_is (basic_sort a) ss) met (λ r. refl) (basic_needs b) e

  pub alike_ruled : (s : Sort) (ss : List Sort) (met : Bool) → met ≡ (counts count.Several 2 (length (s ∷ ss)) && all_one (each_is s ss)) →
      where_has met BoolSort ≡ ruling_of_family d kind.Alike [] (s ∷ ss)
  alike_ruled s ss met e = under kind.Alike (s ∷ ss) (nat_le 2 (length (s ∷ ss))) BoolSort (each_is s ss) met (λ r. refl) refl e

  pub choice_ruled : (c s t : Sort) (met : Bool) → is_sort d s ≡ true → met ≡ (sort_eq c BoolSort && sort_eq t s) →
      where_has met s ≡ ruling_of_family d kind.Choice [] (c ∷ s ∷ t ∷ [])
  choice_ruled c s t met h e = bare s ((c, BoolSort) ∷ (t, s) ∷ []) met (needs_follow d s h) (e ∙ ap (λ b. sort_eq c BoolSort && b) (sym (and_true (sort_eq t s))))

  pub select_ruled : (m k a b : Sort) (met : Bool) → array_parts m ≡ Some (a, b) → is_sort d b ≡ true → met ≡ sort_eq k a →
      where_has met b ≡ ruling_of_family d kind.Select [] (m ∷ k ∷ [])
  select_ruled m k a b met is h e =
      bare b ((k, a) ∷ []) met (needs_follow d b h) (e ∙ sym (and_true (sort_eq k a))) ∙ ap (λ o. ruled d kind.Select (m ∷ k ∷ []) (option_map (λ p. gives p.1 ((k, p.0) ∷ []) []) o)) (sym is)

  pub select_none : (m k : Sort) → array_parts m ≡ None → Ill ≡ ruling_of_family d kind.Select [] (m ∷ k ∷ [])
  select_none m k is = ap (λ o. ruled d kind.Select (m ∷ k ∷ []) (option_map (λ p. gives p.1 ((k, p.0) ∷ []) []) o)) (sym is)

  pub store_ruled : (m k v a b : Sort) (met : Bool) → array_parts m ≡ Some (a, b) → is_sort d m ≡ true → met ≡ (sort_eq k a && sort_eq v b) →
      where_has met m ≡ ruling_of_family d kind.Store [] (m ∷ k ∷ v ∷ [])
  store_ruled m k v a b met is h e =
      bare m ((k, a) ∷ (v, b) ∷ []) met (needs_follow d m h) (e ∙ ap (λ t. sort_eq k a && t) (sym (and_true (sort_eq v b))))
      ∙ ap (λ o. ruled d kind.Store (m ∷ k ∷ v ∷ []) (option_map (λ p. gives m ((k, p.0) ∷ (v, p.1) ∷ []) []) o)) (sym is)

  pub store_none : (m k v : Sort) → array_parts m ≡ None → Ill ≡ ruling_of_family d kind.Store [] (m ∷ k ∷ v ∷ [])
  store_none m k v is = ap (λ o. ruled d kind.Store (m ∷ k ∷ v ∷ []) (option_map (λ p. gives m ((k, p.0) ∷ (v, p.1) ∷ []) []) o)) (sym is)

  pub one_follows : follows d (less_one (number (pos 1))) ≡ true
  unfolding follows is_entailed is_within
  one_follows = refl

  outcome_needs : (o : Outcome) (w : LinearExpression) → follows d (less_one w) ≡ true → all_follow d (width_needs (outcome_sort o w)) ≡ true
  outcome_needs outcome.SameWidth w h = ap (λ b. b && true) h
  outcome_needs outcome.OneBit w h = ap (λ b. b && true) one_follows
  outcome_needs outcome.Bool w h = refl

  pub words_ruled : (c : Count) (o : Outcome) (s : Sort) (ss : List Sort) (w : LinearExpression) (met : Bool) → width s ≡ Some w → is_sort d s ≡ true →
      met ≡ (counts c 2 (length (s ∷ ss)) && all_one (each_is s ss)) → where_has met (outcome_sort o w) ≡ ruling_of_family d (kind.BitVectors c o) [] (s ∷ ss)
  words_ruled c o s ss w met is h e =
      under (kind.BitVectors c o) (s ∷ ss) (counts c 2 (length (s ∷ ss))) (outcome_sort o w) (each_is s ss) met (λ r. refl) (outcome_needs o w (width_fine d s w h is).least) e
      ∙ ap (λ x. ruled d (kind.BitVectors c o) (s ∷ ss) (if counts c 2 (length (s ∷ ss)) then (option_map (λ w. gives (outcome_sort o w) (each_is s ss) []) x) else None)) (sym is)

  none_either : (f : Family) (ss : List Sort) (t : Bool) → Ill ≡ ruled d f ss (if t then None else None)
  none_either f ss true = refl
  none_either f ss false = refl

  pub words_none : (c : Count) (o : Outcome) (s : Sort) (ss : List Sort) → width s ≡ None → Ill ≡ ruling_of_family d (kind.BitVectors c o) [] (s ∷ ss)
  words_none c o s ss is =
      none_either (kind.BitVectors c o) (s ∷ ss) (counts c 2 (length (s ∷ ss)))
      ∙ ap (λ x. ruled d (kind.BitVectors c o) (s ∷ ss) (if counts c 2 (length (s ∷ ss)) then (option_map (λ w. gives (outcome_sort o w) (each_is s ss) []) x) else None)) (sym is)

  pub symbol_ruled : (k : ℕ) (g : Signature) (ss : List Sort) (met : Bool) → slice_get d.symbols k ≡ Some g → is_sort d g.gives ≡ true →
      met ≡ (nat_eq (length ss) (length g.args) && all_one (zip ss g.args)) → where_has met g.gives ≡ ruling_of_family d (kind.Symbol k) [] ss
  symbol_ruled k g ss met is h e =
      under (kind.Symbol k) ss (nat_eq (length ss) (length g.args)) g.gives (zip ss g.args) met (λ r. refl) (needs_follow d g.gives h) e
      ∙ ap (λ x. ruled d (kind.Symbol k) ss (option_and_then (λ g. if nat_eq (length ss) (length g.args) then (Some (gives g.gives (zip ss g.args) [])) else None) x)) (sym is)

  -- ---- operators that form a width

  -- bit vectors of a width that is formed where the needs are met
  formed : (w : LinearExpression) (ns : List LinearExpression) → (if all_follow d ns then (formed_width d (within w)) else Ill) ≡ ruled_by d (w ∷ []) (gives (BitVec w) [] ns)
  formed w ns = go (all_follow d ns) (is_within w)
    where
      go : (a b : Bool) → (if a then (formed_width d (within_by b w)) else Ill) ≡ (if a then (if (b && true) then (if (follows d (less_one w) && true) then (Has (BitVec w)) else Ill) else Wide) else Ill)
      go true true = if_and_true (follows d (less_one w)) (Has (BitVec w)) Ill
      go true false = refl
      go false b = refl

  need_one : (n : LinearExpression) (r : Ruling) → (if follows d n then r else Ill) ≡ (if all_follow d (n ∷ []) then r else Ill)
  need_one n r = if_and_true (follows d n) r Ill

  pub extract_ruled : (j i m : LinearExpression) (ss : List Sort) → only_width ss ≡ Some m → extract_of d j i m ≡ ruling_of_family d kind.Extract (j ∷ i ∷ []) ss
  extract_ruled j i m [] e = cc
  extract_ruled j i m (s ∷ []) e =
      formed (slice_width j i) (slice_needs j i m) ∙ ap (λ o. ruled d kind.Extract (s ∷ []) (option_map (λ m. gives (BitVec (slice_width j i)) [] (slice_needs j i m)) o)) (sym e)
  extract_ruled j i m (s ∷ t ∷ ss) e = cc

  pub extract_none : (j i : LinearExpression) (ss : List Sort) → only_width ss ≡ None → Ill ≡ ruling_of_family d kind.Extract (j ∷ i ∷ []) ss
  extract_none j i [] e = refl
  extract_none j i (s ∷ []) e = ap (λ o. ruled d kind.Extract (s ∷ []) (option_map (λ m. gives (BitVec (slice_width j i)) [] (slice_needs j i m)) o)) (sym e)
  extract_none j i (s ∷ t ∷ ss) e = refl

  pub extend_ruled : (k m : LinearExpression) (ss : List Sort) → only_width ss ≡ Some m → extend_of d k m ≡ ruling_of_family d kind.Extend (k ∷ []) ss
  extend_ruled k m [] e = cc
  extend_ruled k m (s ∷ []) e =
      need_one k (formed_width d (within (add m k))) ∙ formed (add m k) (k ∷ []) ∙ ap (λ o. ruled d kind.Extend (s ∷ []) (option_map (λ m. gives (BitVec (add m k)) [] (k ∷ [])) o)) (sym e)
  extend_ruled k m (s ∷ t ∷ ss) e = cc

  pub extend_none : (k : LinearExpression) (ss : List Sort) → only_width ss ≡ None → Ill ≡ ruling_of_family d kind.Extend (k ∷ []) ss
  extend_none k [] e = refl
  extend_none k (s ∷ []) e = ap (λ o. ruled d kind.Extend (s ∷ []) (option_map (λ m. gives (BitVec (add m k)) [] (k ∷ [])) o)) (sym e)
  extend_none k (s ∷ t ∷ ss) e = refl

  word_is : (s : Sort) (m : LinearExpression) → width s ≡ Some m → s ≡ BitVec m
  word_is (BitVec n) m e = ap BitVec (same_Some n m e)
  word_is s m e = absurd (none-some m e)

  pub rotate_ruled : (k m : LinearExpression) (ss : List Sort) → only_width ss ≡ Some m → follows d (less_one m) ≡ true → rotate_of d k m ≡ ruling_of_family d kind.Rotate (k ∷ []) ss
  rotate_ruled k m [] e h = cc
  rotate_ruled k m (s ∷ []) e h =
      go (follows d k) (follows d (less_one m)) h ∙ ap (λ x. ruled d kind.Rotate (x ∷ []) (Some (gives x [] (k ∷ [])))) (sym (word_is s m e)) ∙ ap (λ o. ruled d kind.Rotate (s ∷ []) (option_map (λ m. gives s [] (k ∷ [])) o)) (sym e)
    where
      go : (a b : Bool) → b ≡ true → (if a then (Has (BitVec m)) else Ill) ≡ (if (a && true) then (if (b && true) then (Has (BitVec m)) else Ill) else Ill)
      go true true h = refl
      go true false h = cc
      go false b h = refl
  rotate_ruled k m (s ∷ t ∷ ss) e h = cc

  pub rotate_none : (k : LinearExpression) (ss : List Sort) → only_width ss ≡ None → Ill ≡ ruling_of_family d kind.Rotate (k ∷ []) ss
  rotate_none k [] e = refl
  rotate_none k (s ∷ []) e = ap (λ o. ruled d kind.Rotate (s ∷ []) (option_map (λ m. gives s [] (k ∷ [])) o)) (sym e)
  rotate_none k (s ∷ t ∷ ss) e = refl

  repeat_by : (k : LinearExpression) (s : Sort) (o : Option LinearExpression) →
      (if follows d (less_one k) then (formed_product d o) else Ill) ≡ ruled d kind.Repeat (s ∷ []) (option_map (λ w. gives (BitVec w) [] (less_one k ∷ [])) o)
  repeat_by k s (Some w) = need_one (less_one k) (formed_width d (within w)) ∙ formed w (less_one k ∷ [])
  repeat_by k s None = go (follows d (less_one k))
    where
      go : (b : Bool) → (if b then Ill else Ill) ≡ Ill
      go true = refl
      go false = refl

  pub repeat_ruled : (k m : LinearExpression) (ss : List Sort) → only_width ss ≡ Some m → repeat_of d k m ≡ ruling_of_family d kind.Repeat (k ∷ []) ss
  repeat_ruled k m [] e = cc
  repeat_ruled k m (s ∷ []) e =
      repeat_by k s (product k m) ∙ ap (λ o. ruled d kind.Repeat (s ∷ []) (option_map (λ w. gives (BitVec w) [] (less_one k ∷ [])) (option_and_then (λ m. product k m) o))) (sym e)
  repeat_ruled k m (s ∷ t ∷ ss) e = cc

  pub repeat_none : (k : LinearExpression) (ss : List Sort) → only_width ss ≡ None → Ill ≡ ruling_of_family d kind.Repeat (k ∷ []) ss
  repeat_none k [] e = refl
  repeat_none k (s ∷ []) e = ap (λ o. ruled d kind.Repeat (s ∷ []) (option_map (λ w. gives (BitVec w) [] (less_one k ∷ [])) (option_and_then (λ m. product k m) o))) (sym e)
  repeat_none k (s ∷ t ∷ ss) e = refl

  -- ---- concat

  abbrev last_of : LinearExpression → List LinearExpression → LinearExpression
  last_of z [] = z
  last_of z (w ∷ ws) = last_of w ws

  abbrev sums : LinearExpression → List Sort → List LinearExpression
  sums z ss = sums_from z (widths_of ss)

  total_is : (z : LinearExpression) (ss : List Sort) → all_words ss ≡ true → total_from z ss ≡ Some (last_of z (sums z ss))
  total_is z [] e = refl
  total_is z (s ∷ ss) e = let x = both (is_some (width s)) (all_words ss) e in go (width s) x.0 (λ y. total_is y ss x.1)
    where
      go : (o : Option LinearExpression) → is_some o ≡ true → ((y : LinearExpression) → total_from y ss ≡ Some (last_of y (sums y ss))) →
          option_and_then (λ w. total_from (add z w) ss) o ≡ Some (last_of z (sums_from z (listed_width o ++ widths_of ss)))
      go (Some w) e ih = ih (add z w)
      go None e ih = cc

  total_none : (z : LinearExpression) (ss : List Sort) → all_words ss ≡ false → total_from z ss ≡ None
  total_none z [] e = cc
  total_none z (s ∷ ss) e = go (width s) e (λ y h. total_none y ss h)
    where
      go : (o : Option LinearExpression) → (is_some o && all_words ss) ≡ false → ((y : LinearExpression) → all_words ss ≡ false → total_from y ss ≡ None) →
          option_and_then (λ w. total_from (add z w) ss) o ≡ None
      go (Some w) e ih = ih (add z w) e
      go None e ih = refl

  abbrev if_within : List LinearExpression → LinearExpression → Option LinearExpression
  if_within ws w = if all_within ws then (Some w) else None

  summed_is : (z : LinearExpression) (ss : List Sort) → all_words ss ≡ true → summed z ss ≡ if_within (sums z ss) (last_of z (sums z ss))
  summed_is z [] e = refl
  summed_is z (s ∷ ss) e = let x = both (is_some (width s)) (all_words ss) e in go (width s) x.0 (λ y. summed_is y ss x.1)
    where
      by : (w : LinearExpression) (b : Bool) → ((y : LinearExpression) → summed y ss ≡ if_within (sums y ss) (last_of y (sums y ss))) →
          option_and_then (λ next. summed next ss) (within_by b (add z w)) ≡ (if (b && all_within (sums (add z w) ss)) then (Some (last_of (add z w) (sums (add z w) ss))) else None)
      by w true ih = ih (add z w)
      by w false ih = refl

      go : (o : Option LinearExpression) → is_some o ≡ true → ((y : LinearExpression) → summed y ss ≡ if_within (sums y ss) (last_of y (sums y ss))) →
          option_and_then (λ next. summed next ss) (sum_with o z) ≡ if_within (sums_from z (listed_width o ++ widths_of ss)) (last_of z (sums_from z (listed_width o ++ widths_of ss)))
      go (Some w) e ih = by w (is_within (add z w)) ih
      go None e ih = cc

  concat_by : (t : Bool) (ws : List LinearExpression) (w : LinearExpression) → t ≡ true →
      formed_width d (if_within ws w) ≡ (if t then (if all_within ws then (if (follows d (less_one w) && true) then (Has (BitVec w)) else Ill) else Wide) else Ill)
  concat_by true ws w e = go (all_within ws)
    where
      go : (b : Bool) → formed_width d (if b then (Some w) else None) ≡ (if b then (if (follows d (less_one w) && true) then (Has (BitVec w)) else Ill) else Wide)
      go true = if_and_true (follows d (less_one w)) (Has (BitVec w)) Ill
      go false = refl
  concat_by false ws w e = cc

  abbrev concat_rule : List Sort → Bool → Option LinearExpression → Ruling
  concat_rule ss t o = ruled d kind.Concat ss (if t then (option_map (λ w. gives (BitVec w) [] []) o) else None)

  concat_with : (ss : List Sort) (t : Bool) (w : LinearExpression) → t ≡ true → formed_width d (if_within (sums zero_width ss) w) ≡ concat_rule ss t (Some w)
  concat_with ss true w e = concat_by true (sums zero_width ss) w refl
  concat_with ss false w e = cc

  -- two or more bit vectors
  pub concat_ruled : (ss : List Sort) (o : Option LinearExpression) → nat_le 2 (length ss) ≡ true → all_words ss ≡ true → o ≡ summed zero_width ss →
      formed_width d o ≡ ruling_of_family d kind.Concat [] ss
  concat_ruled ss o two words e =
      ap (formed_width d) (e ∙ summed_is zero_width ss words)
      ∙ concat_with ss (nat_le 2 (length ss)) (last_of zero_width (sums zero_width ss)) two
      ∙ ap (concat_rule ss (nat_le 2 (length ss))) (sym (total_is zero_width ss words))

  -- less than two
  pub concat_few : (ss : List Sort) → nat_le 2 (length ss) ≡ false → Ill ≡ ruling_of_family d kind.Concat [] ss
  concat_few ss few = ap (λ t. concat_rule ss t (total ss)) (sym few)

  -- not all are bit vectors
  pub concat_other : (ss : List Sort) → all_words ss ≡ false → Ill ≡ ruling_of_family d kind.Concat [] ss
  concat_other ss e = none_either kind.Concat ss (nat_le 2 (length ss)) ∙ ap (concat_rule ss (nat_le 2 (length ss))) (sym (total_none zero_width ss e))

  none_by : (a b c : Bool) → b ≡ false → (a && (b && c)) ≡ false
  none_by true b c e = rw e refl
  none_by false b c e = refl

  -- a slice whose span leaves i128 is ill sorted
  pub slice_none : (j i m : LinearExpression) → within (minus j i) ≡ None → Ill ≡ extract_of d j i m
  slice_none j i m e =
      sym (ap (λ b. if b then (formed_width d (within (slice_width j i))) else Ill) (none_by (follows d i) (follows d (minus j i)) (follows d (minus (less_one m) j) && true) (none_follows d (minus j i) e)))

-- ---- lists

pub length_sorts_at : (ss : List Sort) (ids : List TermId) → length (sorts_at ss ids) ≡ length ids
length_sorts_at ss [] = refl
length_sorts_at ss (x ∷ xs) = ap suc (length_sorts_at ss xs)

pub at_place : {X : Type 0} (P : X → Type 0) (xs : List X) → All P xs → (k : ℕ) (x : X) → slice_get xs k ≡ Some x → P x
at_place P [] h k x e = absurd (none-some x e)
at_place P (y ∷ ys) h zero x e = subst P (same_Some y x e) (h zero y (omega arith))
at_place P (y ∷ ys) h (suc k) x e = at_place P ys (λ i d b. h (suc i) d (omega (arith, b))) k x e

pub no_pairs : (ss ws : List Sort) → length ws < 1 → all_one (zip ss ws) ≡ true
no_pairs [] ws h = refl
no_pairs (s ∷ ss) [] h = refl
no_pairs (s ∷ ss) (w ∷ ws) h = absurd (omega arith)
