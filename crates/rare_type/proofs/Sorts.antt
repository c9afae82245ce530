-- The sorts of applications, family by family.
use Rattle.std.proofs.Common.{◌≡◌, ℕ, Bool, true, false, not, ◌&&◌, List, [], ◌∷◌, length, Option, Some, None, Ok, Err, refl, sym, ap, ◌∙◌, if◌then◌else◌}
use Rattle.std.specs.Prelude.{nat_le, is_some}
use Rattle.std.specs.Option.{option_map, option_and_then}
use Rattle.rare_linear.specs.Linears.{LinearExpression, add}
use Rattle.rare_linear.specs.EntailmentTest.{is_within}
use Rattle.rare_linear.specs.PartialSums.{IsWithin}
use Rattle.rare_linear.proofs.EntailmentTestLemmas.{is_within-Decides}
use Rattle.rare_sort.specs.Rulings.{all_within, sums_from, widths_of}
use Rattle.rare_sort.specs.SortRules.{gives, width, total_from, total}
use Rattle.rare_sort.specs.declared.family.Family.TheVariants as kind
use Rattle.rare_sort.specs.declared.sort.Sort.{Sort, BitVec}
use Rattle.rare_sort.specs.inner.Within.{all_words, zero_width}
use Rattle.rare_type.specs.FirstCase.{unless}
use Rattle.rare_type.specs.declared.error.TypeError.TheVariants as case
use Rattle.rare_type.specs.inner.Steps.{bounded, all_bounded, summed_from, word_typed, ruled_sort, family_sort}

-- ---- sums of widths

-- what the sum from the left is, where all are bit vectors
record IsSum (z : LinearExpression) (ss : List Sort) : Type 0 where
  total : LinearExpression
  found : total_from z ss ≡ Some total
  summed : summed_from z ss ≡ unless case.TooLarge (not (all_within (sums_from z (widths_of ss)))) (Ok total)

sum_is : (z : LinearExpression) (ss : List Sort) → all_words ss ≡ true → IsSum z ss
sum_is z [] h = record { total = z; found = refl; summed = refl }
sum_is z (s ∷ ss) h = go (width s) refl h (λ m t. sum_is (add z m) ss t)
  where
    step : (m : LinearExpression) → width s ≡ Some m → IsSum (add z m) ss → (b : Bool) → is_within (add z m) ≡ b → IsSum z (s ∷ ss)
    step m is rest true e = record {
      total = rest.total;
      found = ap (option_and_then (λ w. total_from (add z w) ss)) is ∙ rest.found;
      summed = rw (is, e) rest.summed;
    }
    step m is rest false e = record {
      total = rest.total;
      found = ap (option_and_then (λ w. total_from (add z w) ss)) is ∙ rest.found;
      summed = rw (is, e) refl;
    }

    go : (o : Option LinearExpression) → width s ≡ o → (is_some o && all_words ss) ≡ true → ((m : LinearExpression) → all_words ss ≡ true → IsSum (add z m) ss) → IsSum z (s ∷ ss)
    go None is t f = cc
    go (Some m) is t f = step m is (f m t) (is_within (add z m)) refl

no_sum : (z : LinearExpression) (ss : List Sort) → all_words ss ≡ false → total_from z ss ≡ None
no_sum z [] h = cc
no_sum z (s ∷ ss) h = go (width s) h (λ m t. no_sum (add z m) ss t)
  where
    go : (o : Option LinearExpression) → (is_some o && all_words ss) ≡ false → ((m : LinearExpression) → all_words ss ≡ false → total_from (add z m) ss ≡ None) →
        option_and_then (λ w. total_from (add z w) ss) o ≡ None
    go None t f = refl
    go (Some m) t f = f m t

-- ---- concat

pub concat_clash : (least : ℕ) (ss : List Sort) → all_words ss ≡ false → family_sort least kind.Concat [] ss ≡ Err case.Clash
concat_clash least ss h =
    ap (λ o. ruled_sort kind.Concat ss (if nat_le least (length ss) then (option_map (λ w. gives (BitVec w) [] []) o) else None)) (no_sum zero_width ss h)
    ∙ go (nat_le least (length ss))
  where
    go : (b : Bool) → ruled_sort kind.Concat ss (if b then None else None) ≡ Err case.Clash
    go true = refl
    go false = refl

pub concat_joined : (least : ℕ) (ss : List Sort) → nat_le least (length ss) ≡ true → all_words ss ≡ true → family_sort least kind.Concat [] ss ≡ word_typed (summed_from zero_width ss)
concat_joined least ss few words =
    let s = sum_is zero_width ss words in
    ap (λ b. ruled_sort kind.Concat ss (if b then (option_map (λ w. gives (BitVec w) [] []) (total ss)) else None)) few
    ∙ ap (λ o. ruled_sort kind.Concat ss (option_map (λ w. gives (BitVec w) [] []) o)) s.found
    ∙ go s.total (all_within (sums_from zero_width (widths_of ss)))
    ∙ sym (ap word_typed s.summed)
  where
    go : (w : LinearExpression) (b : Bool) → unless case.TooLarge (not b) (Ok (BitVec w)) ≡ word_typed (unless case.TooLarge (not b) (Ok w))
    go w true = refl
    go w false = refl

-- ---- lists of what is asked

pub index_bounded : (k : LinearExpression) → IsWithin k → all_bounded (k ∷ []) ≡ Ok (k ∷ [])
index_bounded k h = ap (λ b. unless case.TooLarge (not (b && true)) (Ok (k ∷ []))) ((is_within-Decides k).1 h)

from_bounded : (e x : LinearExpression) → bounded e ≡ Ok x → (is_within e ≡ true) × (x ≡ e)
from_bounded e x h = go (is_within e) h
  where
    go : (b : Bool) → unless case.TooLarge (not b) (Ok e) ≡ Ok x → (b ≡ true) × (x ≡ e)
    go true t = (refl, cc)
    go false t = cc

pub three_bounded : (a b c x y : LinearExpression) → IsWithin a → bounded b ≡ Ok x → bounded c ≡ Ok y → all_bounded (a ∷ b ∷ c ∷ []) ≡ Ok (a ∷ x ∷ y ∷ [])
three_bounded a b c x y h p q =
    let s = from_bounded b x p in
    let t = from_bounded c y q in
    go (is_within a) (is_within b) (is_within c) ((is_within-Decides a).1 h) s.0 t.0 ∙ (λ i. Ok (a ∷ sym s.1 i ∷ sym t.1 i ∷ []))
  where
    go : (d e f : Bool) → d ≡ true → e ≡ true → f ≡ true → unless case.TooLarge (not (d && (e && (f && true)))) (Ok (a ∷ b ∷ c ∷ [])) ≡ Ok (a ∷ b ∷ c ∷ [])
    go true true true k l m = refl
    go true true false k l m = cc
    go true false f k l m = cc
    go false e f k l m = cc
