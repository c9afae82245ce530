-- The value of an application by the limits alone.
use Rattle.std.proofs.Common.{◌≡◌, ℕ, ◌≤◌, Bool, true, false, not, ◌&&◌, ◌||◌, List, [], ◌∷◌, map, Option, Some, None, refl, sym, ap, ◌∙◌}
use Rattle.std.proofs.lemmas.Bool.{le-leb}
use Rattle.std.specs.Prelude.{ℤ, unsigned_abs, nat_le, if◌then◌else◌}
use Rattle.rare_sort.specs.declared.head.Head.{Head}
use Rattle.rare_sort.specs.declared.head.Head.TheVariants as head
use Rattle.rare_meaning.specs.Settings.{Item}
use Rattle.rare_meaning.specs.Operators.{truth, bits}
use Rattle.rare_wide.specs.Widths.{most_bits}
use Rattle.rare_eval.specs.Evaluation.{GREATEST_WHOLE, is_in_limits, all_in_limits, operator_item, is_open, is_left_associative, prefixes, steps_of, evaluated}
use Rattle.rare_eval.specs.Limited.{IsLimited}
use Rattle.rare_eval.specs.ValueItems.{value_item}
use Rattle.rare_eval.specs.declared.values.Value.{Value as Held}
use Rattle.rare_eval.specs.declared.values.Value.TheVariants as held
use Rattle.rare_eval.specs.inner.Cut.{limited}
use Rattle.rare_eval.specs.inner.Groups.{is_on_words, is_word_test, is_on_bits}

-- of an operator that is not left associative the whole result alone is tested
pub evaluated_plain : (h : Head) (ns : List ℤ) (is : List Item) → is_open h is ≡ false → is_left_associative h ≡ false →
    evaluated h (Some ns) (Some is) ≡ limited (operator_item h ns is)
evaluated_plain h ns is o l =
    ap (λ b. if (not b && all_in_limits (map (operator_item h ns) (steps_of h is))) then (Some (operator_item h ns is)) else None) o
    ∙ ap (λ b. if all_in_limits (map (operator_item h ns) (if b then (prefixes is) else (is ∷ []))) then (Some (operator_item h ns is)) else None) l
    ∙ last (is_in_limits (operator_item h ns is).value) (Some (operator_item h ns is))
  where
    last : (b : Bool) (x : Option Item) → (if (b && true) then x else None) ≡ (if b then x else None)
    last true x = refl
    last false x = refl

pub bits_are_plain : (h : Head) → is_on_bits h ≡ true → (is : List Item) → (is_open h is ≡ false) × (is_left_associative h ≡ false)
bits_are_plain (head.Free k) p is = cc
bits_are_plain (head.Param k) p is = cc
bits_are_plain head.Hole p is = cc
bits_are_plain head.Select p is = cc
bits_are_plain head.Store p is = cc
bits_are_plain head.Div p is = cc
bits_are_plain head.Mod p is = cc
bits_are_plain head.Xor p is = cc
bits_are_plain head.Minus p is = cc
bits_are_plain head.Add p is = cc
bits_are_plain head.Mul p is = cc
bits_are_plain h p is = (refl, refl)

pub bits_in_limits : (w n : ℕ) → 1 ≤ w → w ≤ most_bits → is_in_limits (bits w n).value ≡ true
bits_in_limits w n low high = ap (λ b. b && nat_le w most_bits) (le-leb 1 w low) ∙ le-leb w most_bits high

second : (a b : Bool) → a ≡ false → (a || b) ≡ true → b ≡ true
second false b e h = h
second true b e h = cc

pub bits_cases : (h : Head) → is_on_bits h ≡ true → (h ≡ head.BvComp → ⊥) → (h ≡ head.Concat → ⊥) → is_word_test h ≡ false → is_on_words h ≡ true
bits_cases head.BvComp p a b t = absurd (a refl)
bits_cases head.Concat p a b t = absurd (b refl)
bits_cases h p a b t = second (is_word_test h) (is_on_words h) t p

-- a result with its limits met
pub evaluated_bits : (h : Head) (ns : List ℤ) (is : List Item) (x : Item) → is_on_bits h ≡ true → is_in_limits x.value ≡ true → operator_item h ns is ≡ x →
    evaluated h (Some ns) (Some is) ≡ Some x
evaluated_bits h ns is x p l e =
    let q = bits_are_plain h p is in
    evaluated_plain h ns is q.0 q.1 ∙ ap limited e ∙ ap (λ b. if b then (Some x) else None) l

test_is_on_bits : (h : Head) → is_word_test h ≡ true → is_on_bits h ≡ true
test_is_on_bits head.BvComp t = cc
test_is_on_bits head.Concat t = cc
test_is_on_bits h t = ap (λ b. b || is_on_words h) t

some_is : (x y : Item) → Some x ≡ Some y → x ≡ y
some_is x y e = cc

-- the comparison that was computed is the value
pub test_value : (h : Head) (ns : List ℤ) (is : List Item) (t : Bool) → is_word_test h ≡ true → Some (truth t) ≡ Some (operator_item h ns is) → evaluated h (Some ns) (Some is) ≡ Some (truth t)
test_value h ns is t p e = evaluated_bits h ns is (truth t) (test_is_on_bits h p) refl (sym (some_is (truth t) (operator_item h ns is) e))

pub word_value : (h : Head) (ns : List ℤ) (is : List Item) (w n : ℕ) → is_on_bits h ≡ true → 1 ≤ w → w ≤ most_bits → Some (bits w n) ≡ Some (operator_item h ns is) →
    evaluated h (Some ns) (Some is) ≡ Some (bits w n)
word_value h ns is w n p low high e = evaluated_bits h ns is (bits w n) p (bits_in_limits w n low high) (sym (some_is (bits w n) (operator_item h ns is) e))

pub limited_in_limits : (v : Held) → IsLimited v → is_in_limits (value_item v).value ≡ true
limited_in_limits (held.Truth b) h = refl
limited_in_limits (held.Whole z) h = le-leb (unsigned_abs z) GREATEST_WHOLE h
limited_in_limits (held.Bits w n) h = bits_in_limits w n h.low h.high
