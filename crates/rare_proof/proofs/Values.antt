-- How values with their sorts are told apart.
use Rattle.std.proofs.Common.{◌≡◌, Bool, true, false, ◌&&◌, Decides, nat_eq, Option, Some, None, refl, sym, ap, ◌∙◌}
use Rattle.std.specs.Option.{option_eq}
use Rattle.std.proofs.lemmas.Bool.{and_parts}
use Rattle.std.proofs.lemmas.Bool.Decides.{same_from_decides, Decides-eqb, Decides-int_eq}
use Rattle.std.specs.Cmp.{booleans_Decides}
use Rattle.rare_meaning.specs.Settings.{Item, item}
use Rattle.rare_meaning.specs.Values.{ClosedSort, Truths, Wholes, BitVectors, Elements, Arrays, truth_of, whole_of, bits_number, width_of}
use Rattle.rare_meaning.proofs.ValueLemmas.{value_eq-true, value_eq_refl}
use Rattle.rare_eval.specs.ValueItems.{value_item}
use Rattle.rare_eval.specs.contracts.values.ValuePartialEq.TheImpl.{eq-value}
use Rattle.rare_eval.specs.declared.values.Value.{Value}
use Rattle.rare_eval.specs.declared.values.Value.TheVariants as value
use Rattle.rare_proof.specs.Items.{closed_sort_eq, item_eq}

and_both : (b c : Bool) → b ≡ true → c ≡ true → (b && c) ≡ true
and_both true c p q = q
and_both false c p q = cc

same_sort : (s t : ClosedSort) → closed_sort_eq s t ≡ true → s ≡ t
same_sort Truths Truths e = refl
same_sort Wholes Wholes e = refl
same_sort (BitVectors m) (BitVectors n) e = ap BitVectors ((Decides-eqb m n).0 e)
same_sort (Elements s) (Elements t) e = ap Elements ((Decides-eqb s t).0 e)
same_sort (Arrays k e) (Arrays l f) h =
    let parts = and_parts (closed_sort_eq k l) (closed_sort_eq e f) h in
    let keys = same_sort k l parts.0 in
    let entries = same_sort e f parts.1 in
    λ i. Arrays (keys i) (entries i)
same_sort _ _ e = cc

sort_refl : (s : ClosedSort) → closed_sort_eq s s ≡ true
sort_refl Truths = refl
sort_refl Wholes = refl
sort_refl (BitVectors n) = (Decides-eqb n n).1 refl
sort_refl (Elements s) = (Decides-eqb s s).1 refl
sort_refl (Arrays k e) = and_both (closed_sort_eq k k) (closed_sort_eq e e) (sort_refl k) (sort_refl e)

pub same_item : (i j : Item) → item_eq i j ≡ true → i ≡ j
same_item i j e =
    let parts = and_parts (closed_sort_eq i.sort j.sort) _ e in
    let s : i.sort ≡ j.sort = same_sort i.sort j.sort parts.0 in
    let v : i.value ≡ j.value = value_eq-true i.value j.value parts.1 in
    λ k. item (s k) (v k)

item_refl : (i : Item) → item_eq i i ≡ true
item_refl i = and_both _ _ (sort_refl i.sort) (value_eq_refl i.value)

-- values that code holds
same_held : (v w : Value) → value_item v ≡ value_item w → v ≡ w
same_held (value.Truth a) (value.Truth b) e = ap value.Truth (ap (λ i. truth_of i.value) e)
same_held (value.Whole a) (value.Whole b) e = ap (λ z. value.Whole z) (ap (λ i. whole_of i.value) e)
same_held (value.Bits v a) (value.Bits w b) e =
    let width : v ≡ w = ap (λ i. width_of i.sort) e in
    let number : a ≡ b = ap (λ i. bits_number i.value) e in
    λ k. value.Bits (width k) (number k)
same_held _ _ e = absurd (let q = ap (λ i. i.sort) e in let never : ⊥ = cc in never)

-- their derived comparison
held_eq-Decides : (v w : Value) → Decides (eq-value.it v w) (v ≡ w)
held_eq-Decides (value.Truth a) (value.Truth b) =
    let d = booleans_Decides a b in (λ e. ap value.Truth (d.0 e), λ e. d.1 (ap (λ x. truth_of (value_item x).value) e))
held_eq-Decides (value.Whole a) (value.Whole b) =
    let d = Decides-int_eq a b in (λ e. ap (λ z. value.Whole z) (d.0 e), λ e. d.1 (ap (λ x. whole_of (value_item x).value) e))
held_eq-Decides (value.Bits v a) (value.Bits w b) =
    let width = Decides-eqb v w in
    let number = Decides-eqb a b in (
      λ e.
          let parts = and_parts (nat_eq v w) (nat_eq a b) e in
          let p : v ≡ w = width.0 parts.0 in
          let q : a ≡ b = number.0 parts.1 in
          λ i. value.Bits (p i) (q i),
      λ e. and_both (nat_eq v w) (nat_eq a b) (width.1 (ap (λ x. width_of (value_item x).sort) e)) (number.1 (ap (λ x. bits_number (value_item x).value) e)),
    )
held_eq-Decides _ _ = (λ e. cc, λ e. cc)

pub values_same : (v w : Value) (r : Bool) → r ≡ eq-value.it v w → r ≡ item_eq (value_item v) (value_item w)
values_same v w r e =
    e ∙ same_from_decides (eq-value.it v w) (item_eq (value_item v) (value_item w)) (held_eq-Decides v w)
    (λ h. same_held v w (same_item (value_item v) (value_item w) h), λ h. ap (λ x. item_eq (value_item v) (value_item x)) (sym h) ∙ item_refl (value_item v))

-- where both are there and alike, they are one
pub same_answers : (x y : Option Item) → option_eq item_eq x y ≡ true → (i : Item) → x ≡ Some i → y ≡ Some i
same_answers None y h i e = cc
same_answers (Some j) None h i e = cc
same_answers (Some j) (Some k) h i e = ap Some (sym (same_item j k h)) ∙ e
