-- One argument more.
use Rattle.std.proofs.Common.{◌≡◌, ℕ, ◌≤◌, Bool, true, false, not, ◌&&◌, ◌||◌, List, [], ◌∷◌, ◌++◌, length, length-append, inl, inr, Option, Some, None, refl, sym, ap, ◌∙◌, subst, arith, append_assoc}
use Rattle.std.specs.Prelude.{ℤ}
use Rattle.rare_sort.specs.Each.{Each}
use Rattle.rare_sort.specs.declared.head.Head.{Head}
use Rattle.rare_sort.specs.declared.head.Head.TheVariants as head
use Rattle.rare_meaning.specs.Values.{Value, Truth, Truths, truth_of}
use Rattle.rare_meaning.specs.Settings.{Item, item}
use Rattle.rare_meaning.specs.Splicing.{from_right, values, each_pair, equals_any, all_differ}
use Rattle.rare_meaning.specs.Operators.{truth, bits, implies_value}
use Rattle.rare_eval.specs.Evaluation.{evaluated, operator_item}
use Rattle.rare_eval.specs.inner.Suits.{Suits, IsTruthItem}
use Rattle.rare_eval.specs.inner.Progress.{is_chain, neighbour_test, link_test, chained, IsAfter}
use Rattle.rare_eval.specs.ValueItems.{value_item}
use Rattle.rare_eval.specs.declared.values.Value.{Value as Held}
use Rattle.rare_eval.specs.declared.progress.Progress.TheVariants as progress
use Rattle.rare_eval.proofs.FoldLemmas.{is_fold, operator_more, evaluated_more, evaluated_cut}
use Rattle.rare_sort.specs.Families.{family}
use Rattle.rare_sort.specs.declared.family.Family.{Family}
use Rattle.rare_sort.specs.declared.family.Family.TheVariants as kind
use Rattle.rare_sort.specs.declared.family.Count.TheVariants as count
use Rattle.rare_sort.proofs.Options.{if_some}
use Rattle.rare_sort.proofs.SortingLemmas.{Each-back}
use Rattle.rare_meaning.specs.Values.{BitVectors, width_of}
use Rattle.rare_wide.specs.Widths.{most_bits}
use Rattle.rare_eval.specs.Evaluation.{has_value}
use Rattle.rare_eval.specs.Limited.{IsLimited}
use Rattle.rare_eval.specs.declared.values.Value.TheVariants as held
use Rattle.rare_eval.specs.inner.Cut.{IsCut, limited}
use Rattle.rare_eval.specs.inner.Groups.{is_on_two, is_on_bits}
use Rattle.rare_eval.specs.inner.Suits.{SuitsFamily, Meet, IsWord, IsAnyWord}
use Rattle.rare_eval.specs.inner.Progress.{is_other, IsLed, chain_truth}
use Rattle.rare_eval.proofs.StepLemmas.{evaluated_plain, limited_in_limits}

values_append : (is js : List Item) → values (is ++ js) ≡ values is ++ values js
values_append [] js = refl
values_append (i ∷ is) js = ap (λ vs. i.value ∷ vs) (values_append is js)

pairs_more : (test : Value → Value → Bool) (vs : List Value) (l v : Value) → each_pair test (vs ++ l ∷ v ∷ []) ≡ (each_pair test (vs ++ l ∷ []) && test l v)
pairs_more test [] l v = commuted (test l v)
  where
    commuted : (b : Bool) → (b && true) ≡ b
    commuted true = refl
    commuted false = refl
pairs_more test (u ∷ []) l v = regroup (test u l) (test l v)
  where
    regroup : (a b : Bool) → (a && (b && true)) ≡ ((a && true) && b)
    regroup true true = refl
    regroup true false = refl
    regroup false b = refl
pairs_more test (u ∷ w ∷ vs) l v = ap (λ b. test u w && b) (pairs_more test (w ∷ vs) l v) ∙ regroup (test u w) _ _
  where
    regroup : (a b c : Bool) → (a && (b && c)) ≡ ((a && b) && c)
    regroup true b c = refl
    regroup false b c = refl

-- no three truth values differ
pigeons : (a b c : Bool) (vs : List Value) → all_differ (Truth a ∷ Truth b ∷ Truth c ∷ vs) ≡ false
pigeons true true c vs = refl
pigeons true false true vs = refl
pigeons true false false vs = dropped (equals_any (Truth true) vs)
  where
    dropped : (b : Bool) → (not b && false) ≡ false
    dropped true = refl
    dropped false = refl
pigeons false false c vs = refl
pigeons false true false vs = refl
pigeons false true true vs = dropped (equals_any (Truth false) vs)
  where
    dropped : (b : Bool) → (not b && false) ≡ false
    dropped true = refl
    dropped false = refl

no_three : (is : List Item) → 3 ≤ length is → Each IsTruthItem is → all_differ (values is) ≡ false
no_three [] n t = absurd (omega arith)
no_three (i ∷ []) n t = absurd (omega arith)
no_three (i ∷ j ∷ []) n t = absurd (omega arith)
no_three (i ∷ j ∷ k ∷ is) n t =
    (λ x. all_differ ((t.0.1 x).value ∷ (t.1.0.1 x).value ∷ (t.1.1.0.1 x).value ∷ values is)) ∙ pigeons t.0.0 t.1.0.0 t.1.1.0.0 (values is)

with_two : (js : List Item) (l v : Item) → 1 ≤ length js → 3 ≤ length (js ++ l ∷ v ∷ [])
with_two js l v n = omega (arith, n, length-append js (l ∷ v ∷ []))

nothing_follows : (b : Bool) → (b && false) ≡ false
nothing_follows true = refl
nothing_follows false = refl

pairs_of : (test : Value → Value → Bool) (js : List Item) (l v : Item) → each_pair test (values (js ++ l ∷ v ∷ [])) ≡ (each_pair test (values (js ++ l ∷ [])) && test l.value v.value)
pairs_of test js l v =
    ap (each_pair test) (values_append js (l ∷ v ∷ []))
    ∙ pairs_more test (values js) l.value v.value
    ∙ ap (λ vs. each_pair test vs && test l.value v.value) (sym (values_append js (l ∷ [])))

pub chain_more : (h : Head) → is_chain h ≡ true → (js : List Item) (l v : Item) → 1 ≤ length js → Suits h (js ++ l ∷ v ∷ []) →
    chained h (values (js ++ l ∷ v ∷ [])) ≡ (chained h (values (js ++ l ∷ [])) && link_test h l.value v.value)
chain_more head.Distinct c js l v n (inl few) = absurd (omega (arith, few, with_two js l v n))
chain_more head.Distinct c js l v n (inr truths) = no_three (js ++ l ∷ v ∷ []) (with_two js l v n) truths ∙ sym (nothing_follows (all_differ (values (js ++ l ∷ []))))
chain_more head.Implies c js l v n s = pairs_of (neighbour_test head.Implies) js l v
chain_more head.Equal c js l v n s = pairs_of (neighbour_test head.Equal) js l v
chain_more head.Le c js l v n s = pairs_of (neighbour_test head.Le) js l v
chain_more head.Lt c js l v n s = pairs_of (neighbour_test head.Lt) js l v
chain_more head.Ge c js l v n s = pairs_of (neighbour_test head.Ge) js l v
chain_more head.Gt c js l v n s = pairs_of (neighbour_test head.Gt) js l v
chain_more h c js l v n s = cc

pub chain_step : (h : Head) (ns : List ℤ) (is : List Item) (holds : Bool) (last v : Held) (r : Bool) → IsAfter h ns is (progress.Chain holds last) → Suits h (is ++ value_item v ∷ []) →
    (is_chain h ≡ true → r ≡ (holds && link_test h (value_item last).value (value_item v).value)) → IsAfter h ns (is ++ value_item v ∷ []) (progress.Chain r v)
chain_step h ns is holds last v r (c, js, e, n, t) suits same =
    let q : is ++ value_item v ∷ [] ≡ js ++ value_item last ∷ value_item v ∷ [] = ap (λ xs. xs ++ value_item v ∷ []) e ∙ append_assoc js (value_item last ∷ []) (value_item v ∷ []) in
    let s : Suits h (js ++ value_item last ∷ value_item v ∷ []) = subst (Suits h) q suits in
    let t2 : holds ≡ chained h (values (js ++ value_item last ∷ [])) = t ∙ ap (λ xs. chained h (values xs)) e in
    let long : 1 ≤ length is = omega (arith, ap (λ xs. length xs) e, length-append js (value_item last ∷ [])) in
    let all : r ≡ chained h (values (is ++ value_item v ∷ [])) =
    same c ∙ ap (λ b. b && link_test h (value_item last).value (value_item v).value) t2 ∙ sym (chain_more h c js (value_item last) (value_item v) n s) ∙ ap (λ xs. chained h (values xs)) (sym q) in
    (c, is, refl, long, all)

-- ---- operators that are computed on two values at a time

two_heads : (h : Head) → is_other h ≡ true → (i j : Item) → Suits h (i ∷ j ∷ []) → is_on_two h ≡ true
two_heads head.True o i j s = absurd (omega (arith, s))
two_heads head.False o i j s = absurd (omega (arith, s))
two_heads head.Not o i j s = absurd (omega (arith, s))
two_heads head.Neg o i j s = absurd (omega (arith, s))
two_heads head.Abs o i j s = absurd (omega (arith, s))
two_heads head.Extract o i j s = absurd (omega (arith, s))
two_heads head.ZeroExtend o i j s = absurd (omega (arith, s))
two_heads head.SignExtend o i j s = absurd (omega (arith, s))
two_heads head.RotateLeft o i j s = absurd (omega (arith, s))
two_heads head.RotateRight o i j s = absurd (omega (arith, s))
two_heads head.Repeat o i j s = absurd (omega (arith, s))
two_heads head.Literal o i j s = absurd (omega (arith, s))
two_heads (head.Numeral n) o i j s = absurd (omega (arith, s))
two_heads (head.Bits n) o i j s = absurd (omega (arith, s))
two_heads head.BvNot o i j s = absurd (omega (arith, s.0))
two_heads head.BvNeg o i j s = absurd (omega (arith, s.0))
two_heads (head.Free k) o i j s = absurd s
two_heads (head.Param k) o i j s = absurd s
two_heads head.Hole o i j s = absurd s
two_heads head.Select o i j s = absurd s
two_heads head.Store o i j s = absurd s
two_heads head.Ite o i j s = cc
two_heads head.Implies o i j s = cc
two_heads head.Equal o i j s = cc
two_heads head.Distinct o i j s = cc
two_heads head.Le o i j s = cc
two_heads head.Lt o i j s = cc
two_heads head.Ge o i j s = cc
two_heads head.Gt o i j s = cc
two_heads h o i j s = refl

three_heads : (h : Head) → is_on_two h ≡ true → (is : List Item) → 3 ≤ length is → Suits h is → is_fold h ≡ true
three_heads head.Mod o is n s = absurd (omega (arith, n, s))
three_heads head.BvSub o is n s = absurd (omega (arith, n, s.0))
three_heads head.BvUdiv o is n s = absurd (omega (arith, n, s.0))
three_heads head.BvUrem o is n s = absurd (omega (arith, n, s.0))
three_heads head.BvSdiv o is n s = absurd (omega (arith, n, s.0))
three_heads head.BvSrem o is n s = absurd (omega (arith, n, s.0))
three_heads head.BvSmod o is n s = absurd (omega (arith, n, s.0))
three_heads head.BvShl o is n s = absurd (omega (arith, n, s.0))
three_heads head.BvLshr o is n s = absurd (omega (arith, n, s.0))
three_heads head.BvAshr o is n s = absurd (omega (arith, n, s.0))
three_heads head.BvNand o is n s = absurd (omega (arith, n, s.0))
three_heads head.BvNor o is n s = absurd (omega (arith, n, s.0))
three_heads head.BvXnor o is n s = absurd (omega (arith, n, s.0))
three_heads head.BvUlt o is n s = absurd (omega (arith, n, s.0))
three_heads head.BvUle o is n s = absurd (omega (arith, n, s.0))
three_heads head.BvUgt o is n s = absurd (omega (arith, n, s.0))
three_heads head.BvUge o is n s = absurd (omega (arith, n, s.0))
three_heads head.BvSlt o is n s = absurd (omega (arith, n, s.0))
three_heads head.BvSle o is n s = absurd (omega (arith, n, s.0))
three_heads head.BvSgt o is n s = absurd (omega (arith, n, s.0))
three_heads head.BvSge o is n s = absurd (omega (arith, n, s.0))
three_heads head.BvComp o is n s = absurd (omega (arith, n, s.0))
three_heads head.And o is n s = refl
three_heads head.Or o is n s = refl
three_heads head.Xor o is n s = refl
three_heads head.Minus o is n s = refl
three_heads head.Add o is n s = refl
three_heads head.Mul o is n s = refl
three_heads head.Div o is n s = refl
three_heads head.BvAdd o is n s = refl
three_heads head.BvMul o is n s = refl
three_heads head.BvAnd o is n s = refl
three_heads head.BvOr o is n s = refl
three_heads head.BvXor o is n s = refl
three_heads head.Concat o is n s = refl
three_heads h o is n s = cc

-- an operator on exactly two reads no more
two_only : (h : Head) → is_on_two h ≡ true → is_fold h ≡ false → (ns : List ℤ) (i j : Item) (is : List Item) → evaluated h (Some ns) (Some (i ∷ j ∷ is)) ≡ evaluated h (Some ns) (Some (i ∷ j ∷ []))
two_only head.Mod o f ns i j is = refl
two_only head.BvSub o f ns i j is = refl
two_only head.BvUdiv o f ns i j is = refl
two_only head.BvUrem o f ns i j is = refl
two_only head.BvSdiv o f ns i j is = refl
two_only head.BvSrem o f ns i j is = refl
two_only head.BvSmod o f ns i j is = refl
two_only head.BvShl o f ns i j is = refl
two_only head.BvLshr o f ns i j is = refl
two_only head.BvAshr o f ns i j is = refl
two_only head.BvNand o f ns i j is = refl
two_only head.BvNor o f ns i j is = refl
two_only head.BvXnor o f ns i j is = refl
two_only head.BvUlt o f ns i j is = refl
two_only head.BvUle o f ns i j is = refl
two_only head.BvUgt o f ns i j is = refl
two_only head.BvUge o f ns i j is = refl
two_only head.BvSlt o f ns i j is = refl
two_only head.BvSle o f ns i j is = refl
two_only head.BvSgt o f ns i j is = refl
two_only head.BvSge o f ns i j is = refl
two_only head.BvComp o f ns i j is = refl
two_only h o f ns i j is = cc

meet_family : (f : Family) (i j : Item) → SuitsFamily f (i ∷ j ∷ []) → Meet f i j
meet_family (kind.BitVectors (count.Exactly n) o) i j s = (s.1.0, s.1.1.0, s.1.1.1.0)
meet_family (kind.BitVectors count.Several o) i j s = (s.0, s.1.0, s.1.1.0)
meet_family kind.Concat i j s = (s.0, s.1.0)
meet_family f i j s = tt

meet_two : (h : Head) (i j : Item) → Suits h (i ∷ j ∷ []) → Meet (family h) i j
meet_two head.Distinct i j s = tt
meet_two h i j s = meet_family (family h) i j s

some_same : {X : Type 0} (x y : X) → Some x ≡ Some y → x ≡ y
some_same x y e = cc

-- what was made of bit vectors of a width is one of this width
word_held : (a : Held) (w : ℕ) → (value_item a).sort ≡ BitVectors w → IsWord w (value_item a)
word_held (held.Truth b) w e = cc
word_held (held.Whole z) w e = cc
word_held (held.Bits v n) w e = (n, ap (λ u. bits u n) (ap width_of e))

word_limits : (a : Held) (w n : ℕ) → IsLimited a → value_item a ≡ bits w n → (1 ≤ width_of (value_item a).sort) × (width_of (value_item a).sort ≤ most_bits)
word_limits (held.Truth b) w n l e = absurd (let never : ⊥ = cc (ap (λ i. i.sort) e) in never)
word_limits (held.Whole z) w n l e = absurd (let never : ⊥ = cc (ap (λ i. i.sort) e) in never)
word_limits (held.Bits v m) w n l e = (l.low, l.high)

sort_made : (h : Head) (ns : List ℤ) (is : List Item) (x : Item) → evaluated h (Some ns) (Some is) ≡ Some x → x.sort ≡ (operator_item h ns is).sort
sort_made h ns is x e = ap (λ i. i.sort) (sym (if_some (has_value h ns is) (operator_item h ns is) x e).1)

fold_width : (h : Head) → is_fold h ≡ true → (a : Held) (k : Item) → IsLimited a → Meet (family h) (value_item a) k → is_on_bits h ≡ true →
    (1 ≤ width_of (value_item a).sort) × (width_of (value_item a).sort ≤ most_bits)
fold_width head.BvAdd f a k l m b = word_limits a m.0 m.1.0 l m.1.1
fold_width head.BvMul f a k l m b = word_limits a m.0 m.1.0 l m.1.1
fold_width head.BvAnd f a k l m b = word_limits a m.0 m.1.0 l m.1.1
fold_width head.BvOr f a k l m b = word_limits a m.0 m.1.0 l m.1.1
fold_width head.BvXor f a k l m b = word_limits a m.0 m.1.0 l m.1.1
fold_width head.Concat f a k l m b = word_limits a m.0.0 m.0.1.0 l m.0.1.1
fold_width head.And f a k l m b = cc
fold_width head.Or f a k l m b = cc
fold_width head.Xor f a k l m b = cc
fold_width head.Minus f a k l m b = cc
fold_width head.Add f a k l m b = cc
fold_width head.Mul f a k l m b = cc
fold_width head.Div f a k l m b = cc
fold_width h f a k l m b = cc

module _ (h : Head) (ns : List ℤ) (i j : Item) (is : List Item) (k : Item) (a : Held) where
  words_meet : (w : ℕ) → Each (IsWord w) (i ∷ j ∷ (is ++ k ∷ [])) → (value_item a).sort ≡ BitVectors (width_of i.sort) → (w : ℕ) × IsWord w (value_item a) × IsWord w k
  words_meet w all e = (w, word_held a w (e ∙ ap (λ x. BitVectors (width_of x.sort)) all.0.1), (Each-back (IsWord w) is (k ∷ []) all.1.1).0)

meet_more : (h : Head) → is_fold h ≡ true → (ns : List ℤ) (i j : Item) (is : List Item) (k : Item) (a : Held) → Suits h (i ∷ j ∷ (is ++ k ∷ [])) →
    evaluated h (Some ns) (Some (i ∷ j ∷ is)) ≡ Some (value_item a) → Meet (family h) (value_item a) k
meet_more head.BvAdd f ns i j is k a s e = words_meet head.BvAdd ns i j is k a s.0 s.1 (sort_made head.BvAdd ns (i ∷ j ∷ is) (value_item a) e)
meet_more head.BvMul f ns i j is k a s e = words_meet head.BvMul ns i j is k a s.0 s.1 (sort_made head.BvMul ns (i ∷ j ∷ is) (value_item a) e)
meet_more head.BvAnd f ns i j is k a s e = words_meet head.BvAnd ns i j is k a s.0 s.1 (sort_made head.BvAnd ns (i ∷ j ∷ is) (value_item a) e)
meet_more head.BvOr f ns i j is k a s e = words_meet head.BvOr ns i j is k a s.0 s.1 (sort_made head.BvOr ns (i ∷ j ∷ is) (value_item a) e)
meet_more head.BvXor f ns i j is k a s e = words_meet head.BvXor ns i j is k a s.0 s.1 (sort_made head.BvXor ns (i ∷ j ∷ is) (value_item a) e)
meet_more head.Concat f ns i j is k a s e =
    ((_, word_held a _ (sort_made head.Concat ns (i ∷ j ∷ is) (value_item a) e)), (Each-back IsAnyWord is (k ∷ []) s.1.1).0)
meet_more head.And f ns i j is k a s e = tt
meet_more head.Or f ns i j is k a s e = tt
meet_more head.Xor f ns i j is k a s e = tt
meet_more head.Minus f ns i j is k a s e = tt
meet_more head.Add f ns i j is k a s e = tt
meet_more head.Mul f ns i j is k a s e = tt
meet_more head.Div f ns i j is k a s e = tt
meet_more h f ns i j is k a s e = cc

three_long : (i j : Item) (is : List Item) (k : Item) → 3 ≤ length (i ∷ j ∷ (is ++ k ∷ []))
three_long i j is k = omega (arith, length-append is (k ∷ []))

-- what the operator makes of a and v, where they meet
abbrev Makes : Head → Held → Held → Option Item → Type 0
Makes h a v r = is_on_two h ≡ true → Meet (family h) (value_item a) (value_item v) → (ms : List ℤ) → r ≡ evaluated h (Some ms) (Some (value_item a ∷ value_item v ∷ []))

pub led_some : (h : Head) (ns : List ℤ) (is : List Item) (a v y : Held) → is_other h ≡ true → IsLed h ns is (value_item a) → Suits h (is ++ value_item v ∷ []) →
    Makes h a v (Some (value_item y)) → IsLed h ns (is ++ value_item v ∷ []) (value_item y)
led_some h ns [] a v y o led s made = absurd led
led_some h ns (i ∷ []) a v y o led s made =
    let two = two_heads h o i (value_item v) s in
    let meet = subst (λ x. Meet (family h) x (value_item v)) led (meet_two h i (value_item v) s) in
    (two, ap (λ x. evaluated h (Some ns) (Some (x ∷ value_item v ∷ []))) led ∙ sym (made two meet ns))
led_some h ns (i ∷ j ∷ is) a v y o led s made =
    let f = three_heads h led.0 (i ∷ j ∷ (is ++ value_item v ∷ [])) (three_long i j is (value_item v)) s in
    let meet = meet_more h f ns i j is (value_item v) a s led.1 in
    (led.0, evaluated_more h f ns i j is (value_item v) (value_item a) led.1 ∙ sym (made led.0 meet ns))

pub led_none : (h : Head) (ns : List ℤ) (is : List Item) (a v : Held) → IsLimited a → is_other h ≡ true → IsLed h ns is (value_item a) → Suits h (is ++ value_item v ∷ []) →
    Makes h a v None → IsCut h ns (is ++ value_item v ∷ [])
led_none h ns [] a v l o led s made rest = absurd led
led_none h ns (i ∷ []) a v l o led s made rest = go (is_fold h) refl
  where
    two : is_on_two h ≡ true
    two = two_heads h o i (value_item v) s

    meet : Meet (family h) (value_item a) (value_item v)
    meet = subst (λ x. Meet (family h) x (value_item v)) led (meet_two h i (value_item v) s)

    none : evaluated h (Some ns) (Some (value_item a ∷ value_item v ∷ [])) ≡ None
    none = sym (made two meet ns)

    go : (b : Bool) → is_fold h ≡ b → evaluated h (Some ns) (Some (i ∷ value_item v ∷ rest)) ≡ None
    go true f = ap (λ x. evaluated h (Some ns) (Some (x ∷ value_item v ∷ rest))) led ∙
        evaluated_cut h f ns (value_item a) (value_item v) [] (value_item v) (value_item a) rest (limited_in_limits a l) (fold_width h f a (value_item v) l meet) refl none none
    go false f = ap (λ x. evaluated h (Some ns) (Some (x ∷ value_item v ∷ rest))) led ∙ two_only h two f ns (value_item a) (value_item v) rest ∙ none
led_none h ns (i ∷ j ∷ is) a v l o led s made rest =
    let f = three_heads h led.0 (i ∷ j ∷ (is ++ value_item v ∷ [])) (three_long i j is (value_item v)) s in
    let meet = meet_more h f ns i j is (value_item v) a s led.1 in
    let none : evaluated h (Some ns) (Some (value_item a ∷ value_item v ∷ [])) ≡ None = sym (made led.0 meet ns) in
    let x = if_some (has_value h ns (i ∷ j ∷ is)) (operator_item h ns (i ∷ j ∷ is)) (value_item a) led.1 in
    evaluated_cut h f ns i j (is ++ value_item v ∷ []) (value_item v) (value_item a) rest (limited_in_limits a l) (fold_width h f a (value_item v) l meet)
    (operator_more h f ns i j is (value_item v) ∙ ap (λ y. operator_item h ns (y ∷ value_item v ∷ [])) x.1) none
    (evaluated_more h f ns i j is (value_item v) (value_item a) led.1 ∙ none)

-- ---- chains

implied : (vs : List Value) (l : Value) → truth_of (from_right implies_value (Truth true) (vs ++ l ∷ [])) ≡ (not (each_pair (neighbour_test head.Implies) (vs ++ l ∷ [])) || truth_of l)
implied [] l = refl
implied (v ∷ []) l = single (truth_of v) (truth_of l)
  where
    single : (a b : Bool) → (not a || b) ≡ (not (a && true) || b)
    single true b = refl
    single false b = refl
implied (v ∷ w ∷ vs) l = ap (λ b. not (truth_of v) || b) (implied (w ∷ vs) l) ∙ regroup (truth_of v) _ (truth_of l)
  where
    regroup : (a b c : Bool) → (not a || (not b || c)) ≡ (not (a && b) || c)
    regroup true b c = refl
    regroup false b c = refl

implied_value : (v : Value) (vs : List Value) (l : Value) → from_right implies_value (Truth true) ((v ∷ vs) ++ l ∷ []) ≡ Truth (not (each_pair (neighbour_test head.Implies) ((v ∷ vs) ++ l ∷ [])) || truth_of l)
implied_value v [] l = ap Truth (implied (v ∷ []) l)
implied_value v (w ∷ vs) l = ap Truth (implied (v ∷ w ∷ vs) l)

implies_is : (ns : List ℤ) (js : List Item) (l : Item) → 1 ≤ length js →
    evaluated head.Implies (Some ns) (Some (js ++ l ∷ [])) ≡ Some (truth (not (chained head.Implies (values (js ++ l ∷ []))) || truth_of l.value))
implies_is ns [] l n = absurd (omega arith)
implies_is ns (j ∷ js) l n =
    let e : values ((j ∷ js) ++ l ∷ []) ≡ (j.value ∷ values js) ++ l.value ∷ [] = values_append (j ∷ js) (l ∷ []) in
    evaluated_plain head.Implies ns ((j ∷ js) ++ l ∷ []) refl refl
    ∙ ap (λ vs. limited (item Truths (from_right implies_value (Truth true) vs))) e
    ∙ ap (λ v. limited (item Truths v)) (implied_value j.value (values js) l.value)
    ∙ ap (λ vs. Some (truth (not (each_pair (neighbour_test head.Implies) vs) || truth_of l.value))) (sym e)

pub chain_is : (h : Head) (ns : List ℤ) (is : List Item) (holds : Bool) (last : Held) → IsAfter h ns is (progress.Chain holds last) →
    Some (truth (chain_truth h holds (value_item last).value)) ≡ evaluated h (Some ns) (Some is)
chain_is head.Implies ns is holds last (c, js, e, n, t) =
    ap (λ b. Some (truth (not b || truth_of (value_item last).value))) (t ∙ ap (λ xs. chained head.Implies (values xs)) e)
    ∙ sym (implies_is ns js (value_item last) n)
    ∙ ap (λ xs. evaluated head.Implies (Some ns) (Some xs)) (sym e)
chain_is head.Equal ns is holds last a = ap (λ b. Some (truth b)) a.4
chain_is head.Distinct ns is holds last a = ap (λ b. Some (truth b)) a.4
chain_is head.Le ns is holds last a = ap (λ b. Some (truth b)) a.4
chain_is head.Lt ns is holds last a = ap (λ b. Some (truth b)) a.4
chain_is head.Ge ns is holds last a = ap (λ b. Some (truth b)) a.4
chain_is head.Gt ns is holds last a = ap (λ b. Some (truth b)) a.4
chain_is h ns is holds last a = absurd (let never : ⊥ = cc (a.0) in never)
