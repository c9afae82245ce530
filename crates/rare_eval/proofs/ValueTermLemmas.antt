-- The value of a value term, and what its making adds.
use Rattle.std.proofs.Common.{◌≡◌, ℕ, suc, ◌^◌, ◌<◌, ◌≤◌, true, false, List, [], ◌∷◌, ◌++◌, Some, None, refl, sym, ap, ◌∙◌, arith, inl, inr, append_assoc}
use Rattle.std.proofs.Math.Nat.{mod-eq_of_lt}
use Rattle.std.proofs.lemmas.List.{append-nil}
use Rattle.std.proofs.lemmas.Int.{ints}
use Rattle.std.specs.Prelude.{ℤ, pos, negsuc, ◌<ℤ◌, ◌≤ℤ◌, slice_get, Result, Ok, Err, IfOk, unsigned_abs, ◌⊎◌, if◌then◌else◌}
use Rattle.rare_linear.specs.Linears.{number}
use Rattle.rare_sort.specs.Each.{Each}
use Rattle.rare_sort.specs.Sorting.{all_of}
use Rattle.rare_sort.specs.Trees.{node, args_of}
use Rattle.rare_sort.specs.declared.head.Head.TheVariants as head
use Rattle.rare_sort.specs.declared.tree.Tree.{Tree}
use Rattle.rare_term.specs.State.{State, AddsAtMost}
use Rattle.rare_term.specs.Literals.{application, reduced}
use Rattle.rare_term.specs.inner.TreeLaws.{args_node}
use Rattle.rare_meaning.specs.Values.{truth_of, whole_of, bits_number, width_of}
use Rattle.rare_meaning.specs.Operators.{whole, bits}
use Rattle.rare_eval.specs.Evaluation.{GREATEST_WHOLE, evaluated, evaluation}
use Rattle.rare_eval.specs.Limited.{IsLimited}
use Rattle.rare_eval.specs.ValueItems.{value_item}
use Rattle.rare_eval.specs.ValueTerms.{value_term_of, IsPartOf, AddsPartsOf, ValueTermsHaveTheirValue, OneValueTerm}
use Rattle.rare_eval.specs.inner.Cut.{limited}
use Rattle.rare_eval.specs.declared.values.Value.{Value}
use Rattle.rare_eval.specs.declared.values.Value.TheVariants as value
use Rattle.rare_eval.proofs.EvaluationLemmas.{evaluation-node}
use Rattle.rare_eval.proofs.StepLemmas.{evaluated_plain, limited_in_limits}

in_limits : (v : Value) → IsLimited v → limited (value_item v) ≡ Some (value_item v)
in_limits v h = ap (λ b. if b then (Some (value_item v)) else None) (limited_in_limits v h)

numeral : (n : ℕ) → n ≤ GREATEST_WHOLE → evaluation (node (head.Numeral n) [] []) ≡ Some (whole (pos n))
numeral n h = evaluation-node (head.Numeral n) [] [] ∙ evaluated_plain (head.Numeral n) [] [] refl refl ∙ in_limits (value.Whole (pos n)) h

pub have_their_value : ValueTermsHaveTheirValue
have_their_value (value.Truth true) h = evaluation-node head.True [] []
have_their_value (value.Truth false) h = evaluation-node head.False [] []
have_their_value (value.Whole (pos n)) h = numeral n h
have_their_value (value.Whole (negsuc n)) h =
    evaluation-node head.Neg [] (node (head.Numeral (suc n)) [] [] ∷ [])
    ∙ ap (λ o. evaluated head.Neg (Some []) (all_of (o ∷ []))) (numeral (suc n) h)
    ∙ evaluated_plain head.Neg [] (whole (pos (suc n)) ∷ []) refl refl
    ∙ in_limits (value.Whole (negsuc n)) h
have_their_value (value.Bits w n) h =
    evaluation-node (head.Bits n) (number (pos w) ∷ []) []
    ∙ evaluated_plain (head.Bits n) (pos w ∷ []) [] refl refl
    ∙ ap (λ m. limited (bits w m)) (mod-eq_of_lt h.below)
    ∙ in_limits (value.Bits w n) h

same_value : (v w : Value) → value_item v ≡ value_item w → v ≡ w
same_value (value.Truth a) (value.Truth b) e = ap value.Truth (ap (λ i. truth_of i.value) e)
same_value (value.Whole a) (value.Whole b) e = ap (λ z. value.Whole z) (ap (λ i. whole_of i.value) e)
same_value (value.Bits v a) (value.Bits w b) e =
    let p : v ≡ w = ap (λ i. width_of i.sort) e in
    let q : a ≡ b = ap (λ i. bits_number i.value) e in
    λ i. value.Bits (p i) (q i)
same_value (value.Truth a) (value.Whole b) e = absurd (let q = ap (λ i. i.sort) e in let never : ⊥ = cc (q) in never)
same_value (value.Truth a) (value.Bits w b) e = absurd (let q = ap (λ i. i.sort) e in let never : ⊥ = cc (q) in never)
same_value (value.Whole a) (value.Truth b) e = absurd (let q = ap (λ i. i.sort) e in let never : ⊥ = cc (q) in never)
same_value (value.Whole a) (value.Bits w b) e = absurd (let q = ap (λ i. i.sort) e in let never : ⊥ = cc (q) in never)
same_value (value.Bits v a) (value.Truth b) e = absurd (let q = ap (λ i. i.sort) e in let never : ⊥ = cc (q) in never)
same_value (value.Bits v a) (value.Whole b) e = absurd (let q = ap (λ i. i.sort) e in let never : ⊥ = cc (q) in never)

-- ---- what is made

pub made_true : application head.True [] [] ≡ node head.True [] []
unfolding reduced
made_true = refl

pub made_false : application head.False [] [] ≡ node head.False [] []
unfolding reduced
made_false = refl

pub made_numeral : (n : ℕ) → application (head.Numeral n) [] [] ≡ node (head.Numeral n) [] []
unfolding reduced
made_numeral n = refl

pub made_neg : (ts : List Tree) → application head.Neg [] ts ≡ node head.Neg [] ts
unfolding reduced
made_neg ts = refl

pub made_bits : (w n : ℕ) → n < 2 ^ w → application (head.Bits n) (number (pos w) ∷ []) [] ≡ node (head.Bits n) (number (pos w) ∷ []) []
unfolding reduced
made_bits w n h = ap (λ m. node (head.Bits m) (number (pos w) ∷ []) []) (mod-eq_of_lt h)

pub adds_one : (t u : Tree) (old new : State) → u ≡ t → AddsAtMost u old new → AddsPartsOf t old new
adds_one t u old new e a = record { declared = a.declared; trees = go a.trees }
  where
    go : (new.trees ≡ old.trees) ⊎ (new.trees ≡ old.trees ++ u ∷ []) → (more : List Tree) × (new.trees ≡ old.trees ++ more) × Each (IsPartOf t) more
    go (inl same) = ([], same ∙ sym (append-nil old.trees), tt)
    go (inr one) = (u ∷ [], one, (inl e, tt))

-- a numeral, and then its negation
pub adds_two : (t u v : Tree) (old mid new : State) → slice_get (args_of t) 0 ≡ Some u → v ≡ t → AddsAtMost u old mid → AddsAtMost v mid new → AddsPartsOf t old new
adds_two t u v old mid new arg e a b = record { declared = b.declared ∙ a.declared; trees = go a.trees b.trees }
  where
    go : (mid.trees ≡ old.trees) ⊎ (mid.trees ≡ old.trees ++ u ∷ []) → (new.trees ≡ mid.trees) ⊎ (new.trees ≡ mid.trees ++ v ∷ []) →
        (more : List Tree) × (new.trees ≡ old.trees ++ more) × Each (IsPartOf t) more
    go (inl p) (inl q) = ([], q ∙ p ∙ sym (append-nil old.trees), tt)
    go (inl p) (inr q) = (v ∷ [], q ∙ ap (λ ts. ts ++ v ∷ []) p, (inl e, tt))
    go (inr p) (inl q) = (u ∷ [], q ∙ p, (inr (0, arg), tt))
    go (inr p) (inr q) = (u ∷ v ∷ [], q ∙ ap (λ ts. ts ++ v ∷ []) p ∙ append_assoc old.trees (u ∷ []) (v ∷ []), (inr (0, arg), (inl e, tt)))

pub if_ok : {X E : Type 0} (r : Result X E) (P Q : X → Type 0) → ((x : X) → P x → Q x) → IfOk r P → IfOk r Q
if_ok (Ok x) P Q f h = f x h
if_ok (Err e) P Q f h = tt

pub negative_term : (n : ℤ) (m : ℕ) → n <ℤ pos 0 → m ≡ unsigned_abs n → node head.Neg [] (node (head.Numeral m) [] [] ∷ []) ≡ value_term_of (value.Whole n)
negative_term (pos k) m h e = absurd (omega (arith, ints, h))
negative_term (negsuc k) m h e = ap (λ j. node head.Neg [] (node (head.Numeral j) [] [] ∷ [])) e

pub numeral_term : (n : ℤ) (m : ℕ) → pos 0 ≤ℤ n → m ≡ unsigned_abs n → node (head.Numeral m) [] [] ≡ value_term_of (value.Whole n)
numeral_term (pos k) m h e = ap (λ j. node (head.Numeral j) [] []) e
numeral_term (negsuc k) m h e = absurd (omega (arith, ints, h))

-- the one argument of a negation
pub negated : (u : Tree) → slice_get (args_of (node head.Neg [] (u ∷ []))) 0 ≡ Some u
negated u = ap (λ ts. slice_get ts 0) (args_node head.Neg [] (u ∷ []))

pub one_value_term : OneValueTerm
one_value_term t u a b e =
    let f : Some (value_item a.value) ≡ Some (value_item b.value) =
    sym (have_their_value a.value a.limited) ∙ ap evaluation (sym a.is) ∙ e ∙ ap evaluation b.is ∙ have_their_value b.value b.limited in
    let g : value_item a.value ≡ value_item b.value = cc in
    a.is ∙ ap value_term_of (same_value a.value b.value g) ∙ sym b.is
