-- No value term within the limits is refused.
use Rattle.std.proofs.Common.{◌≡◌, ℕ, zero, suc, ◌+◌, ◌<◌, ◌≤◌, ◌^◌, Bool, true, false, ◌&&◌, List, [], ◌∷◌, map, sum, length, Option, Some, None, refl, sym, ap, ◌∙◌, subst, arith, inl, inr, nat_le}
use Rattle.std.proofs.lemmas.Int.{ints}
use Rattle.std.proofs.lemmas.Bool.Decides.{nat_tests}
use Rattle.std.proofs.lemmas.Option.{none-some, same_Some}
use Rattle.std.specs.Prelude.{ℤ, pos, negsuc, ◌+ℤ◌, int_le, nat_lt, nat_le, slice_get, unsigned_abs}
use Rattle.rare_linear.specs.Linears.{LinearExpression, number, linear_value}
use Rattle.rare_linear.specs.EntailmentTest.{is_within, is_entailed}
use Rattle.rare_sort.specs.DeclaredSorts.{follows}
use Rattle.rare_sort.specs.Rulings.{ruling, ruled_by}
use Rattle.rare_sort.specs.SortRules.{less_one, gives}
use Rattle.rare_sort.specs.SortOf.{sort_of, sort_step}
use Rattle.rare_sort.specs.Sameness.{sort_eq}
use Rattle.rare_sort.specs.Trees.{node, head_of, indices_of, args_of, nesting, size, greatest}
use Rattle.rare_sort.specs.declared.declarations.Declarations.{Declarations}
use Rattle.rare_sort.specs.declared.head.Head.{Head}
use Rattle.rare_sort.specs.declared.head.Head.TheVariants as head
use Rattle.rare_sort.specs.declared.ruling.Ruling.{Ruling}
use Rattle.rare_sort.specs.declared.ruling.Ruling.TheVariants.{Ill, Has}
use Rattle.rare_sort.specs.declared.sort.Sort.{Sort, Int, BitVec}
use Rattle.rare_sort.specs.declared.sort.Sort.{Bool as Truths}
use Rattle.rare_sort.specs.declared.sort.Signature.{Signature}
use Rattle.rare_sort.specs.declared.tree.Tree.{Tree}
use Rattle.rare_sort.specs.declared.tree.Tree.TheFolds.{fold-roll-Tree}
use Rattle.rare_sort.proofs.SamenessLemmas.{sort_eq-Decides}
use Rattle.rare_term.specs.Limits.{MOST_NESTED, MOST_NODES}
use Rattle.rare_term.specs.Refusals.{has_large_number, refusal, refusal_by}
use Rattle.rare_term.specs.inner.TreeLaws.{head_node, indices_node, args_node, nesting_node, size_node}
use Rattle.rare_eval.specs.Evaluation.{GREATEST_WHOLE}
use Rattle.rare_eval.specs.Limited.{IsLimited}
use Rattle.rare_eval.specs.ValueTerms.{value_term_of, IsPartOf, IsNeverRefused}
use Rattle.rare_eval.specs.declared.values.Value.{Value}
use Rattle.rare_eval.specs.declared.values.Value.TheVariants as value

not_below : (m n : ℕ) → n ≤ m → nat_lt m n ≡ false
not_below m n h = grind (arith, nat_tests)

-- ---- what has a sort, and is small

accepted : (r : Ruling) (s : Sort) (large : Bool) (args deep nodes : ℕ) → r ≡ Has s → large ≡ false → args ≤ 1 → deep ≤ 2 → nodes ≤ 2 → refusal_by r large args deep nodes ≡ None
accepted r s large args deep nodes e l a n m =
    let few : nat_lt 256 args ≡ false = not_below 256 args (omega (arith, a)) in
    let shallow : nat_lt 2000 deep ≡ false = not_below 2000 deep (omega (arith, n)) in
    let small : nat_lt 1048576 nodes ≡ false = not_below 1048576 nodes (omega (arith, m)) in
    rw (e, l, few, shallow, small) refl

leaf : (d : Declarations) (h : Head) (ix : List LinearExpression) (s : Sort) → ruling d h ix [] ≡ Has s → has_large_number h ix ≡ false → refusal d h ix [] ≡ None
unfolding refusal
leaf d h ix s r l =
    let n = nesting_node h ix [] in
    let m = size_node h ix [] in
    accepted (ruling d h ix []) s (has_large_number h ix) 0 (nesting (node h ix [])) (size (node h ix [])) r l (omega arith) (omega (arith, n)) (omega (arith, m))

-- ---- truth values and numerals

true_accepted : (d : Declarations) → refusal d head.True [] [] ≡ None
unfolding ruling
true_accepted d = leaf d head.True [] Truths refl refl

false_accepted : (d : Declarations) → refusal d head.False [] [] ≡ None
unfolding ruling
false_accepted d = leaf d head.False [] Truths refl refl

numeral_accepted : (d : Declarations) (n : ℕ) → n ≤ GREATEST_WHOLE → refusal d (head.Numeral n) [] [] ≡ None
unfolding ruling
numeral_accepted d n h = leaf d (head.Numeral n) [] Int refl (not_below GREATEST_WHOLE n h)

-- ---- negations

abbrev numeral : ℕ → Tree
numeral n = node (head.Numeral n) [] []

numeral_sort : (symbols : List Signature) (n : ℕ) → sort_of symbols (numeral n) ≡ Int
numeral_sort symbols n = fold-roll-Tree Sort (sort_step symbols) (record { head = head.Numeral n; indices = []; args = [] })

negated_ruling : (d : Declarations) (s : Sort) → s ≡ Int → ruling d head.Neg [] (s ∷ []) ≡ Has Int
unfolding ruling
negated_ruling d s e = let same : sort_eq s Int ≡ true = (sort_eq-Decides s Int).1 e in rw same refl

negated_accepted : (d : Declarations) (n : ℕ) → refusal d head.Neg [] (numeral n ∷ []) ≡ None
unfolding refusal
negated_accepted d n =
    let deep = nesting_node head.Neg [] (numeral n ∷ []) in
    let nodes = size_node head.Neg [] (numeral n ∷ []) in
    let one = nesting_node (head.Numeral n) [] [] in
    let single = size_node (head.Numeral n) [] [] in
    accepted (ruling d head.Neg [] (sort_of d.symbols (numeral n) ∷ [])) Int false 1 (nesting (node head.Neg [] (numeral n ∷ []))) (size (node head.Neg [] (numeral n ∷ [])))
    (negated_ruling d (sort_of d.symbols (numeral n)) (numeral_sort d.symbols n)) refl (omega arith) (omega (arith, deep, one)) (omega (arith, nodes, single))

-- ---- literals

less_one_number : (v : ℕ) → less_one (number (pos (suc v))) ≡ number (pos v)
less_one_number v =
    let c : (less_one (number (pos (suc v)))).constant ≡ pos v = omega (arith, ints) in
    λ i. record { constant = c i; parts = [] }

number_follows : (d : Declarations) (v : ℕ) → v < 2 ^ 127 → follows d (number (pos v)) ≡ true
unfolding follows is_entailed is_within
number_follows d v h =
    let within : nat_lt v (2 ^ 127) ≡ true = grind (arith, nat_tests) in
    let low : nat_le 0 (v + 0) ≡ true = grind (arith, nat_tests) in
    rw within (rw low refl)

literal_ruling : (d : Declarations) (w n : ℕ) → follows d (less_one (number (pos w))) ≡ true → ruling d (head.Bits n) (number (pos w) ∷ []) [] ≡ Has (BitVec (number (pos w)))
unfolding ruling
literal_ruling d w n h = rw h refl

literal_accepted : (d : Declarations) (w n : ℕ) → 1 ≤ w → w ≤ 128 → refusal d (head.Bits n) (number (pos w) ∷ []) [] ≡ None
literal_accepted d zero n low high = absurd (omega (arith, low))
literal_accepted d (suc v) n low high =
    leaf d (head.Bits n) (number (pos (suc v)) ∷ []) (BitVec (number (pos (suc v))))
    (literal_ruling d (suc v) n (ap (follows d) (less_one_number v) ∙ number_follows d v (omega (arith, high)))) refl

-- ---- parts of value terms

abbrev Free : Declarations → Tree → Type 0
Free d u = refusal d (head_of u) (indices_of u) (args_of u) ≡ None

of_node : (d : Declarations) (h : Head) (ix : List LinearExpression) (ts : List Tree) → refusal d h ix ts ≡ None → Free d (node h ix ts)
of_node d h ix ts e = (λ i. refusal d (head_node h ix ts i) (indices_node h ix ts i) (args_node h ix ts i)) ∙ e

parts : (d : Declarations) (h : Head) (ix : List LinearExpression) (ts : List Tree) (u : Tree) → refusal d h ix ts ≡ None → ((k : ℕ) → slice_get ts k ≡ Some u → Free d u) →
    IsPartOf (node h ix ts) u → Free d u
parts d h ix ts u e args (inl same) = subst (Free d) (sym same) (of_node d h ix ts e)
parts d h ix ts u e args (inr p) = args p.0 (ap (λ us. slice_get us p.0) (sym (args_node h ix ts)) ∙ p.1)

of_leaf : (h : Head) (ix : List LinearExpression) → ((d : Declarations) → refusal d h ix [] ≡ None) → IsNeverRefused (node h ix [])
of_leaf h ix e = record { free = λ d u p. parts d h ix [] u (e d) (λ k at. absurd (none-some u at)) p }

of_negation : (n : ℕ) → n ≤ GREATEST_WHOLE → IsNeverRefused (node head.Neg [] (numeral n ∷ []))
of_negation n h = record { free = λ d u p. parts d head.Neg [] (numeral n ∷ []) u (negated_accepted d n) (at d u) p }
  where
    at : (d : Declarations) (u : Tree) (k : ℕ) → slice_get (numeral n ∷ []) k ≡ Some u → Free d u
    at d u zero e = subst (Free d) (same_Some (numeral n) u e) (of_node d (head.Numeral n) [] [] (numeral_accepted d n h))
    at d u (suc k) e = absurd (none-some u e)

pub never_refused : (v : Value) → IsLimited v → IsNeverRefused (value_term_of v)
never_refused (value.Truth true) h = of_leaf head.True [] true_accepted
never_refused (value.Truth false) h = of_leaf head.False [] false_accepted
never_refused (value.Whole (pos n)) h = of_leaf (head.Numeral n) [] (λ d. numeral_accepted d n h)
never_refused (value.Whole (negsuc n)) h = of_negation (suc n) h
never_refused (value.Bits w n) h = of_leaf (head.Bits n) (number (pos w) ∷ []) (λ d. literal_accepted d w n h.low h.high)
