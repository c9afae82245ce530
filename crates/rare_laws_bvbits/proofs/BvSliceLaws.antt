-- The rules of comparisons, shifts, slices and joins hold, at every width and for lists of every length.
use Rattle.std.proofs.Common.{◌≡◌, ◌≢◌, ◌⊎◌, inl, inr, ℕ, suc, ◌+◌, ◌-◌, ◌^◌, ◌<◌, ◌≤◌, Bool, true, false, [], ◌∷◌, refl, ap, ◌∙◌, sym, subst, arith, nat_eq}
use Rattle.std.proofs.lemmas.Bool.{eq-eqb, eqb-true}
use Rattle.std.proofs.lemmas.List.{append-nil}
use Rattle.std.proofs.lemmas.Int.{ints}
use Rattle.std.proofs.Math.Nat.{zero-mod}
use Rattle.std.specs.Prelude.{pos, negsuc, ◌&&◌, if◌then◌else◌}
use Rattle.rare_bits.specs.Bits.{concat, bvcomp, extract as slice}
use Rattle.rare_bits.proofs.PartsLemmas.{concat-extract, extract-concat, extract-extract, extract-whole, bvshl-concat, bvlshr-extract}
use Rattle.rare_linear.specs.Linears.{LinearExpression, linear, linear_value}
use Rattle.rare_meaning.specs.Values.{Bits, bits_number, value_eq}
use Rattle.rare_meaning.specs.Settings.{Item}
use Rattle.rare_meaning.specs.Interpretations.{AnyFunctions}
use Rattle.rare_meaning.specs.Operators.{bits}
use Rattle.rare_meaning.proofs.MeaningLemmas.{meaning-node}
use Rattle.rare_meaning.proofs.ValueLemmas.{value_cases}
use Rattle.rare_rule.specs.Holds.{Holds, total_width}
use Rattle.rare_shapes.specs.TheOperators.{joined_number}
use Rattle.rare_shapes.proofs.JoinLemmas.{wide_each, joined-below, join-merge, join-first, join-last}
use Rattle.rare_shapes.proofs.NumberLemmas.{index_kept, zeros_above, index_at, width_at, word_at, same_bits, slice_is}
use Rattle.rare_laws_bvbits.specs.BvSliceRules.{bv_comp_elim, bv_shl_const, bv_lshr_const, bv_extract_whole, bv_extract_extract, bv_extract_concat_low, bv_extract_concat_high, bv_concat_extract, bv_zero_extend, bv_shl_const_constraints, bv_lshr_const_constraints, bv_extract_extract_constraints, bv_extract_concat_low_constraints, bv_extract_concat_high_constraints, bv_concat_extract_constraints, bv_zero_extend_constraints}

-- name a less name b, where a is the higher number, the sum of two names, a name less one, and n - 1 - k
abbrev less : ℕ → ℕ → LinearExpression
less a b = linear (pos 0) ((a, pos 1) ∷ (b, negsuc 0) ∷ [])

abbrev linear_sum : ℕ → ℕ → LinearExpression
linear_sum a b = linear (pos 0) ((a, pos 1) ∷ (b, pos 1) ∷ [])

abbrev before : ℕ → LinearExpression
before a = linear (negsuc 0) ((a, pos 1) ∷ [])

abbrev top_less : LinearExpression
top_less = linear (negsuc 0) ((0, pos 1) ∷ (1, negsuc 0) ∷ [])

-- numbers are equal where the bit vectors are
same_numbers : (n a b : ℕ) → nat_eq a b ≡ value_eq (Bits n a) (Bits n b)
same_numbers n a b = go (nat_eq a b) refl (value_cases (Bits n a) (Bits n b))
  where
    go : (t : Bool) → nat_eq a b ≡ t →
        ((value_eq (Bits n a) (Bits n b) ≡ true) × (Bits n a ≡ Bits n b)) ⊎ ((value_eq (Bits n a) (Bits n b) ≡ false) × (Bits n a ≢ Bits n b)) →
        nat_eq a b ≡ value_eq (Bits n a) (Bits n b)
    go t e (inl h) = eq-eqb a b (ap bits_number h.1) ∙ sym h.0
    go true e (inr h) = absurd (h.1 (ap (Bits n) (eqb-true a b e)))
    go false e (inr h) = e ∙ sym h.0

-- the choice by a test is the literal of its bit
by_test : (t : Bool) → bits 1 (if t then 1 else 0) ≡ (if t && true then (bits 1 1) else (bits 1 0))
by_test true = refl
by_test false = refl

chosen : (n a b : ℕ) → bits 1 (bvcomp a b) ≡ (if value_eq (Bits n a) (Bits n b) && true then (bits 1 1) else (bits 1 0))
chosen n a b = by_test (nat_eq a b) ∙ ap (λ t. if t && true then (bits 1 1) else (bits 1 0)) (same_numbers n a b)

pub bv_comp_elim_holds : Holds AnyFunctions bv_comp_elim []
bv_comp_elim_holds = record {
  same = λ e names counts c p.
      let s = c.suits in
      let n = width_at e 0 s.0 in
      let x = word_at e names 1 0 n s.1.0 in
      let y = word_at e names 2 0 n s.1.1.0 in
      simp (meaning-node, x.is, y.is) (ap (λ (r : Item). r.value ∷ []) (chosen n.number x.number y.number));
}

pub bv_shl_const_holds : Holds AnyFunctions bv_shl_const bv_shl_const_constraints
bv_shl_const_holds = record {
  same = λ e names counts c p.
      let s = c.suits in
      let n = width_at e 0 s.0 in
      let k = index_at e 1 s.1.0 in
      let x = word_at e names 2 0 n s.1.1.0 in
      let kn : k.number < n.number = omega (arith, ints, n.is, k.is, c.hold.1.0) in
      let top : linear_value e.number top_less ≡ pos (n.number - 1 - k.number) = omega (arith, ints, n.is, k.is, kn) in
      simp (meaning-node, x.is, n.value, k.value, top, index_kept k.number n.number kn, zero-mod)
      (same_bits (omega (arith, kn)) (bvshl-concat n.number k.number x.number kn));
}

pub bv_lshr_const_holds : Holds AnyFunctions bv_lshr_const bv_lshr_const_constraints
bv_lshr_const_holds = record {
  same = λ e names counts c p.
      let s = c.suits in
      let n = width_at e 0 s.0 in
      let k = index_at e 1 s.1.0 in
      let x = word_at e names 2 0 n s.1.1.0 in
      let kn : k.number < n.number = omega (arith, ints, n.is, k.is, c.hold.1.0) in
      let top : linear_value e.number (before 0) ≡ pos (n.number - 1) = omega (arith, ints, n.is, kn) in
      simp (meaning-node, x.is, n.value, k.value, top, index_kept k.number n.number kn, zero-mod)
      (same_bits (omega (arith, kn)) (bvlshr-extract n.number k.number x.number kn x.below ∙ zeros_above _ _));
}

pub bv_extract_whole_holds : Holds AnyFunctions bv_extract_whole []
bv_extract_whole_holds = record {
  same = λ e names counts c p.
      let s = c.suits in
      let n = width_at e 0 s.0 in
      let x = word_at e names 1 0 n s.1.0 in
      let some : 1 ≤ n.number = omega (arith, ints, n.is, s.0) in
      let next : n.number ≡ suc (n.number - 1) = omega (arith, some) in
      let top : linear_value e.number (before 0) ≡ pos (n.number - 1) = omega (arith, ints, n.is, some) in
      simp (meaning-node, x.is, top)
      (same_bits (omega (arith, some)) (extract-whole (n.number - 1) x.number (subst (λ m. x.number < 2 ^ m) next x.below)));
}

pub bv_extract_extract_holds : Holds AnyFunctions bv_extract_extract bv_extract_extract_constraints
bv_extract_extract_holds = record {
  same = λ e names counts c p.
      let s = c.suits in
      let h = c.hold in
      let n = width_at e 0 s.0 in
      let i = index_at e 1 s.1.0 in
      let j = index_at e 2 s.1.1.0 in
      let k = index_at e 3 s.1.1.1.0 in
      let l = index_at e 4 s.1.1.1.1.0 in
      let x = word_at e names 5 0 n s.1.1.1.1.1.0 in
      let ij : i.number ≤ j.number = omega (arith, ints, i.is, j.is, h.1.1.0) in
      let jl : j.number + k.number ≤ l.number = omega (arith, ints, j.is, k.is, l.is, h.1.1.1.0) in
      let high : linear_value e.number (linear_sum 2 3) ≡ pos (j.number + k.number) = omega (arith, ints, j.is, k.is) in
      let low : linear_value e.number (linear_sum 1 3) ≡ pos (i.number + k.number) = omega (arith, ints, i.is, k.is) in
      simp (meaning-node, x.is, i.value, j.value, k.value, l.value, high, low)
      (same_bits (omega (arith, ij)) (extract-extract l.number k.number j.number i.number x.number ij jl));
}

pub bv_extract_concat_low_holds : Holds AnyFunctions bv_extract_concat_low bv_extract_concat_low_constraints
bv_extract_concat_low_holds = record {
  same = λ e names counts c p.
      let s = c.suits in
      let h = c.hold in
      let i = index_at e 0 s.0 in
      let j = index_at e 1 s.1.0 in
      let m = width_at e 4 s.1.1.1.1.0 in
      let us = (e.group 2).items in
      let w = word_at e names 3 4 m s.1.1.1.0 in
      let jm : j.number < m.number = omega (arith, ints, j.is, m.is, h.0) in
      let ij : i.number ≤ j.number = omega (arith, ints, i.is, j.is, h.1.0) in
      simp (meaning-node, w.is, i.value, j.value, join-last m.number w.number us w.below (wide_each us s.1.1.0.0))
      (same_bits refl ((extract-concat m.number j.number i.number (joined_number us) w.number ij w.below).0 jm));
}

pub bv_extract_concat_high_holds : Holds AnyFunctions bv_extract_concat_high bv_extract_concat_high_constraints
bv_extract_concat_high_holds = record {
  same = λ e names counts c p.
      let s = c.suits in
      let h = c.hold in
      let i = index_at e 0 s.0 in
      let j = index_at e 1 s.1.0 in
      let m = width_at e 4 s.1.1.1.1.0 in
      let us = (e.group 2).items in
      let t = total_width us in
      let et : e.number 2 ≡ pos t = s.1.1.0.1 in
      let w = word_at e names 3 4 m s.1.1.1.0 in
      let ti : t ≤ i.number = omega (arith, ints, i.is, et, h.0) in
      let ij : i.number ≤ j.number = omega (arith, ints, i.is, j.is, h.1.0) in
      let high : linear_value e.number (less 1 2) ≡ pos (j.number - t) = omega (arith, ints, j.is, et, ti, ij) in
      let low : linear_value e.number (less 0 2) ≡ pos (i.number - t) = omega (arith, ints, i.is, et, ti) in
      simp (meaning-node, append-nil, w.is, i.value, j.value, high, low, join-first m.number w.number us w.below (wide_each us s.1.1.0.0))
      (same_bits (omega (arith, ti, ij)) ((extract-concat t j.number i.number w.number (joined_number us) ij (joined-below us (wide_each us s.1.1.0.0))).1 ti));
}

pub bv_concat_extract_holds : Holds AnyFunctions bv_concat_extract bv_concat_extract_constraints
bv_concat_extract_holds = record {
  same = λ e names counts c p.
      let s = c.suits in
      let h = c.hold in
      let n = width_at e 0 s.0 in
      let i = index_at e 1 s.1.0 in
      let j = index_at e 2 s.1.1.0 in
      let k = index_at e 3 s.1.1.1.0 in
      let x = word_at e names 4 0 n s.1.1.1.1.0 in
      let us = (e.group 5).items in
      let vs = (e.group 6).items in
      let kj : j.number ≤ k.number = omega (arith, ints, j.is, k.is, h.0) in
      let ij : i.number + 1 ≤ j.number = omega (arith, ints, i.is, j.is, h.1.1.0) in
      let l = j.number - 1 in
      let top : linear_value e.number (before 2) ≡ pos l = omega (arith, ints, j.is, ij) in
      let part : ℕ → ℕ → Item = λ a b. bits (a - b + 1) (slice a b x.number) in
      let next : suc l ≡ j.number = omega (arith, ij) in
      let numbers : concat (slice k.number j.number x.number) (l - i.number + 1) (slice l i.number x.number) ≡ slice k.number i.number x.number =
      subst (λ j. concat (slice k.number j x.number) (l - i.number + 1) (slice l i.number x.number) ≡ slice k.number i.number x.number) next
      (concat-extract k.number l i.number x.number (omega (arith, ij)) (omega (arith, ij, kj))) in
      simp (meaning-node, append-nil, x.is, i.value, j.value, k.value, top)
      (ap (λ r. r.value ∷ [])
      (join-merge (part k.number j.number) (part l i.number) (part k.number i.number) (omega (arith, ij, kj)) numbers us vs
      (wide_each us s.1.1.1.1.1.0.0) (slice_is k.number j.number x.number) (slice_is l i.number x.number) (slice_is k.number i.number x.number) (wide_each vs s.1.1.1.1.1.1.0.0)));
}

pub bv_zero_extend_holds : Holds AnyFunctions bv_zero_extend bv_zero_extend_constraints
bv_zero_extend_holds = record {
  same = λ e names counts c p.
      let s = c.suits in
      let n = width_at e 0 s.0 in
      let k = index_at e 1 s.1.0 in
      let x = word_at e names 2 0 n s.1.1.0 in
      simp (meaning-node, x.is, k.value, zero-mod) (same_bits (omega arith) (zeros_above _ _));
}
