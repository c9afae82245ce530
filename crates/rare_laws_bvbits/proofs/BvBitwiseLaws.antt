-- The rules of operators that go bit by bit hold, at every width and for lists of every length.
use Rattle.std.proofs.Common.{◌≡◌, ◌-◌, ◌^◌, [], ◌∷◌, refl, ap, ◌∙◌, sym, arith}
use Rattle.std.specs.Prelude.{pos, negsuc}
use Rattle.rare_bits.specs.Bits.{bvnot}
use Rattle.rare_bit_operators.proofs.OperatorLemmas.{bvand-zero, bvand-same, bvand-bvnot, bvor-ones, bvor-bvnot, bvxor-ones, bvxor-same, bvnot-bvnot, bvnot-bvand}
use Rattle.rare_sort.specs.declared.head.Head.TheVariants as head
use Rattle.rare_meaning.specs.Values.{Bits, BitVectors, bits_number}
use Rattle.rare_meaning.specs.Interpretations.{AnyFunctions}
use Rattle.rare_rule.specs.Holds.{Holds}
use Rattle.rare_rule.specs.Written.{param, apply}
use Rattle.rare_shapes.specs.Operators.{total}
use Rattle.rare_shapes.specs.RuleShapes.{word}
use Rattle.rare_shapes.proofs.Totals.{same_terms, term_param, value_at, swap, term_all, total_term, total_at, total_list}
use Rattle.rare_shapes.proofs.WordLemmas.{width_in, value_is, value_below, literal_is, zero_is, ones_are, at_width, word_unit, word_absorbing, word_flat, word_dup, word_cancel_same, word_compl, word_de_morgan}
use Rattle.rare_shapes.proofs.WordOperators.{word_and, word_or, word_xor, not_maps}
use Rattle.rare_laws_bvbits.specs.BvBitwiseRules.{bv_and_ones, bv_and_zero, bv_and_flat, bv_and_dup, bv_and_compl, bv_and_de_morgan, bv_or_zero, bv_or_ones, bv_or_flat, bv_or_compl, bv_xor_zero, bv_xor_ones, bv_xor_dup, bv_not_not}

pub bv_and_ones_holds : Holds AnyFunctions bv_and_ones []
bv_and_ones_holds = word_unit head.BvAnd word_and _ (negsuc 0) ones_are

pub bv_and_zero_holds : Holds AnyFunctions bv_and_zero []
bv_and_zero_holds = word_absorbing head.BvAnd word_and _ (pos 0) (λ n. 0) zero_is bvand-zero

pub bv_and_flat_holds : Holds AnyFunctions bv_and_flat []
bv_and_flat_holds = word_flat head.BvAnd word_and _

pub bv_and_dup_holds : Holds AnyFunctions bv_and_dup []
bv_and_dup_holds = word_dup head.BvAnd word_and _ bvand-same

pub bv_and_compl_holds : Holds AnyFunctions bv_and_compl []
bv_and_compl_holds = word_compl head.BvAnd word_and _ (apply head.BvNot (param 1 ∷ [])) bvnot (λ names e v. not_maps names e (param 1) v) (pos 0) (λ n. 0) zero_is bvand-bvnot bvand-zero

pub bv_and_de_morgan_holds : Holds AnyFunctions bv_and_de_morgan []
bv_and_de_morgan_holds = word_de_morgan head.BvAnd word_and _ head.BvOr word_or head.BvNot bvnot not_maps bvnot-bvand

pub bv_or_zero_holds : Holds AnyFunctions bv_or_zero []
bv_or_zero_holds = word_unit head.BvOr word_or _ (pos 0) zero_is

pub bv_or_ones_holds : Holds AnyFunctions bv_or_ones []
bv_or_ones_holds = word_absorbing head.BvOr word_or _ (negsuc 0) (λ n. 2 ^ n - 1) ones_are bvor-ones

pub bv_or_flat_holds : Holds AnyFunctions bv_or_flat []
bv_or_flat_holds = word_flat head.BvOr word_or _

pub bv_or_compl_holds : Holds AnyFunctions bv_or_compl []
bv_or_compl_holds = word_compl head.BvOr word_or _ (apply head.BvNot (param 1 ∷ [])) bvnot (λ names e v. not_maps names e (param 1) v) (negsuc 0) (λ n. 2 ^ n - 1) ones_are bvor-bvnot bvor-ones

pub bv_xor_zero_holds : Holds AnyFunctions bv_xor_zero []
bv_xor_zero_holds = word_unit head.BvXor word_xor _ (pos 0) zero_is

pub bv_xor_ones_holds : Holds AnyFunctions bv_xor_ones []
bv_xor_ones_holds = record {
  same = λ e names counts c met.
      let n = width_in e.number in
      let o = at_width head.BvXor word_xor n in
      let a = total_at head.BvXor (BitVectors n) o c.suits.1.0.0 in
      let b = total_at head.BvXor (BitVectors n) o c.suits.1.1.0.0 in
      let x = total_list head.BvXor (BitVectors n) o e 1 c.suits.1.0.0 in
      let y = total_list head.BvXor (BitVectors n) o e 2 c.suits.1.1.0.0 in
      let ones = literal_is (negsuc 0) (λ n. 2 ^ n - 1) ones_are names e in
      let one_word = Bits n (2 ^ n - 1) in
      let rest = total o (a ∷ b ∷ []) in
      same_terms e e (BitVectors n) _ _ _ _
      (term_all head.BvXor (BitVectors n) o e (param 1) (word (negsuc 0) ∷ param 2 ∷ []) a (one_word ∷ b ∷ []) (x, (total_term head.BvXor (BitVectors n) o e _ one_word ones, (y, tt))))
      (not_maps names e _ _ (term_all head.BvXor (BitVectors n) o e (param 1) (param 2 ∷ []) a (b ∷ []) (x, (y, tt))))
      (swap head.BvXor (BitVectors n) o a one_word (total o (b ∷ [])) ∙ ap (Bits n) (bvxor-ones n (bits_number rest)));
}

pub bv_xor_dup_holds : Holds AnyFunctions bv_xor_dup []
bv_xor_dup_holds = word_cancel_same head.BvXor word_xor _ (λ n a lt. bvxor-same n a)

pub bv_not_not_holds : Holds AnyFunctions bv_not_not []
bv_not_not_holds = record {
  same = λ e names counts c met.
      let n = width_in e.number in
      let x = term_param e (BitVectors n) 1 c.suits.1.0 in
      let v = value_at c.suits.1.0 in
      same_terms e e (BitVectors n) _ _ _ _
      (not_maps names e _ _ (not_maps names e (param 1) v x))
      x
      (ap (Bits n) (bvnot-bvnot n (bits_number v) (value_below n v x.fits)) ∙ sym (value_is n v x.fits));
}
