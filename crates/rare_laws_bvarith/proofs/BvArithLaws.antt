-- The rules of arithmetic on bit vectors hold, at every width and for lists of every length.
use Rattle.std.proofs.Common.{◌≡◌, ℕ, ◌-◌, ◌%◌, ◌^◌, Bool, true, false, not, [], ◌∷◌, refl, ap, ◌∙◌, sym, arith}
use Rattle.std.proofs.lemmas.Bool.{ltb-true, ltb-false, le-ltb, le-leb, lt-leb}
use Rattle.std.specs.Prelude.{pos, negsuc, nat_lt, nat_le}
use Rattle.rare_bits.specs.Bits.{bvneg}
use Rattle.rare_bits.proofs.ModularLemmas.{bvsub-bvadd}
use Rattle.rare_bit_operators.proofs.OperatorLemmas.{bvmul-zero, bvadd-bvneg, bvneg-bvnot}
use Rattle.rare_sort.specs.declared.head.Head.TheVariants as head
use Rattle.rare_meaning.specs.Values.{Bits, BitVectors, bits_number}
use Rattle.rare_meaning.specs.Settings.{item, one}
use Rattle.rare_meaning.specs.Interpretations.{AnyFunctions}
use Rattle.rare_meaning.specs.Operators.{bits, truth}
use Rattle.rare_meaning.proofs.MeaningLemmas.{meaning-node}
use Rattle.rare_rule.specs.Holds.{Holds}
use Rattle.rare_rule.specs.Written.{param, apply}
use Rattle.rare_shapes.specs.RuleShapes.{word}
use Rattle.rare_shapes.proofs.Totals.{same_terms, term_param, value_at, term_two}
use Rattle.rare_shapes.proofs.ApplyLemmas.{means_one, means_terms, same_values}
use Rattle.rare_shapes.proofs.WordLemmas.{width_in, value_is, value_below, literal_is, zero_is, ones_are, at_width, word_unit, word_absorbing, word_flat, word_cancel}
use Rattle.rare_shapes.proofs.WordOperators.{word_sum, word_product, not_maps, neg_maps}
use Rattle.rare_laws_bvarith.specs.BvArithRules.{bv_add_zero, bv_add_flat, bv_add_cancel, bv_mul_one, bv_mul_zero, bv_neg_elim, bv_sub_elim, bv_ugt_elim, bv_uge_elim, bv_ule_elim, bv_sgt_elim, bv_ult_refl, bv_ult_zero, bv_udiv_zero, bv_urem_zero}

-- ---- tests of numbers

not_less : (a b : ℕ) → nat_le b a ≡ not (nat_lt a b)
not_less a b = by (nat_lt a b) refl
  where
    by : (t : Bool) → nat_lt a b ≡ t → nat_le b a ≡ not t
    by true e = lt-leb b a (ltb-true a b e)
    by false e = le-leb b a (ltb-false a b e)

not_below : (a : ℕ) → nat_lt a a ≡ false
not_below a = le-ltb a a (omega arith)

none_below : (a : ℕ) → nat_lt a 0 ≡ false
none_below a = le-ltb a 0 (omega arith)

-- ---- arithmetic

pub bv_add_zero_holds : Holds AnyFunctions bv_add_zero []
bv_add_zero_holds = word_unit head.BvAdd word_sum _ (pos 0) zero_is

pub bv_add_flat_holds : Holds AnyFunctions bv_add_flat []
bv_add_flat_holds = word_flat head.BvAdd word_sum _

pub bv_add_cancel_holds : Holds AnyFunctions bv_add_cancel []
bv_add_cancel_holds = word_cancel head.BvAdd word_sum _ (apply head.BvNeg (param 1 ∷ [])) bvneg (λ names e v. neg_maps names e (param 1) v) bvadd-bvneg

pub bv_mul_one_holds : Holds AnyFunctions bv_mul_one []
bv_mul_one_holds = word_unit head.BvMul word_product _ (pos 1) (λ n. refl)

pub bv_mul_zero_holds : Holds AnyFunctions bv_mul_zero []
bv_mul_zero_holds = word_absorbing head.BvMul word_product _ (pos 0) (λ n. 0) zero_is bvmul-zero

pub bv_neg_elim_holds : Holds AnyFunctions bv_neg_elim []
bv_neg_elim_holds = record {
  same = λ e names counts c met.
      let n = width_in e.number in
      let x = term_param e (BitVectors n) 1 c.suits.1.0 in
      let v = value_at c.suits.1.0 in
      let more = literal_is (pos 1) (λ n. 1 % 2 ^ n) (λ n. refl) names e in
      same_terms e e (BitVectors n) _ _ _ _
      (neg_maps names e (param 1) v x)
      (term_two head.BvAdd (BitVectors n) (at_width head.BvAdd word_sum n) e _ _ _ _ (not_maps names e (param 1) v x) more)
      (ap (Bits n) (bvneg-bvnot n (bits_number v) (value_below n v x.fits)));
}

pub bv_sub_elim_holds : Holds AnyFunctions bv_sub_elim []
bv_sub_elim_holds = record {
  same = λ e names counts c met.
      let n = width_in e.number in
      let x = term_param e (BitVectors n) 1 c.suits.1.0 in
      let v = value_at c.suits.1.0 in
      let y = term_param e (BitVectors n) 2 c.suits.1.1.0 in
      let w = value_at c.suits.1.1.0 in
      let right = term_two head.BvAdd (BitVectors n) (at_width head.BvAdd word_sum n) e _ _ _ _ x (neg_maps names e (param 2) w y) in
      same_values e e _ _
      (means_terms e (BitVectors n) head.BvSub (param 1) (param 2) v w x y
      ∙ ap (λ z. one (bits n z)) (bvsub-bvadd n (bits_number v) (bits_number w))
      ∙ sym right.means);
}

pub bv_ugt_elim_holds : Holds AnyFunctions bv_ugt_elim []
bv_ugt_elim_holds = record {
  same = λ e names counts c met.
      let n = width_in e.number in
      let x = term_param e (BitVectors n) 1 c.suits.1.0 in
      let v = value_at c.suits.1.0 in
      let y = term_param e (BitVectors n) 2 c.suits.1.1.0 in
      let w = value_at c.suits.1.1.0 in
      same_values e e _ _ (means_terms e (BitVectors n) head.BvUgt (param 1) (param 2) v w x y ∙ sym (means_terms e (BitVectors n) head.BvUlt (param 2) (param 1) w v y x));
}

pub bv_uge_elim_holds : Holds AnyFunctions bv_uge_elim []
bv_uge_elim_holds = record {
  same = λ e names counts c met.
      let n = width_in e.number in
      let x = term_param e (BitVectors n) 1 c.suits.1.0 in
      let v = value_at c.suits.1.0 in
      let y = term_param e (BitVectors n) 2 c.suits.1.1.0 in
      let w = value_at c.suits.1.1.0 in
      same_values e e _ _
      (means_terms e (BitVectors n) head.BvUge (param 1) (param 2) v w x y
      ∙ ap (λ z. one (truth z)) (not_less (bits_number v) (bits_number w))
      ∙ sym (means_one e head.Not _ _ (means_terms e (BitVectors n) head.BvUlt (param 1) (param 2) v w x y)));
}

pub bv_ule_elim_holds : Holds AnyFunctions bv_ule_elim []
bv_ule_elim_holds = record {
  same = λ e names counts c met.
      let n = width_in e.number in
      let x = term_param e (BitVectors n) 1 c.suits.1.0 in
      let v = value_at c.suits.1.0 in
      let y = term_param e (BitVectors n) 2 c.suits.1.1.0 in
      let w = value_at c.suits.1.1.0 in
      same_values e e _ _
      (means_terms e (BitVectors n) head.BvUle (param 1) (param 2) v w x y
      ∙ ap (λ z. one (truth z)) (not_less (bits_number w) (bits_number v))
      ∙ sym (means_one e head.Not _ _ (means_terms e (BitVectors n) head.BvUlt (param 2) (param 1) w v y x)));
}

pub bv_sgt_elim_holds : Holds AnyFunctions bv_sgt_elim []
bv_sgt_elim_holds = record {
  same = λ e names counts c met.
      let n = width_in e.number in
      let x = term_param e (BitVectors n) 1 c.suits.1.0 in
      let v = value_at c.suits.1.0 in
      let y = term_param e (BitVectors n) 2 c.suits.1.1.0 in
      let w = value_at c.suits.1.1.0 in
      same_values e e _ _ (means_terms e (BitVectors n) head.BvSgt (param 1) (param 2) v w x y ∙ sym (means_terms e (BitVectors n) head.BvSlt (param 2) (param 1) w v y x));
}

pub bv_ult_refl_holds : Holds AnyFunctions bv_ult_refl []
bv_ult_refl_holds = record {
  same = λ e names counts c met.
      let n = width_in e.number in
      let x = term_param e (BitVectors n) 1 c.suits.1.0 in
      let v = value_at c.suits.1.0 in
      same_values e e _ _ (means_terms e (BitVectors n) head.BvUlt (param 1) (param 1) v v x x ∙ ap (λ z. one (truth z)) (not_below (bits_number v)) ∙ sym (meaning-node e head.False [] []));
}

pub bv_ult_zero_holds : Holds AnyFunctions bv_ult_zero []
bv_ult_zero_holds = record {
  same = λ e names counts c met.
      let n = width_in e.number in
      let x = term_param e (BitVectors n) 1 c.suits.1.0 in
      let v = value_at c.suits.1.0 in
      let none = literal_is (pos 0) (λ n. 0) zero_is names e in
      same_values e e _ _ (means_terms e (BitVectors n) head.BvUlt (param 1) (word (pos 0)) v (Bits n 0) x none ∙ ap (λ z. one (truth z)) (none_below (bits_number v)) ∙ sym (meaning-node e head.False [] []));
}

pub bv_udiv_zero_holds : Holds AnyFunctions bv_udiv_zero []
bv_udiv_zero_holds = record {
  same = λ e names counts c met.
      let n = width_in e.number in
      let x = term_param e (BitVectors n) 1 c.suits.1.0 in
      let v = value_at c.suits.1.0 in
      let none = literal_is (pos 0) (λ n. 0) zero_is names e in
      let ones = literal_is (negsuc 0) (λ n. 2 ^ n - 1) ones_are names e in
      same_values e e _ _ (means_terms e (BitVectors n) head.BvUdiv (param 1) (word (pos 0)) v (Bits n 0) x none ∙ sym ones.means);
}

pub bv_urem_zero_holds : Holds AnyFunctions bv_urem_zero []
bv_urem_zero_holds = record {
  same = λ e names counts c met.
      let n = width_in e.number in
      let x = term_param e (BitVectors n) 1 c.suits.1.0 in
      let v = value_at c.suits.1.0 in
      let none = literal_is (pos 0) (λ n. 0) zero_is names e in
      same_values e e _ _ (means_terms e (BitVectors n) head.BvUrem (param 1) (word (pos 0)) v (Bits n 0) x none ∙ ap one (ap (item (BitVectors n)) (sym (value_is n v x.fits))) ∙ sym x.means);
}
