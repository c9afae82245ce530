-- The rules of theory Ints hold.
use Rattle.std.proofs.Common.{[], ◌∷◌, refl, ap, ◌∙◌, sym}
use Rattle.std.specs.Prelude.{pos, neg_ℤ}
use Rattle.std.proofs.Math.IntN.{+ℤ_invr, neg_ℤ-neg_ℤ}
use Rattle.rare_linear.proofs.Products.{mul-add}
use Rattle.rare_sort.specs.declared.head.Head.TheVariants as head
use Rattle.rare_meaning.specs.Values.{Truth, Whole, whole_of}
use Rattle.rare_meaning.specs.Settings.{Item}
use Rattle.rare_meaning.specs.Interpretations.{AnyFunctions}
use Rattle.rare_meaning.proofs.MeaningLemmas.{meaning-node}
use Rattle.rare_rule.specs.Holds.{Holds}
use Rattle.rare_rule.specs.Written.{param, apply}
use Rattle.rare_shapes.specs.RuleShapes.{wholes}
use Rattle.rare_shapes.proofs.Shapes.{unit_holds, absorbing_holds, flat_holds, swap_holds, cancel_holds}
use Rattle.rare_shapes.proofs.WholeLemmas.{at_whole, sums, products, skips_none, numeral_is, negated, neg_maps, add_negated, zero_times}
use Rattle.rare_laws_int.proofs.WholeFacts.{less_is, le_itself, abs_is, div_by_one, mod_by_one, div_itself, mod_of_small, mod_of_mod, not_zero, is_true}
use Rattle.rare_laws_int.specs.IntRules.{int_add_zero, int_add_flat, int_add_comm, int_add_cancel, int_mul_one, int_mul_zero, int_minus_self, int_sub_elim, int_neg_neg, int_distrib, int_gt_elim, int_lt_elim, int_ge_elim, int_le_refl, int_div_one, int_mod_one, int_mod_small, int_div_self, int_mod_mod, int_abs_elim}

-- ---- lists

pub int_add_zero_holds : Holds AnyFunctions int_add_zero []
int_add_zero_holds = unit_holds AnyFunctions wholes skips_none head.Add sums _ (apply (head.Numeral 0) []) (numeral_is 0)

pub int_add_flat_holds : Holds AnyFunctions int_add_flat []
int_add_flat_holds = flat_holds AnyFunctions wholes skips_none head.Add sums _

pub int_add_comm_holds : Holds AnyFunctions int_add_comm []
int_add_comm_holds = swap_holds AnyFunctions wholes skips_none head.Add sums _

pub int_add_cancel_holds : Holds AnyFunctions int_add_cancel []
int_add_cancel_holds =
    cancel_holds AnyFunctions wholes skips_none head.Add sums _ (apply head.Neg (param 0 ∷ [])) negated (λ names e v. neg_maps names e (param 0) v) (λ number names v fits. ap Whole (add_negated (whole_of v)))

pub int_mul_one_holds : Holds AnyFunctions int_mul_one []
int_mul_one_holds = unit_holds AnyFunctions wholes skips_none head.Mul products _ (apply (head.Numeral 1) []) (numeral_is 1)

pub int_mul_zero_holds : Holds AnyFunctions int_mul_zero []
int_mul_zero_holds = absorbing_holds AnyFunctions wholes skips_none head.Mul products _ (apply (head.Numeral 0) []) (λ s. Whole (pos 0)) (numeral_is 0) (λ number names v. ap Whole (zero_times (whole_of v)))

-- ---- others

pub int_minus_self_holds : Holds AnyFunctions int_minus_self []
int_minus_self_holds = record {
  same = λ e names counts d p.
      at_whole d.suits.0 (λ i i_is.
      simp (meaning-node, i_is) (ap (λ z. Whole z ∷ []) (+ℤ_invr i)));
}

pub int_sub_elim_holds : Holds AnyFunctions int_sub_elim []
int_sub_elim_holds = record {
  same = λ e names counts d p.
      at_whole d.suits.0 (λ i i_is.
      at_whole d.suits.1.0 (λ j j_is.
      simp (meaning-node, i_is, j_is)));
}

pub int_neg_neg_holds : Holds AnyFunctions int_neg_neg []
int_neg_neg_holds = record {
  same = λ e names counts d p.
      at_whole d.suits.0 (λ i i_is.
      simp (meaning-node, i_is) (ap (λ z. Whole z ∷ []) (neg_ℤ-neg_ℤ i)));
}

pub int_distrib_holds : Holds AnyFunctions int_distrib []
int_distrib_holds = record {
  same = λ e names counts d p.
      at_whole d.suits.0 (λ i i_is.
      at_whole d.suits.1.0 (λ j j_is.
      at_whole d.suits.1.1.0 (λ k k_is.
      simp (meaning-node, i_is, j_is, k_is) (ap (λ z. Whole z ∷ []) (mul-add i j k)))));
}

pub int_gt_elim_holds : Holds AnyFunctions int_gt_elim []
int_gt_elim_holds = record {
  same = λ e names counts d p.
      at_whole d.suits.0 (λ i i_is.
      at_whole d.suits.1.0 (λ j j_is.
      simp (meaning-node, i_is, j_is) (ap (λ b. Truth b ∷ []) (less_is j i))));
}

pub int_lt_elim_holds : Holds AnyFunctions int_lt_elim []
int_lt_elim_holds = record {
  same = λ e names counts d p.
      at_whole d.suits.0 (λ i i_is.
      at_whole d.suits.1.0 (λ j j_is.
      simp (meaning-node, i_is, j_is) (ap (λ b. Truth b ∷ []) (less_is i j))));
}

pub int_ge_elim_holds : Holds AnyFunctions int_ge_elim []
int_ge_elim_holds = record {
  same = λ e names counts d p.
      at_whole d.suits.0 (λ i i_is.
      at_whole d.suits.1.0 (λ j j_is.
      simp (meaning-node, i_is, j_is)));
}

pub int_le_refl_holds : Holds AnyFunctions int_le_refl []
int_le_refl_holds = record {
  same = λ e names counts d p.
      at_whole d.suits.0 (λ i i_is.
      simp (meaning-node, i_is) (ap (λ b. Truth b ∷ []) (le_itself i)));
}

pub int_div_one_holds : Holds AnyFunctions int_div_one []
int_div_one_holds = record {
  same = λ e names counts d p.
      at_whole d.suits.0 (λ i i_is.
      simp (meaning-node, i_is) (ap (λ z. Whole z ∷ []) (div_by_one i)));
}

pub int_mod_one_holds : Holds AnyFunctions int_mod_one []
int_mod_one_holds = record {
  same = λ e names counts d p.
      at_whole d.suits.0 (λ i i_is.
      simp (meaning-node, i_is) (ap (λ z. Whole z ∷ []) (mod_by_one i)));
}

pub int_mod_small_holds : Holds AnyFunctions int_mod_small []
int_mod_small_holds = record {
  same = λ e names counts d p.
      at_whole d.suits.0 (λ i i_is.
      at_whole d.suits.1.0 (λ j j_is.
      let low = simp (meaning-node, i_is) at p.0 in
      let high = simp (meaning-node, i_is, j_is) at p.1.0 in
      simp (meaning-node, i_is, j_is) (ap (λ z. Whole z ∷ []) (mod_of_small e.remainder_by_zero i j (is_true _ low) (is_true _ high)))));
}

pub int_div_self_holds : Holds AnyFunctions int_div_self []
int_div_self_holds = record {
  same = λ e names counts d p.
      at_whole d.suits.0 (λ i i_is.
      let some = simp (meaning-node, i_is) at p.0 in
      simp (meaning-node, i_is) (ap (λ z. Whole z ∷ []) (div_itself e.quotient_by_zero i (not_zero i some))));
}

pub int_mod_mod_holds : Holds AnyFunctions int_mod_mod []
int_mod_mod_holds = record {
  same = λ e names counts d p.
      at_whole d.suits.0 (λ i i_is.
      at_whole d.suits.1.0 (λ j j_is.
      let some = simp (meaning-node, j_is) at p.0 in
      simp (meaning-node, i_is, j_is) (ap (λ z. Whole z ∷ []) (mod_of_mod e.remainder_by_zero i j (not_zero j some)))));
}

pub int_abs_elim_holds : Holds AnyFunctions int_abs_elim []
int_abs_elim_holds = record {
  same = λ e names counts d p.
      at_whole d.suits.0 (λ i i_is.
      simp (meaning-node, i_is) (ap (λ (v : Item). v.value ∷ []) (abs_is i)));
}
