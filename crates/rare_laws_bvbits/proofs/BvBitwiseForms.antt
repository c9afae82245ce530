-- The rules of operators that go bit by bit are in form.
use Rattle.std.proofs.Common.{refl}
use Rattle.rare_rule.specs.Rules.{IsInForm}
use Rattle.rare_rule.proofs.Walks.{walk-node, nesting-BitVec}
use Rattle.rare_rule.proofs.FormLemmas.{in_form}
use Rattle.rare_laws_bvbits.specs.BvBitwiseRules.{bv_and_ones, bv_and_zero, bv_and_flat, bv_and_dup, bv_and_compl, bv_and_de_morgan, bv_or_zero, bv_or_ones, bv_or_flat, bv_or_compl, bv_xor_zero, bv_xor_ones, bv_xor_dup, bv_not_not}

pub bv_and_ones_form : IsInForm bv_and_ones
bv_and_ones_form = in_form bv_and_ones refl (simp nesting-BitVec refl) (simp walk-node refl) (simp walk-node refl) (simp walk-node refl)

pub bv_and_zero_form : IsInForm bv_and_zero
bv_and_zero_form = in_form bv_and_zero refl (simp nesting-BitVec refl) (simp walk-node refl) (simp walk-node refl) (simp walk-node refl)

pub bv_and_flat_form : IsInForm bv_and_flat
bv_and_flat_form = in_form bv_and_flat refl (simp nesting-BitVec refl) (simp walk-node refl) (simp walk-node refl) (simp walk-node refl)

pub bv_and_dup_form : IsInForm bv_and_dup
bv_and_dup_form = in_form bv_and_dup refl (simp nesting-BitVec refl) (simp walk-node refl) (simp walk-node refl) (simp walk-node refl)

pub bv_and_compl_form : IsInForm bv_and_compl
bv_and_compl_form = in_form bv_and_compl refl (simp nesting-BitVec refl) (simp walk-node refl) (simp walk-node refl) (simp walk-node refl)

pub bv_and_de_morgan_form : IsInForm bv_and_de_morgan
bv_and_de_morgan_form = in_form bv_and_de_morgan refl (simp nesting-BitVec refl) (simp walk-node refl) (simp walk-node refl) (simp walk-node refl)

pub bv_or_zero_form : IsInForm bv_or_zero
bv_or_zero_form = in_form bv_or_zero refl (simp nesting-BitVec refl) (simp walk-node refl) (simp walk-node refl) (simp walk-node refl)

pub bv_or_ones_form : IsInForm bv_or_ones
bv_or_ones_form = in_form bv_or_ones refl (simp nesting-BitVec refl) (simp walk-node refl) (simp walk-node refl) (simp walk-node refl)

pub bv_or_flat_form : IsInForm bv_or_flat
bv_or_flat_form = in_form bv_or_flat refl (simp nesting-BitVec refl) (simp walk-node refl) (simp walk-node refl) (simp walk-node refl)

pub bv_or_compl_form : IsInForm bv_or_compl
bv_or_compl_form = in_form bv_or_compl refl (simp nesting-BitVec refl) (simp walk-node refl) (simp walk-node refl) (simp walk-node refl)

pub bv_xor_zero_form : IsInForm bv_xor_zero
bv_xor_zero_form = in_form bv_xor_zero refl (simp nesting-BitVec refl) (simp walk-node refl) (simp walk-node refl) (simp walk-node refl)

pub bv_xor_ones_form : IsInForm bv_xor_ones
bv_xor_ones_form = in_form bv_xor_ones refl (simp nesting-BitVec refl) (simp walk-node refl) (simp walk-node refl) (simp walk-node refl)

pub bv_xor_dup_form : IsInForm bv_xor_dup
bv_xor_dup_form = in_form bv_xor_dup refl (simp nesting-BitVec refl) (simp walk-node refl) (simp walk-node refl) (simp walk-node refl)

pub bv_not_not_form : IsInForm bv_not_not
bv_not_not_form = in_form bv_not_not refl (simp nesting-BitVec refl) (simp walk-node refl) (simp walk-node refl) (simp walk-node refl)
