-- Written rules are in form.
use Rattle.std.proofs.Common.{refl}
use Rattle.rare_rule.specs.Rules.{IsInForm}
use Rattle.rare_rule.specs.RuleRows.{and_true, ite_cond, and_de_morgan, shift_left, low_slice, concat_low}
use Rattle.rare_rule.proofs.Walks.{walk-node, nesting-Bool, nesting-BitVec, nesting-Named}
use Rattle.rare_rule.proofs.FormLemmas.{in_form}

pub and_true_form : IsInForm and_true
and_true_form = in_form and_true refl (simp nesting-Bool refl) (simp walk-node refl) (simp walk-node refl) (simp walk-node refl)

pub ite_cond_form : IsInForm ite_cond
ite_cond_form = in_form ite_cond refl (simp (nesting-Bool, nesting-Named) refl) (simp walk-node refl) (simp walk-node refl) (simp walk-node refl)

pub and_de_morgan_form : IsInForm and_de_morgan
and_de_morgan_form = in_form and_de_morgan refl (simp nesting-Bool refl) (simp walk-node refl) (simp walk-node refl) (simp walk-node refl)

pub shift_left_form : IsInForm shift_left
shift_left_form = in_form shift_left refl (simp nesting-BitVec refl) (simp walk-node refl) (simp walk-node refl) (simp walk-node refl)

pub low_slice_form : IsInForm low_slice
low_slice_form = in_form low_slice refl (simp nesting-BitVec refl) (simp walk-node refl) (simp walk-node refl) (simp walk-node refl)

pub concat_low_form : IsInForm concat_low
concat_low_form = in_form concat_low refl (simp nesting-BitVec refl) (simp walk-node refl) (simp walk-node refl) (simp walk-node refl)
