-- The rules that tests write are in form.
use Rattle.std.proofs.Common.{refl, IsTrue, None}
use Rattle.rare_rule.specs.Rules.{IsInForm}
use Rattle.rare_rule.specs.RuleRows.{and_true, ite_cond, and_de_morgan, shift_left, low_slice, concat_low}
use Rattle.rare_rule.proofs.Walks.{walk-node, nesting-Bool, nesting-Int, nesting-BitVec, nesting-Named}
use Rattle.rare_rule.proofs.FormLemmas.{in_form, param_tests, left_tests}
use Rattle.rare_rule.specs.Nodes.{walk}
use Rattle.rare_sort.specs.declared.sort.Sort.TheBlock.{hidden-the_row-Sort-0}
use denote.Hole.Carrier
use Rattle.rare_rule_printing.specs.inner.PrintedRules.{not_not, sorts, two_premises}
use Rattle.rare_rule_printing.proofs.SortTexts.{nesting_array}

pub not_not_form : IsInForm not_not
not_not_form = in_form not_not refl (simp nesting-Bool refl) (simp walk-node refl) (simp walk-node refl) (simp walk-node refl)

sorts_params : IsTrue (param_tests sorts)
unfolding hidden-the_row-Sort-0 denote.Hole.Carrier.hidden
sorts_params = refl

sorts_left : IsTrue (left_tests sorts ((walk sorts.left).nodes None))
unfolding hidden-the_row-Sort-0 denote.Hole.Carrier.hidden
sorts_left = simp walk-node refl

pub sorts_form : IsInForm sorts
sorts_form = in_form sorts sorts_params (simp (nesting_array, nesting-Int, nesting-Named) refl) (simp walk-node refl) sorts_left (simp walk-node refl)

pub two_premises_form : IsInForm two_premises
two_premises_form = in_form two_premises refl (simp nesting-BitVec refl) (simp walk-node refl) (simp walk-node refl) (simp walk-node refl)

pub and_true_form : IsInForm and_true
and_true_form = in_form and_true refl (simp nesting-Bool refl) (simp walk-node refl) (simp walk-node refl) (simp walk-node refl)

pub ite_cond_form : IsInForm ite_cond
ite_cond_form = in_form ite_cond refl (simp (nesting-Bool, nesting-Named) refl) (simp walk-node refl) (simp walk-node refl) (simp walk-node refl)

pub and_de_morgan_form : IsInForm and_de_morgan
and_de_morgan_form = in_form and_de_morgan refl (simp nesting-Bool refl) (simp walk-node refl) (simp walk-node refl) (simp walk-node refl)

pub shift_left_form : IsInForm shift_left
shift_left_form = in_form shift_left refl (simp nesting-BitVec refl) (simp walk-node refl) (simp walk-node refl) (simp walk-node refl)

pub low_slice_form : IsInForm low_slice
low_slice_form = in_form low_slice refl (simp nesting-BitVec refl) (simp walk-node refl) (simp walk-node refl) (simp walk-node refl)

pub concat_low_form : IsInForm concat_low
concat_low_form = in_form concat_low refl (simp nesting-BitVec refl) (simp walk-node refl) (simp walk-node refl) (simp walk-node refl)
