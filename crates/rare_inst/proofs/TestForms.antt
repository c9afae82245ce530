-- The rules that tests write are in form.
use Rattle.std.proofs.Common.{refl}
use Rattle.rare_rule.specs.Rules.{IsInForm}
use Rattle.rare_rule.specs.RuleRows.{and_true, and_de_morgan}
use Rattle.rare_rule.proofs.Walks.{walk-node, nesting-Bool, nesting-Int, nesting-BitVec}
use Rattle.rare_rule.proofs.FormLemmas.{in_form}
use Rattle.rare_inst.specs.InstanceRows.{joining}
use Rattle.rare_inst.specs.inner.TestRules.{and_cond, sum_of_list, words_of_list}

pub and_true_form : IsInForm and_true
and_true_form = in_form and_true refl (simp nesting-Bool refl) (simp walk-node refl) (simp walk-node refl) (simp walk-node refl)

pub and_de_morgan_form : IsInForm and_de_morgan
and_de_morgan_form = in_form and_de_morgan refl (simp nesting-Bool refl) (simp walk-node refl) (simp walk-node refl) (simp walk-node refl)

pub and_cond_form : IsInForm and_cond
and_cond_form = in_form and_cond refl (simp nesting-Bool refl) (simp walk-node refl) (simp walk-node refl) (simp walk-node refl)

pub sum_of_list_form : IsInForm sum_of_list
sum_of_list_form = in_form sum_of_list refl (simp nesting-Int refl) (simp walk-node refl) (simp walk-node refl) (simp walk-node refl)

pub words_of_list_form : IsInForm words_of_list
words_of_list_form = in_form words_of_list refl (simp nesting-BitVec refl) (simp walk-node refl) (simp walk-node refl) (simp walk-node refl)

pub joining_form : IsInForm joining
joining_form = in_form joining refl (simp nesting-BitVec refl) (simp walk-node refl) (simp walk-node refl) (simp walk-node refl)
