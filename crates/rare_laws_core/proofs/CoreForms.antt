-- The rules of theory Core are in form.
use Rattle.std.proofs.Common.{refl}
use Rattle.rare_rule.specs.Rules.{IsInForm}
use Rattle.rare_rule.proofs.Walks.{walk-node, nesting-Bool, nesting-Named}
use Rattle.rare_rule.proofs.FormLemmas.{in_form}
use Rattle.rare_laws_core.specs.CoreRules.{bool_not_not, bool_and_true, bool_and_false, bool_and_flat, bool_and_dup, bool_and_conf, bool_or_false, bool_or_true, bool_or_flat, bool_or_dup, bool_or_taut, bool_and_comm, bool_or_comm, bool_and_de_morgan, bool_or_de_morgan, bool_impl_elim, bool_xor_false, bool_xor_true, bool_xor_refl, ite_true, ite_false, ite_same, ite_not, ite_bool, ite_then, ite_else, ite_cond, eq_refl, eq_symm, eq_true, eq_false, distinct_elim}

pub bool_not_not_form : IsInForm bool_not_not
bool_not_not_form = in_form bool_not_not refl (simp nesting-Bool refl) (simp walk-node refl) (simp walk-node refl) (simp walk-node refl)

pub bool_and_true_form : IsInForm bool_and_true
bool_and_true_form = in_form bool_and_true refl (simp nesting-Bool refl) (simp walk-node refl) (simp walk-node refl) (simp walk-node refl)

pub bool_and_false_form : IsInForm bool_and_false
bool_and_false_form = in_form bool_and_false refl (simp nesting-Bool refl) (simp walk-node refl) (simp walk-node refl) (simp walk-node refl)

pub bool_and_flat_form : IsInForm bool_and_flat
bool_and_flat_form = in_form bool_and_flat refl (simp nesting-Bool refl) (simp walk-node refl) (simp walk-node refl) (simp walk-node refl)

pub bool_and_dup_form : IsInForm bool_and_dup
bool_and_dup_form = in_form bool_and_dup refl (simp nesting-Bool refl) (simp walk-node refl) (simp walk-node refl) (simp walk-node refl)

pub bool_and_conf_form : IsInForm bool_and_conf
bool_and_conf_form = in_form bool_and_conf refl (simp nesting-Bool refl) (simp walk-node refl) (simp walk-node refl) (simp walk-node refl)

pub bool_or_false_form : IsInForm bool_or_false
bool_or_false_form = in_form bool_or_false refl (simp nesting-Bool refl) (simp walk-node refl) (simp walk-node refl) (simp walk-node refl)

pub bool_or_true_form : IsInForm bool_or_true
bool_or_true_form = in_form bool_or_true refl (simp nesting-Bool refl) (simp walk-node refl) (simp walk-node refl) (simp walk-node refl)

pub bool_or_flat_form : IsInForm bool_or_flat
bool_or_flat_form = in_form bool_or_flat refl (simp nesting-Bool refl) (simp walk-node refl) (simp walk-node refl) (simp walk-node refl)

pub bool_or_dup_form : IsInForm bool_or_dup
bool_or_dup_form = in_form bool_or_dup refl (simp nesting-Bool refl) (simp walk-node refl) (simp walk-node refl) (simp walk-node refl)

pub bool_or_taut_form : IsInForm bool_or_taut
bool_or_taut_form = in_form bool_or_taut refl (simp nesting-Bool refl) (simp walk-node refl) (simp walk-node refl) (simp walk-node refl)

pub bool_and_comm_form : IsInForm bool_and_comm
bool_and_comm_form = in_form bool_and_comm refl (simp nesting-Bool refl) (simp walk-node refl) (simp walk-node refl) (simp walk-node refl)

pub bool_or_comm_form : IsInForm bool_or_comm
bool_or_comm_form = in_form bool_or_comm refl (simp nesting-Bool refl) (simp walk-node refl) (simp walk-node refl) (simp walk-node refl)

pub bool_and_de_morgan_form : IsInForm bool_and_de_morgan
bool_and_de_morgan_form = in_form bool_and_de_morgan refl (simp nesting-Bool refl) (simp walk-node refl) (simp walk-node refl) (simp walk-node refl)

pub bool_or_de_morgan_form : IsInForm bool_or_de_morgan
bool_or_de_morgan_form = in_form bool_or_de_morgan refl (simp nesting-Bool refl) (simp walk-node refl) (simp walk-node refl) (simp walk-node refl)

pub bool_impl_elim_form : IsInForm bool_impl_elim
bool_impl_elim_form = in_form bool_impl_elim refl (simp nesting-Bool refl) (simp walk-node refl) (simp walk-node refl) (simp walk-node refl)

pub bool_xor_false_form : IsInForm bool_xor_false
bool_xor_false_form = in_form bool_xor_false refl (simp nesting-Bool refl) (simp walk-node refl) (simp walk-node refl) (simp walk-node refl)

pub bool_xor_true_form : IsInForm bool_xor_true
bool_xor_true_form = in_form bool_xor_true refl (simp nesting-Bool refl) (simp walk-node refl) (simp walk-node refl) (simp walk-node refl)

pub bool_xor_refl_form : IsInForm bool_xor_refl
bool_xor_refl_form = in_form bool_xor_refl refl (simp nesting-Bool refl) (simp walk-node refl) (simp walk-node refl) (simp walk-node refl)

pub ite_true_form : IsInForm ite_true
ite_true_form = in_form ite_true refl (simp nesting-Named refl) (simp walk-node refl) (simp walk-node refl) (simp walk-node refl)

pub ite_false_form : IsInForm ite_false
ite_false_form = in_form ite_false refl (simp nesting-Named refl) (simp walk-node refl) (simp walk-node refl) (simp walk-node refl)

pub ite_same_form : IsInForm ite_same
ite_same_form = in_form ite_same refl (simp (nesting-Bool, nesting-Named) refl) (simp walk-node refl) (simp walk-node refl) (simp walk-node refl)

pub ite_not_form : IsInForm ite_not
ite_not_form = in_form ite_not refl (simp (nesting-Bool, nesting-Named) refl) (simp walk-node refl) (simp walk-node refl) (simp walk-node refl)

pub ite_bool_form : IsInForm ite_bool
ite_bool_form = in_form ite_bool refl (simp nesting-Bool refl) (simp walk-node refl) (simp walk-node refl) (simp walk-node refl)

pub ite_then_form : IsInForm ite_then
ite_then_form = in_form ite_then refl (simp (nesting-Bool, nesting-Named) refl) (simp walk-node refl) (simp walk-node refl) (simp walk-node refl)

pub ite_else_form : IsInForm ite_else
ite_else_form = in_form ite_else refl (simp (nesting-Bool, nesting-Named) refl) (simp walk-node refl) (simp walk-node refl) (simp walk-node refl)

pub ite_cond_form : IsInForm ite_cond
ite_cond_form = in_form ite_cond refl (simp (nesting-Bool, nesting-Named) refl) (simp walk-node refl) (simp walk-node refl) (simp walk-node refl)

pub eq_refl_form : IsInForm eq_refl
eq_refl_form = in_form eq_refl refl (simp nesting-Named refl) (simp walk-node refl) (simp walk-node refl) (simp walk-node refl)

pub eq_symm_form : IsInForm eq_symm
eq_symm_form = in_form eq_symm refl (simp nesting-Named refl) (simp walk-node refl) (simp walk-node refl) (simp walk-node refl)

pub eq_true_form : IsInForm eq_true
eq_true_form = in_form eq_true refl (simp nesting-Bool refl) (simp walk-node refl) (simp walk-node refl) (simp walk-node refl)

pub eq_false_form : IsInForm eq_false
eq_false_form = in_form eq_false refl (simp nesting-Bool refl) (simp walk-node refl) (simp walk-node refl) (simp walk-node refl)

pub distinct_elim_form : IsInForm distinct_elim
distinct_elim_form = in_form distinct_elim refl (simp nesting-Named refl) (simp walk-node refl) (simp walk-node refl) (simp walk-node refl)
