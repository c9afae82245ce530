use Rattle.rare_rule.proofs.RowForms.{and_true_form, ite_cond_form, and_de_morgan_form, shift_left_form, low_slice_form, concat_low_form}
use Rattle.rare_rule.proofs.RowTypings.{and_true_types, ite_cond_types, and_de_morgan_types, shift_left_types, low_slice_types, concat_low_types}
use Rattle.rare_rule.proofs.laws.rules_type.Goals as goal

pub returns-clause-forms : goal.returns-clause-forms
returns-clause-forms c = record { lists = and_true_form; premise = ite_cond_form; context = and_de_morgan_form; shift = shift_left_form; slice = low_slice_form; wide = concat_low_form }

pub returns-clause-types : goal.returns-clause-types
returns-clause-types c = record { lists = and_true_types; premise = ite_cond_types; context = and_de_morgan_types; shift = shift_left_types; slice = low_slice_types; wide = concat_low_types }
