use Rattle.std.proofs.Common.{sym, subst}
use Rattle.rare_rule.specs.Rules.{IsInForm}
use Rattle.rare_rule_printing.proofs.PrintedForms.{ite_cond_form}
use Rattle.rare_rule_printing.proofs.tests.rules_of_each_form_are_written.Goals as goal

pub shown-requires-3 : goal.shown-requires-3
shown-requires-3 g c = subst IsInForm (sym c.in_ok-ite_cond.ensures) ite_cond_form
