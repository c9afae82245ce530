use Rattle.std.proofs.Common.{sym, subst}
use Rattle.rare_rule.specs.Rules.{IsInForm}
use Rattle.rare_inst.proofs.TestForms.{and_cond_form}
use Rattle.rare_inst.proofs.tests.parts_of_truths.Goals as goal

pub first_wrong-requires-2 : goal.first_wrong-requires-2
first_wrong-requires-2 g c = subst IsInForm (sym c.in_ok-and_cond.ensures) and_cond_form
