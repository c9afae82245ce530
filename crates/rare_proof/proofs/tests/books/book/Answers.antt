use Rattle.std.proofs.Common.{sym, subst}
use Rattle.rare_rule.specs.Rules.{IsInForm}
use Rattle.rare_proof.proofs.TestForms.{swap_form, refute_form, low_form}
use Rattle.rare_proof.proofs.tests.books.book.Goals as goal

pub type_rule-requires : goal.type_rule-requires
type_rule-requires c = record { form = subst IsInForm (sym c.in_ok-swap.ensures) swap_form }

pub type_rule-requires-2 : goal.type_rule-requires-2
type_rule-requires-2 c = record { form = subst IsInForm (sym c.in_ok-refute.ensures) refute_form }

pub type_rule-requires-3 : goal.type_rule-requires-3
type_rule-requires-3 c = record { form = subst IsInForm (sym c.in_ok-low.ensures) low_form }
