use Rattle.std.proofs.Common.{◌≡◌, ap, sym, refl, ◌∙◌, Some, subst}
use Rattle.rare_linear.specs.Linears.{NamesBelow}
use Rattle.rare_sort.proofs.WithinLemmas.{within_yes, within_no, minus_named}
use Rattle.rare_sort.proofs.widths.difference_within.Goals as goal

pub returns-in-Ok-clause-value : goal.returns-in-Ok-clause-value
returns-in-Ok-clause-value c = ap Some c.in-Ok.ensures.difference ∙ sym (within_yes _ c.in-Ok.ensures.within)

pub returns-in-Ok-clause-named : goal.returns-in-Ok-clause-named
returns-in-Ok-clause-named c = λ n p q. subst (λ e. NamesBelow n e.parts) (sym c.in-Ok.ensures.difference) (minus_named n c.args.a.now c.args.b.now p q)

pub returns-in-Err-TooLarge-clause-value : goal.returns-in-Err-TooLarge-clause-value
returns-in-Err-TooLarge-clause-value c = sym (within_no _ ((rw c.in-Err-TooLarge.field-0-is at c.in-Err-TooLarge.ensures.too_large) refl))
