use Rattle.std.proofs.Common.{sym, subst}
use Rattle.rare_linear.specs.Linears.{NamesBelow}
use Rattle.rare_sort.proofs.WithinLemmas.{scale_named}
use Rattle.rare_sort.proofs.widths.multiple_within.Goals as goal

pub returns-in-Ok-clause-named : goal.returns-in-Ok-clause-named
returns-in-Ok-clause-named c = λ n p. subst (λ e. NamesBelow n e.parts) (sym c.in-Ok.ensures.multiple) (scale_named n _ c.args.a.now p)
