use Rattle.std.proofs.Common.{◌≡◌, sym, ◌∙◌, Option, None}
use Rattle.rare_linear.specs.Linears.{LinearExpression}
use Rattle.rare_linear.specs.Entailment.{minus}
use Rattle.rare_sort.specs.inner.Within.{within}
use Rattle.rare_sort.proofs.RulingLemmas.{slice_none}
use Rattle.rare_sort.proofs.forming.slice.Goals as goal

pub formed-requires-clause-width : goal.formed-requires-clause-width
formed-requires-clause-width c =
    c.in_ok-sum_within-in-Some.ensures.named _ ((rw c.in-Some.is at c.in_ok-span.ensures.named) _ c.requires.j c.requires.i) (rw c.constant.ensures tt)

pub returns-in-None : goal.returns-in-None
returns-in-None c = slice_none c.args.declared.now c.args.j.now c.args.i.now c.args.m.now (sym c.in_ok-span.ensures.value ∙ c.in-None.is)
