use Rattle.std.proofs.Common.{◌≡◌, ap, sym, refl, ◌∙◌, subst}
use Rattle.rare_linear.specs.Entailment.{minus}
use Rattle.rare_linear.specs.Linears.{NamesBelow}
use Rattle.rare_sort.specs.DeclaredSorts.{widths}
use Rattle.rare_sort.specs.DeclaredSorts.{follows}
use Rattle.rare_sort.proofs.WithinLemmas.{some_within, none_follows}
use Rattle.rare_sort.proofs.widths.difference_follows.Goals as goal

pub returns-in-Some : goal.returns-in-Some
returns-in-Some c =
    let is = some_within (minus c.args.a.now c.args.b.now) c.in-Some.difference (sym c.in_ok-difference.ensures.value ∙ c.in-Some.is) in
    c.follows_in.ensures ∙ ap (follows c.args.declared.now) is

pub returns-in-None : goal.returns-in-None
returns-in-None c = sym (none_follows c.args.declared.now (minus c.args.a.now c.args.b.now) (sym c.in_ok-difference.ensures.value ∙ c.in-None.is))

pub follows_in-requires-clause-want : goal.follows_in-requires-clause-want
follows_in-requires-clause-want c = (rw c.in-Some.is at c.in_ok-difference.ensures.named) _ c.requires.a c.requires.b
