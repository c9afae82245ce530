use Rattle.std.proofs.Common.{◌≡◌, sym, subst, IfOk}
use Rattle.rare_sort.proofs.RulingLemmas.{words_ruled}
use Rattle.rare_sort.proofs.bare.words_of.Goals as goal

pub returns-in-Some : goal.returns-in-Some
returns-in-Some c = λ count ss met.
    subst (λ x. IfOk c.outcome_of.result (λ r. r ≡ x))
    (words_ruled c.args.declared.now count c.args.outcome c.args.first.now ss c.in-Some.width.now c.args.met (sym c.in-Some.ensures) c.requires met)
    c.outcome_of.ensures
