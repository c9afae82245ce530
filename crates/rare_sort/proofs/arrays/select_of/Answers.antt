use Rattle.std.proofs.Common.{◌≡◌, sym, subst, IfOk}
use Rattle.rare_sort.proofs.RulingLemmas.{select_ruled}
use Rattle.rare_sort.proofs.arrays.select_of.Goals as goal

pub returns-in-Some : goal.returns-in-Some
returns-in-Some c =
    subst (λ x. IfOk c.copy_where.result (λ r. r ≡ x))
    (select_ruled c.args.declared.now c.args.array.now c.args.key.now c.in-Some.keys.now c.in-Some.entries.now c.is_same_sort-met.result (sym c.in-Some.ensures.parts) c.in-Some.ensures.entries c.is_same_sort-met.ensures.test)
    c.copy_where.ensures
