use Rattle.std.proofs.Common.{sym, subst, true, false}
use Rattle.rare_sort.specs.declared.sort.Sort.{Sort}
use Rattle.rare_parse.specs.inner.Following.{Follows, needs_mentions}
use Rattle.rare_parse.proofs.WholeLemmas.{array_uses, array_stops}
use Rattle.rare_parse.proofs.order.+follow_list_sort.Goals as goal

pub returns-then-follow_list_sort : goal.returns-then-follow_list_sort
returns-then-follow_list_sort m c =
    let f = c.args.found.now in
    let first = subst (λ (s : Sort). Follows (needs_mentions s) f f true) c.get.ensures (subst (λ ok. Follows (needs_mentions c.get.result.now) f f ok) c.if-follow_list_sort.true c.follow_list_sort.ensures) in
    let second = subst (λ (s : Sort). Follows (needs_mentions s) f f c.follow_list_sort-then-follow_list_sort.result) c.get-then-follow_list_sort.ensures c.follow_list_sort-then-follow_list_sort.ensures in
    array_uses c.args.sort.now c.in-Array.keys c.in-Array.entries f c.in-Array.is c.follow_list_sort-then-follow_list_sort.result first second

pub returns-else-follow_list_sort : goal.returns-else-follow_list_sort
returns-else-follow_list_sort m c =
    let f = c.args.found.now in
    let first = subst (λ (s : Sort). Follows (needs_mentions s) f f false) c.get.ensures (subst (λ ok. Follows (needs_mentions c.get.result.now) f f ok) c.if-follow_list_sort.false c.follow_list_sort.ensures) in
    subst (λ ok. Follows (needs_mentions c.args.sort.now) f f ok) (sym c.if-follow_list_sort.false) (array_stops c.args.sort.now c.in-Array.keys c.in-Array.entries f c.in-Array.is first)
