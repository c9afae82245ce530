use Rattle.std.proofs.Common.{◌≡◌, ◌+◌, slice_get, Some, false, subst, arith}
use Rattle.std.proofs.lemmas.Option.{slice_get_read}
use Rattle.rare_rule.specs.Determination.{list_uses}
use Rattle.rare_parse.specs.inner.Following.{Follows}
use Rattle.rare_parse.proofs.FollowLemmas.{follow_item, follow_stops}
use Rattle.rare_parse.proofs.order.follow_lists.Goals as goal

pub returns-then-not-follow_list : goal.returns-then-not-follow_list
returns-then-not-follow_list c =
    let ps = c.args.params.now in
    let f = c.args.found.now in
    let k = c.loop-param.param-index in
    let x = c.param-item.result in
    let at : slice_get ps k ≡ Some x = grind (arith, slice_get_read) in
    let here = subst (λ ok. Follows (list_uses x) f f ok) c.if-not-follow_list.true c.follow_list.ensures in
    follow_stops list_uses ps (k + 1) f f (follow_item list_uses ps k x f f f false at c.loop-param.invariant here)
