use Rattle.std.proofs.Common.{◌≡◌, ◌+◌, ◌∷◌, [], slice_get, Some, false, subst, arith}
use Rattle.std.proofs.lemmas.Option.{slice_get_read}
use Rattle.rare_rule.specs.Determination.{mention}
use Rattle.rare_parse.specs.inner.Following.{Follows}
use Rattle.rare_parse.proofs.FollowLemmas.{follow_item, follow_stops}
use Rattle.rare_parse.proofs.order.follow_linears.Goals as goal

pub returns-then-not-branch : goal.returns-then-not-branch
returns-then-not-branch c =
    let ps = c.args.params.now in
    let ix = c.args.indices.now in
    let k = c.loop-index.index-index in
    let x = c.index-item.result in
    let at : slice_get ix k ≡ Some x = grind (arith, slice_get_read) in
    let here = subst (λ ok. Follows (mention ps x ∷ []) c.loop-index.found c.follow_linear.new.found ok) c.if-not-branch.true c.in_ok-follow_linear.ensures in
    follow_stops (λ e. mention ps e ∷ []) ix (k + 1) c.args.found.now c.follow_linear.new.found
    (follow_item (λ e. mention ps e ∷ []) ix k x c.args.found.now c.loop-index.found c.follow_linear.new.found false at c.loop-index.invariant here)
