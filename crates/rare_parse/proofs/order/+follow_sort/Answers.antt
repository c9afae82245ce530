use Rattle.std.proofs.Common.{sym, subst, true, false}
use Rattle.rare_sort.specs.declared.sort.Sort.{Sort}
use Rattle.rare_rule.specs.Determination.{sort_mentions}
use Rattle.rare_parse.specs.inner.Following.{Follows}
use Rattle.rare_parse.proofs.FollowLemmas.{follow_array, follow_no_array, follow_one, follow_ok}
use Rattle.rare_parse.proofs.order.+follow_sort.Goals as goal

pub returns-then-branch : goal.returns-then-branch
returns-then-branch m c =
    let ps = c.args.params.now in
    let a = c.args.found.now in
    let b = c.follow_sort.new.found in
    let z = c.follow_sort-then-branch.new.found in
    let first =
    subst (λ (s : Sort). Follows (sort_mentions ps s) a b true) c.get.ensures (subst (λ ok. Follows (sort_mentions ps c.get.result.now) a b ok) c.if-branch.true c.in_ok-follow_sort-in-Array.ensures) in
    follow_ok (Follows (sort_mentions ps c.get-then-branch.result.now) b z) (Follows (sort_mentions ps c.args.sort.now) a z)
    (λ ok more. follow_array ps c.args.sort.now c.in-Array.keys c.in-Array.entries c.in-Array.is a b z ok first (subst (λ (s : Sort). Follows (sort_mentions ps s) b z ok) c.get-then-branch.ensures more))
    c.follow_sort-then-branch.result c.follow_sort-then-branch.ensures

pub returns-else-branch : goal.returns-else-branch
returns-else-branch m c =
    let ps = c.args.params.now in
    let a = c.args.found.now in
    let b = c.follow_sort.new.found in
    follow_no_array ps c.args.sort.now c.in-Array.keys c.in-Array.entries c.in-Array.is a b
    (subst (λ (s : Sort). Follows (sort_mentions ps s) a b false) c.get.ensures (subst (λ ok. Follows (sort_mentions ps c.get.result.now) a b ok) c.if-branch.false c.in_ok-follow_sort-in-Array.ensures))

pub returns-in_ok-push-in-Named : goal.returns-in_ok-push-in-Named
returns-in_ok-push-in-Named m c =
    subst (λ (s : Sort). Follows (sort_mentions c.args.params.now s) c.args.found.now c.push.new.self true) (sym c.in-Named.is) (follow_one c.in-Named.k c.args.found.now c.push.new.self c.in_ok-push-in-Named.ensures.ok)
