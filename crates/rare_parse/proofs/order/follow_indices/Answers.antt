use Rattle.std.proofs.Common.{◌≡◌, sym, subst, false, ◌∷◌, [], length, arith}
use Rattle.rare_sort.specs.declared.head.Head.{Head}
use Rattle.rare_rule.specs.Determination.{mention, index_mentions}
use Rattle.rare_parse.specs.inner.Following.{Follows}
use Rattle.rare_parse.proofs.FollowLemmas.{follow_literal, follow_no_literal, follow_ok}
use Rattle.rare_parse.proofs.order.follow_indices.Goals as goal

pub returns-then-branch : goal.returns-then-branch
returns-then-branch c =
    let ps = c.args.params.now in
    let ix = c.args.indices.now in
    let a = c.args.found.now in
    let b = c.follow_linear.new.found in
    let z = c.follow_linear-then-branch.new.found in
    let v = c.value-item.result in
    let w = c.width-item.result in
    let two : length ix ≡ 2 = omega (arith, c.in-len2.len_at_least, c.in-len2.len_below) in
    let first = subst (λ ok. Follows (mention ps w ∷ []) a b ok) c.if-branch.true c.in_ok-follow_linear-in-len2.ensures in
    follow_ok (Follows (mention ps v ∷ []) b z) (Follows (index_mentions ps c.args.head ix) a z)
    (λ ok more. subst (λ (h : Head). Follows (index_mentions ps h ix) a z ok) (sym c.in-Literal.is) (follow_literal ps ix v w a b z ok two c.value-item.is c.width-item.is first more))
    c.follow_linear-then-branch.result c.follow_linear-then-branch.ensures

pub returns-else-branch : goal.returns-else-branch
returns-else-branch c =
    let ps = c.args.params.now in
    let ix = c.args.indices.now in
    let a = c.args.found.now in
    let b = c.follow_linear.new.found in
    let v = c.value-item.result in
    let w = c.width-item.result in
    let two : length ix ≡ 2 = omega (arith, c.in-len2.len_at_least, c.in-len2.len_below) in
    let first = subst (λ ok. Follows (mention ps w ∷ []) a b ok) c.if-branch.false c.in_ok-follow_linear-in-len2.ensures in
    subst (λ (h : Head). Follows (index_mentions ps h ix) a b false) (sym c.in-Literal.is) (follow_no_literal ps ix v w a b two c.value-item.is c.width-item.is first)
