use Rattle.std.proofs.Common.{◌≡◌, ◌+◌, slice_get, Some, false, subst, arith, sym, ap, List, true, length, flat_map}
use Rattle.std.proofs.lemmas.Option.{slice_get_read}
use Rattle.rare_sort.specs.Trees.{head_of, args_of}
use Rattle.rare_rule.specs.Determination.{Mention, node_mentions}
use Rattle.rare_rule.specs.Nodes.{walk}
use Rattle.rare_parse.specs.inner.Following.{Follows}
use Rattle.rare_parse.specs.inner.WholeTests.{root_node}
use Rattle.rare_parse.proofs.FollowLemmas.{follow_item, follow_stops, follow_not, follow_ok, follow_all, follow_both}
use Rattle.rare_parse.proofs.TreeMentions.{child_mentions, mentions_out}
use Rattle.rare_parse.proofs.order.+follow_tree.Goals as goal

pub returns-then-not-branch : goal.returns-then-not-branch
returns-then-not-branch m c =
    let ps = c.args.params.now in
    let t = c.args.tree.now in
    let k = c.loop-arg.arg-index in
    let x = c.arg-item.result in
    let f = child_mentions ps (head_of t) in
    let at : slice_get (args_of t) k ≡ Some x = grind (arith, slice_get_read) in
    let here = subst (λ ok. Follows (f x) c.loop-arg.found c.follow_tree.new.found ok) c.if-not-branch.true c.in_ok-follow_tree.ensures in
    subst (λ (ms : List Mention). Follows ms c.args.found.now c.follow_tree.new.found false) (sym (mentions_out ps t c.args.parent))
    (follow_not (flat_map f (args_of t)) (node_mentions ps (root_node c.args.parent t)) c.args.found.now c.follow_tree.new.found
    (follow_stops f (args_of t) (k + 1) c.args.found.now c.follow_tree.new.found (follow_item f (args_of t) k x c.args.found.now c.loop-arg.found c.follow_tree.new.found false at c.loop-arg.invariant here)))

pub returns : goal.returns
returns m c =
    let ps = c.args.params.now in
    let t = c.args.tree.now in
    let f = child_mentions ps (head_of t) in
    let a = c.args.found.now in
    let b = c.loop-arg.found in
    let z = c.follow_node.new.found in
    let root = node_mentions ps (root_node c.args.parent t) in
    let before = follow_all f (args_of t) c.loop-arg.arg-index a b true (omega (arith, ap length c.items-arg-items.ensures)) c.loop-arg.invariant in
    follow_ok (Follows root b z) (Follows (flat_map (node_mentions ps) ((walk t).nodes c.args.parent)) a z)
    (λ ok more. subst (λ (ms : List Mention). Follows ms a z ok) (sym (mentions_out ps t c.args.parent)) (follow_both (flat_map f (args_of t)) root a b z ok before more)) c.follow_node.result c.follow_node.ensures
