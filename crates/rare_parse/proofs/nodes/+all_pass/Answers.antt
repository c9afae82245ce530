use Rattle.std.proofs.Common.{◌≡◌, sym, ◌∙◌, ap, ◌&&◌, length, arith, slice_get, Some}
use Rattle.std.proofs.lemmas.Option.{slice_get_read}
use Rattle.rare_sort.specs.Trees.{head_of, args_of}
use Rattle.rare_parse.specs.inner.WholeTests.{node_test, root_node}
use Rattle.rare_parse.proofs.NodeLemmas.{all_out, one_fails, all_done}
use Rattle.rare_parse.proofs.nodes.+all_pass.Goals as goal

pub returns-then-not-all_pass : goal.returns-then-not-all_pass
returns-then-not-all_pass m c =
    let t = c.args.tree.now in
    let test = node_test c.args.asked c.args.params.now in
    let at : slice_get (args_of t) c.loop-arg.arg-index ≡ Some c.arg-item.result = grind (arith, slice_get_read) in
    sym (all_out test t c.args.parent ∙ ap (λ b. b && test (root_node c.args.parent t))
    (one_fails test (head_of t) (args_of t) c.loop-arg.arg-index c.arg-item.result at c.loop-arg.invariant (sym c.all_pass.ensures ∙ c.if-not-all_pass.true)))

pub returns : goal.returns
returns m c =
    let t = c.args.tree.now in
    let test = node_test c.args.asked c.args.params.now in
    let done = all_done test (head_of t) (args_of t) c.loop-arg.arg-index (omega (arith, ap length c.items-arg-items.ensures)) c.loop-arg.invariant in
    c.passes.ensures ∙ sym (all_out test t c.args.parent ∙ ap (λ b. b && test (root_node c.args.parent t)) done)
