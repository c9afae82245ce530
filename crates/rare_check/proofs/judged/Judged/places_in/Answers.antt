use Rattle.std.proofs.Common.{sym, ◌∙◌}
use Rattle.rare_sexpr.specs.Tree.{items_of}
use Rattle.rare_check.proofs.Naming.{places_more, places_stop}
use Rattle.rare_check.proofs.judged.Judged.places_in.Goals as goal

pub returns-in-None : goal.returns-in-None
returns-in-None g c =
    let j = c.args.self.now in
    let tree = g.E.Expr.tree in
    sym (places_stop j.ids j.places (items_of (tree c.args.list.now)) c.loop-k.k (tree c.item-item.result.now) c.text.result.now c.item-item.ensures c.text.ensures (sym c.place_of.ensures ∙ c.in-None.is))

pub loop-k-preserved : goal.loop-k-preserved
loop-k-preserved g c =
    let j = c.args.self.now in
    let tree = g.E.Expr.tree in
    places_more j.ids j.places (items_of (tree c.args.list.now)) c.loop-k.k (tree c.item-item.result.now) c.text.result.now c.item-item.ensures c.text.ensures c.loop-k.places c.push.new.self c.in-Some.place
    c.loop-k.invariant (sym c.place_of.ensures ∙ c.in-Some.is) c.in_ok-push-in-Some.ensures.ok
