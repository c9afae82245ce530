use Rattle.std.proofs.Common.{drop, take}
use Rattle.std.proofs.lemmas.List.Elements.{All-push}
use Rattle.rare_linear.specs.Linears.{NamesBelow}
use Rattle.rare_sexpr.specs.Tree.{items_of}
use Rattle.rare_operators.specs.HeadText.{indices_at}
use Rattle.rare_operators.proofs.IndexSteps.{index_read, index_fails, get_before}
use Rattle.rare_operators.proofs.indexed.read_indices.Goals as goal

pub returns-in-Err-clause-read : goal.returns-in-Err-clause-read
returns-in-Err-clause-read g c =
    let w = g.W.WidthNames.names c.args.names.now in
    let xs = items_of (g.E.Expr.tree c.args.e.now) in
    let x = g.E.Expr.tree c.item.result.now in
    index_fails w (take c.args.to xs) c.loop-k.k x c.loop-k.indices (indices_at w (drop c.args.from (take c.args.to xs))) (get_before xs c.args.to c.loop-k.k x c.loop-k-test.true c.item.ensures) c.loop-k.invariant.read
    c.in-Err.fault c.in-Err.ensures.read

pub loop-k-preserved : goal.loop-k-preserved
loop-k-preserved g c =
    let w = g.W.WidthNames.names c.args.names.now in
    let xs = items_of (g.E.Expr.tree c.args.e.now) in
    let x = g.E.Expr.tree c.item.result.now in
    rw c.in-Ok-push.ensures.ok (record {
      read =
          index_read w (take c.args.to xs) c.loop-k.k x c.loop-k.indices (indices_at w (drop c.args.from (take c.args.to xs))) (get_before xs c.args.to c.loop-k.k x c.loop-k-test.true c.item.ensures) c.loop-k.invariant.read
          c.in-Ok.index c.in-Ok.ensures.read;
      named = λ n below. All-push (λ l. NamesBelow n l.parts) c.loop-k.indices c.in-Ok.index (c.loop-k.invariant.named n below) (c.in-Ok.ensures.named n below);
    })
