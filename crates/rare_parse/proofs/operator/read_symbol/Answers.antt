use Rattle.std.proofs.Common.{◌-◌, sym}
use Rattle.rare_sexpr.specs.Tree.{items_of}
use Rattle.rare_parse.proofs.OperatorSteps.{word_fails, count_behind}
use Rattle.rare_parse.proofs.operator.read_symbol.Goals as goal

pub returns-in-Err-clause-read : goal.returns-in-Err-clause-read
returns-in-Err-clause-read g c =
    let e = g.E.Expr.tree c.args.e.now in
    word_fails c.args.names.now e (g.E.Expr.tree c.args.head.now) (sym c.in-None.ensures.word) (c.len.result - 1) c.in-Err.fault (count_behind (items_of e) c.len.result c.len.ensures) c.in-Err.ensures.read
