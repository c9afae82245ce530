use Rattle.std.proofs.Common.{sym, ◌∙◌, ap, subst, drop, List}
use Rattle.rare_sexpr.specs.Tree.{items_of}
use Rattle.rare_scope.specs.Answers.{Fails}
use Rattle.rare_rule.specs.declared.param.Param.{Param}
use Rattle.rare_parse.specs.inner.RuleReading.{bounded_at, sides_at}
use Rattle.rare_parse.proofs.RuleSteps.{sides_fail}
use Rattle.rare_parse.proofs.rule.read_behind.Goals as goal

pub returns-in-Err-read_sides : goal.returns-in-Err-read_sides
returns-in-Err-read_sides g c =
    let e = g.E.Expr.tree c.args.e.now in
    let k = g.E.Expr.tree c.item.result.now in
    let x = g.E.Expr.tree c.item-2.result.now in
    let same = c.new-names.ensures ∙ c.items.ensures in
    sides_fail e c.args.name.now c.args.params k x c.item.ensures c.item-2.ensures c.in-Ok.bounds.behind c.in-Ok.bounds.bounds (ap (λ ps. bounded_at ps k x) (sym same) ∙ c.in-Ok.ensures.read) c.in-Err-read_sides.fault
    (subst (λ (ps : List Param). Fails c.in-Err-read_sides.fault (sides_at ps e (drop c.in-Ok.bounds.behind (items_of e)))) same c.in-Err-read_sides.ensures.read)
