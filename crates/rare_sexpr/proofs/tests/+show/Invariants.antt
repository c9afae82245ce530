use Rattle.rare_sexpr.specs.Tree.{depth}
use Rattle.rare_sexpr.proofs.tests.+show.Given as goal

abbrev pub decreases-show : goal.decreases-show
decreases-show g l = depth (g.E.Expr.tree l.e.now)
