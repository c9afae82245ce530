use Rattle.rare_sexpr.specs.Tree.{depth}
use Rattle.rare_sexpr.proofs.tests.+walk.Given as goal

abbrev pub decreases-walk : goal.decreases-walk
decreases-walk g l = depth (g.E.Expr.tree l.e.now)
