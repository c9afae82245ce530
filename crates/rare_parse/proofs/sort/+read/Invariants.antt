use Rattle.rare_sexpr.specs.Tree.{depth}
use Rattle.rare_parse.proofs.sort.+read.Given as goal

abbrev pub decreases-read : goal.decreases-read
decreases-read g l = depth (g.E.Expr.tree l.e.now)
