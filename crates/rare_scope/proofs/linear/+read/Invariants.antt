use Rattle.std.proofs.Common.{◌≡◌, map, drop}
use Rattle.rare_sexpr.specs.Tree.{depth, items_of}
use Rattle.rare_scope.specs.LinearText.{linear_at, folded}
use Rattle.rare_scope.proofs.linear.+read.Given as goal

abbrev pub decreases-read : goal.decreases-read
decreases-read g l = depth (g.E.Expr.tree l.e.now)

-- the whole reading is what is left to be read gives from here
abbrev pub invariant-loop-k : goal.invariant-loop-k
invariant-loop-k g l =
    folded (g.E.Expr.tree l.e) l.sign l.sum (map (λ x. (x, linear_at (g.W.WidthNames.names l.names) x)) (drop l.k (items_of (g.E.Expr.tree l.e))))
    ≡ linear_at (g.W.WidthNames.names l.names) (g.E.Expr.tree l.e)
