use Rattle.std.proofs.Common.{◌≡◌, [], drop, map}
use Rattle.rare_sexpr.specs.Tree.{items_of}
use Rattle.rare_parse.specs.RuleText.{floors_from}
use Rattle.rare_parse.proofs.bounds.read_bounds.Given as goal

-- the whole reading is what is left gives from here
abbrev pub invariant-loop-k : goal.invariant-loop-k
invariant-loop-k g l = floors_from l.names (map (λ c. c.floor) l.bounds) (drop l.k (items_of (g.E.Expr.tree l.e))) ≡ floors_from l.names [] (items_of (g.E.Expr.tree l.e))
