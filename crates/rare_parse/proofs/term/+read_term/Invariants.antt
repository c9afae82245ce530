use Rattle.std.proofs.Common.{◌≡◌, map, drop}
use Rattle.rare_sexpr.specs.Tree.{depth, items_of}
use Rattle.rare_parse.specs.RuleTermText.{rule_term_at, arguments_from}
use Rattle.rare_parse.specs.inner.TermReading.{AreCounted}
use Rattle.rare_parse.proofs.term.+read_term.Given as goal

abbrev pub decreases-read_term : goal.decreases-read_term
decreases-read_term g l = depth (g.E.Expr.tree l.e.now)

-- the whole reading is what is left to be read gives from here
abbrev pub invariant-loop-k : goal.invariant-loop-k
invariant-loop-k g l = record {
  read : arguments_from (g.E.Expr.tree l.e) l.applied.operator l.arguments.trees (map (λ x. (x, rule_term_at l.names x)) (drop l.k (items_of (g.E.Expr.tree l.e)))) ≡ rule_term_at l.names (g.E.Expr.tree l.e);
  counted : AreCounted l.arguments;
}
