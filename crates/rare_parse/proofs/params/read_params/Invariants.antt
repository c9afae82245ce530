use Rattle.std.proofs.Common.{◌≡◌, ◌≤◌, drop, length}
use Rattle.rare_sexpr.specs.Tree.{items_of}
use Rattle.rare_parse.specs.ParamText.{params_from, params_at}
use Rattle.rare_parse.proofs.params.read_params.Given as goal

-- the whole reading is what is left gives behind what was read
abbrev pub invariant-loop-k : goal.invariant-loop-k
invariant-loop-k g l = record {
  read : params_from l.count l.declared l.fresh.items (drop l.k (items_of (g.E.Expr.tree l.e))) ≡ params_at (g.E.Expr.tree l.e);
  declared : length l.declared ≡ l.k;
  fresh : length l.fresh.items ≤ l.k;
}
