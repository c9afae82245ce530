use Rattle.std.proofs.Common.{◌≡◌, ℕ, ◌++◌, drop, take, Ok}
use Rattle.rare_sexpr.specs.Tree.{items_of}
use Rattle.rare_sort.specs.DeclaredSorts.{AreNamed}
use Rattle.rare_scope.specs.LinearText.{AreBelow}
use Rattle.rare_scope.specs.Reading.{go_on}
use Rattle.rare_operators.specs.HeadText.{indices_at}
use Rattle.rare_operators.proofs.indexed.read_indices.Given as goal

-- the whole reading is what is left gives behind what was read
abbrev pub invariant-loop-k : goal.invariant-loop-k
invariant-loop-k g l = record {
  read : go_on (indices_at (g.W.WidthNames.names l.names) (drop l.k (take l.to (items_of (g.E.Expr.tree l.e))))) (λ ls. Ok (l.indices ++ ls))
      ≡ indices_at (g.W.WidthNames.names l.names) (drop l.fn.from (take l.to (items_of (g.E.Expr.tree l.e))));
  named : (n : ℕ) → AreBelow n (g.W.WidthNames.names l.names) → AreNamed n l.indices;
}
