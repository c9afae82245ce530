use Rattle.std.proofs.Common.{ℕ, ◌<◌}
use Rattle.rare_term.specs.inner.Nodes.{IsAt}
use Rattle.rare_term.proofs.scan.find.Given as goal

abbrev pub invariant-loop-k : goal.invariant-loop-k
invariant-loop-k l = (j : ℕ) → j < l.k → IsAt l.nodes j l.head l.indices l.args → ⊥
