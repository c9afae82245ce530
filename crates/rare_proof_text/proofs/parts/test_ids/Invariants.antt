use Rattle.std.proofs.Common.{◌≡◌}
use Rattle.rare_sexpr.specs.Tree.{items_of}
use Rattle.rare_proof_text.proofs.Listing.{ids_on}
use Rattle.rare_proof_text.proofs.parts.test_ids.Given as goal

abbrev pub invariant-loop-k : goal.invariant-loop-k
invariant-loop-k g l = ids_on (items_of (g.E.Expr.tree l.e)) l.k ≡ ids_on (items_of (g.E.Expr.tree l.e)) 0
