use Rattle.std.proofs.Common.{◌≡◌, [], length, drop}
use Rattle.rare_sexpr.specs.Tree.{items_of}
use Rattle.rare_sort.specs.Ids.{AreIds, trees_at}
use Rattle.rare_scope.specs.Names.{names_of, AreMeant}
use Rattle.rare_term.specs.State.{Grows}
use Rattle.rare_proof_text.specs.ArgumentText.{terms_from}
use Rattle.rare_proof_text.proofs.arguments.read_terms.Given as goal

-- the whole reading is what the terms that are left give from here
abbrev pub invariant-loop-k : goal.invariant-loop-k
invariant-loop-k g l = let old = g.T.Terms.state l.fn.terms in let now = g.T.Terms.state l.terms in let names = names_of old.trees l.scope in let xs = items_of (g.E.Expr.tree l.e) in record {
  ids : AreIds (length now.trees) l.ids;
  grows : Grows old now;
  are : AreMeant now l.scope;
  rest : terms_from old.declared names (trees_at now.trees l.ids) (drop l.k xs) ≡ terms_from old.declared names [] (drop 1 xs);
}
