use Rattle.std.proofs.Common.{◌≡◌, ◌+◌, ◌*◌, ◌++◌, length, drop}
use Rattle.rare_sexpr.specs.Tree.{depth, items_of}
use Rattle.rare_sort.specs.Ids.{AreIds, trees_at}
use Rattle.rare_scope.specs.Names.{names_of, AreMeant}
use Rattle.rare_term.specs.State.{Grows}
use Rattle.rare_term_text.specs.TermText.{roles_at, application_of, arguments_from, bindings_from}
use Rattle.rare_term_text.specs.inner.Parts.{all_names, with_roles}
use Rattle.rare_term_text.proofs.term.+read_terms.Given as goal

abbrev pub decreases-read : goal.decreases-read
decreases-read g l = 2 * depth (g.E.Expr.tree l.e.now) + 1

abbrev pub decreases-read_application : goal.decreases-read_application
decreases-read_application g l = 2 * depth (g.E.Expr.tree l.e.now)

abbrev pub decreases-read_binding : goal.decreases-read_binding
decreases-read_binding g l = 2 * depth (g.E.Expr.tree l.e.now)

abbrev pub decreases-read_bindings : goal.decreases-read_bindings
decreases-read_bindings g l = 2 * depth (g.E.Expr.tree l.e.now)

abbrev pub decreases-read_let : goal.decreases-read_let
decreases-read_let g l = 2 * depth (g.E.Expr.tree l.e.now)

-- the whole reading is what the arguments that are left give from here
abbrev pub invariant-read_application-loop-k : goal.invariant-read_application-loop-k
invariant-read_application-loop-k g l = let old = g.T.Terms.state l.fn.terms in let now = g.T.Terms.state l.terms in let names = all_names old l.scope l.fn.bound in let e = g.E.Expr.tree l.e in record {
  ids : AreIds (length now.trees) l.ids;
  grows : Grows old now;
  bound : l.bound ≡ l.fn.bound;
  are : AreMeant now (l.scope ++ l.bound);
  rest : arguments_from old.declared names e l.operator (trees_at now.trees l.ids) (with_roles old.declared (drop l.k (items_of e)))
      ≡ application_of old.declared names e (g.E.Expr.tree l.head) (with_roles old.declared (drop 1 (items_of e)));
}

-- the bindings are what those that are left give from here
abbrev pub invariant-read_bindings-loop-k : goal.invariant-read_bindings-loop-k
invariant-read_bindings-loop-k g l = let old = g.T.Terms.state l.fn.terms in let now = g.T.Terms.state l.terms in let names = all_names old l.scope l.fn.outside in let e = g.E.Expr.tree l.e in record {
  are : AreMeant now l.bound;
  grows : Grows old now;
  outside : l.outside ≡ l.fn.outside;
  are_outside : AreMeant now (l.scope ++ l.outside);
  rest : bindings_from names (names_of now.trees l.bound) (with_roles old.declared (drop l.k (items_of e))) ≡ (roles_at old.declared e).bindings names;
}
