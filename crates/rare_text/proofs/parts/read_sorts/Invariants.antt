use Rattle.std.proofs.Common.{◌≡◌, drop, All}
use Rattle.rare_scope.specs.Names.{names_of}
use Rattle.rare_sexpr.specs.Tree.{items_of}
use Rattle.rare_sort.specs.DeclaredSorts.{IsDeclaredSort}
use Rattle.rare_text.specs.CommandParts.{sorts_from, sorts_at}
use Rattle.rare_text.proofs.parts.read_sorts.Given as goal

-- the whole list is what the sorts that are left give from here
abbrev pub invariant-loop-k : goal.invariant-loop-k
invariant-loop-k g l =
    let s = g.T.Terms.state l.terms in
    let names = names_of s.trees l.scope in
    record {
      read : sorts_from s.declared names l.sorts (drop l.k (items_of (g.E.Expr.tree l.e))) ≡ sorts_at s.declared names (g.E.Expr.tree l.e);
      declared : All (IsDeclaredSort s.declared) l.sorts;
    }
