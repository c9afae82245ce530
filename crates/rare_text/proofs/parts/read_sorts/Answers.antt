use Rattle.std.proofs.Common.{◌+◌, ◌++◌, ◌∷◌, [], sym, drop}
use Rattle.std.proofs.lemmas.Result.{err_from_is_err_and}
use Rattle.std.proofs.lemmas.List.Elements.{All-push}
use Rattle.rare_scope.specs.Names.{names_of}
use Rattle.rare_scope.specs.SortText.{sort_at}
use Rattle.rare_scope.proofs.InOrder.{fails_on, goes_on}
use Rattle.rare_sexpr.specs.Tree.{items_of}
use Rattle.rare_sort.specs.DeclaredSorts.{IsDeclaredSort}
use Rattle.rare_text.specs.CommandParts.{sorts_from, sorts_at}
use Rattle.rare_text.proofs.PartSteps.{next_sort}
use Rattle.rare_text.proofs.parts.read_sorts.Goals as goal

pub returns-in_err-sort-clause-read : goal.returns-in_err-sort-clause-read
returns-in_err-sort-clause-read g c =
    let s = g.T.Terms.state c.args.terms.now in
    let names = names_of s.trees c.args.scope.now in
    let e = g.E.Expr.tree c.args.e.now in
    let x = g.E.Expr.tree c.item.result.now in
    let p = err_from_is_err_and c.from_residual.result c.from_residual.ensures.1 in
    rw (p.1, p.2) (fails_on c.in_err-sort.field-0.0 (sort_at s.declared names x) (λ a. sorts_from s.declared names (c.loop-k.sorts ++ a ∷ []) (drop (c.loop-k.k + 1) (items_of e))) (sorts_at s.declared names e)
    (next_sort s.declared names e c.loop-k.k c.loop-k.sorts c.loop-k.invariant.read x c.item.ensures) c.in_err-sort.ensures.read)

pub loop-k-preserved : goal.loop-k-preserved
loop-k-preserved g c =
    let s = g.T.Terms.state c.args.terms.now in
    let names = names_of s.trees c.args.scope.now in
    let e = g.E.Expr.tree c.args.e.now in
    let x = g.E.Expr.tree c.item.result.now in
    let whole = goes_on (sort_at s.declared names x) c.in_ok-sort.sort (λ a. sorts_from s.declared names (c.loop-k.sorts ++ a ∷ []) (drop (c.loop-k.k + 1) (items_of e))) (sorts_at s.declared names e)
    (next_sort s.declared names e c.loop-k.k c.loop-k.sorts c.loop-k.invariant.read x c.item.ensures) c.in_ok-sort.ensures.read in
    rw c.in-Ok.ensures.ok (record {
      read = sym whole;
      declared = All-push (IsDeclaredSort s.declared) c.loop-k.sorts c.in_ok-sort.sort c.loop-k.invariant.declared c.in_ok-sort.ensures.declared;
    })
