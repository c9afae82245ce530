use Rattle.std.proofs.Common.{sym, ap, ◌∙◌, subst, List, ℕ}
use Rattle.rare_scope.proofs.SortSteps.{bool_nested, int_nested, named_nested, sort_below}
use Rattle.rare_scope.proofs.sort.read_symbol.Goals as goal

pub returns-then-eq-clause-nested : goal.returns-then-eq-clause-nested
returns-then-eq-clause-nested g c = bool_nested (g.T.Terms.state c.args.terms.now).declared c.flat.result c.flat.ensures.sort c.flat.ensures.nesting

pub returns-then-eq-2-clause-nested : goal.returns-then-eq-2-clause-nested
returns-then-eq-2-clause-nested g c = int_nested (g.T.Terms.state c.args.terms.now).declared c.flat-then-eq-2.result c.flat-then-eq-2.ensures.sort c.flat-then-eq-2.ensures.nesting

pub returns-in-Some-clause-nested : goal.returns-in-Some-clause-nested
returns-in-Some-clause-nested g c =
    let s = g.T.Terms.state c.args.terms.now in
    named_nested s.declared c.flat-in-Some.result c.in-Some.k (sort_below s c.args.scope.now c.text-text.result.now c.in-Some.k c.requires (sym c.in-Some.ensures)) c.flat-in-Some.ensures.sort
    c.flat-in-Some.ensures.nesting
