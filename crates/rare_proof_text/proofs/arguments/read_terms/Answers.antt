use Rattle.std.proofs.Common.{◌<◌, [], length, drop, sym, ◌∙◌, refl, arith}
use Rattle.std.proofs.lemmas.List.Elements.{All-nil}
use Rattle.std.proofs.lemmas.Result.{err_from_is_err_and}
use Rattle.rare_sexpr.specs.Tree.{items_of}
use Rattle.rare_sort.specs.Ids.{trees_at}
use Rattle.rare_sort.specs.declared.tree.TermId.{TermId}
use Rattle.rare_scope.specs.Names.{names_of}
use Rattle.rare_term_text.proofs.Naming.{are_kept, grows_on, grows_not, ids_more}
use Rattle.rare_proof_text.specs.ArgumentText.{terms_from}
use Rattle.rare_proof_text.proofs.Turns.{last_term, term_stops, term_turn}
use Rattle.rare_proof_text.proofs.arguments.read_terms.Goals as goal

pub loop-k-init : goal.loop-k-init
loop-k-init g c =
    let s = g.T.Terms.state c.args.terms.now in
    rw c.new-ids.ensures (record {
      ids = All-nil (λ (id : TermId). id.0 < length s.trees);
      grows = grows_not s;
      are = c.requires;
      rest = refl;
    })

pub returns-in_err-id-clause-read : goal.returns-in_err-id-clause-read
returns-in_err-id-clause-read g c =
    let old = g.T.Terms.state c.args.terms.now in
    let now = g.T.Terms.state c.loop-k.terms in
    let i = c.loop-k.invariant in
    let xs = items_of (g.E.Expr.tree c.args.e.now) in
    let whole = terms_from old.declared (names_of old.trees c.args.scope.now) [] (drop 1 xs) in
    let p = err_from_is_err_and c.from_residual.result c.from_residual.ensures.1 in
    rw (p.1, p.2) (term_stops old now c.args.scope.now i.grows c.requires c.in_err-id.field-0.0 xs (g.E.Expr.tree c.item.result.now) (trees_at now.trees c.loop-k.ids) whole c.loop-k.k
    c.item.ensures c.in_err-id.ensures.read i.rest)

pub loop-k-preserved : goal.loop-k-preserved
loop-k-preserved g c =
    let old = g.T.Terms.state c.args.terms.now in
    let now = g.T.Terms.state c.loop-k.terms in
    let next = g.T.Terms.state c.read_term.new.terms in
    let i = c.loop-k.invariant in
    let got = c.in_ok-id.ensures in
    let xs = items_of (g.E.Expr.tree c.args.e.now) in
    let whole = terms_from old.declared (names_of old.trees c.args.scope.now) [] (drop 1 xs) in
    rw c.in-Ok.ensures.ok (record {
      ids = ids_more now.trees next.trees c.loop-k.ids c.in_ok-id.id got.grows.trees i.ids got.read.0;
      grows = grows_on old now next i.grows got.grows;
      are = are_kept now next c.args.scope.now got.grows i.are;
      rest = term_turn old now c.args.scope.now i.grows c.requires next xs (g.E.Expr.tree c.item.result.now) c.loop-k.ids c.in_ok-id.id whole c.loop-k.k got.grows i.ids c.item.ensures got.read.1 i.rest;
    })

pub returns-clause-read : goal.returns-clause-read
returns-clause-read g c =
    let old = g.T.Terms.state c.args.terms.now in
    let now = g.T.Terms.state c.loop-k.terms in
    let xs = items_of (g.E.Expr.tree c.args.e.now) in
    sym c.loop-k.invariant.rest ∙ last_term old.declared (names_of old.trees c.args.scope.now) (trees_at now.trees c.loop-k.ids) xs c.loop-k.k (omega (arith, c.len-k-end.ensures, c.loop-k-test.false))
