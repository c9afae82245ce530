use Rattle.std.proofs.Common.{Ok, sym, ap, ◌∙◌, subst}
use Rattle.std.proofs.lemmas.Result.{err_from_is_err_and}
use Rattle.rare_sort.specs.Ids.{tree_at}
use Rattle.rare_sort.specs.declared.tree.Tree.{Tree}
use Rattle.rare_scope.proofs.InOrder.{fails_on}
use Rattle.rare_scope.specs.Answers.{Fails}
use Rattle.rare_scope.specs.Names.{names_of}
use Rattle.rare_scope.specs.Reading.{Read, go_on}
use Rattle.rare_term_text.specs.TermText.{term_at}
use Rattle.rare_term_text.proofs.Naming.{tree_kept}
use Rattle.rare_proof_text.proofs.Growing.{read_kept}
use Rattle.rare_proof_text.proofs.sides.read_terms.Goals as goal

pub returns-in_err-right-clause-read : goal.returns-in_err-right-clause-read
returns-in_err-right-clause-read g c =
    let s = g.T.Terms.state c.args.terms.now in
    let m = g.T.Terms.state c.read_term.new.terms in
    let names = names_of s.trees c.args.scope.now in
    let a = g.E.Expr.tree c.args.a.now in
    let b = g.E.Expr.tree c.args.b.now in
    let x = tree_at m.trees c.in_ok-left.left.0 in
    let f = c.in_err-right.field-0.0 in
    let kept = read_kept (λ d n. term_at d n b) s m c.args.scope.now c.in_ok-left.ensures.grows c.requires in
    let p = err_from_is_err_and c.from_residual-in_err-right.result c.from_residual-in_err-right.ensures.1 in
    let rest : Read (Tree × Tree) = go_on (term_at s.declared names b) (λ t. Ok (x, t)) in
    let whole : Read (Tree × Tree) = go_on (term_at s.declared names a) (λ u. go_on (term_at s.declared names b) (λ t. Ok (u, t))) in
    let inner = fails_on f (term_at m.declared (names_of m.trees c.args.scope.now) b) (λ t. Ok (x, t)) rest (ap (λ r. go_on r (λ t. Ok (x, t))) (sym kept)) c.in_err-right.ensures.read in
    rw (p.1, p.2) (subst (Fails f) (sym (ap (λ r. go_on r (λ u. go_on (term_at s.declared names b) (λ t. Ok (u, t)))) c.in_ok-left.ensures.read.1)) inner)

pub returns-clause-read : goal.returns-clause-read
returns-clause-read g c =
    let s = g.T.Terms.state c.args.terms.now in
    let m = g.T.Terms.state c.read_term.new.terms in
    let n = g.T.Terms.state c.read_term-2.new.terms in
    let names = names_of s.trees c.args.scope.now in
    let b = g.E.Expr.tree c.args.b.now in
    let left = c.in_ok-left.left in
    let y = tree_at n.trees c.in_ok-right.right.0 in
    let kept = read_kept (λ d n. term_at d n b) s m c.args.scope.now c.in_ok-left.ensures.grows c.requires in
    ap (λ r. go_on r (λ u. go_on (term_at s.declared names b) (λ t. Ok (u, t)))) c.in_ok-left.ensures.read.1
    ∙ ap (λ r. go_on r (λ t. Ok (tree_at m.trees left.0, t))) (sym kept ∙ c.in_ok-right.ensures.read.1)
    ∙ ap (λ u. Ok (u, y)) (sym (tree_kept m.trees n.trees left.0 c.in_ok-right.ensures.grows.trees c.in_ok-left.ensures.read.0))
