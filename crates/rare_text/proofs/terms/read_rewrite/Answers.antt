use Rattle.std.proofs.Common.{sym, ◌∙◌, ap, subst, Ok}
use Rattle.std.proofs.lemmas.Result.{err_from_is_err_and}
use Rattle.rare_scope.specs.Reading.{Read, go_on}
use Rattle.rare_scope.proofs.InOrder.{fails_on}
use Rattle.rare_sort.specs.Ids.{tree_at}
use Rattle.rare_sort.specs.Sameness.{sort_eq}
use Rattle.rare_sort.specs.SortOf.{sort_of}
use Rattle.rare_sort.specs.declared.tree.Tree.{Tree}
use Rattle.rare_term_text.specs.TermText.{term_at}
use Rattle.rare_text.specs.ProblemText.{rewrite_statement}
use Rattle.rare_text.specs.Problems.{StatedProblem, with_rewrite}
use Rattle.rare_text.specs.Stated.{stated_problem}
use Rattle.rare_text.specs.inner.Standing.{AnswersReader}
use Rattle.rare_text.proofs.Growing.{tree_kept, extends_on}
use Rattle.rare_text.proofs.Holding.{terms_held}
use Rattle.rare_text.proofs.CommandSteps.{from_sides, after_left, unlike, alike}
use Rattle.rare_text.proofs.terms.read_rewrite.Goals as goal

pub read_term-requires-2 : goal.read_term-requires-2
read_term-requires-2 g c =
    (terms_held (g.T.Terms.state c.args.terms.now) c.args.reader.problem c.requires.held (g.T.Terms.state c.read_term.new.terms) c.in_ok-left.ensures.grows).0.meant

pub returns-in_err-right-clause-read : goal.returns-in_err-right-clause-read
returns-in_err-right-clause-read g c =
    let s = g.T.Terms.state c.args.terms.now in
    let m = g.T.Terms.state c.read_term.new.terms in
    let p = c.args.reader.problem in
    let x = g.E.Expr.tree in
    let q = stated_problem s p in
    let a = tree_at m.trees c.in_ok-left.left.0 in
    let same = (terms_held s p c.requires.held m c.in_ok-left.ensures.grows).1 in
    let e = err_from_is_err_and c.from_residual-in_err-right.result c.from_residual-in_err-right.ensures.1 in
    let whole = after_left q (x c.args.e.now) (x c.args.name.now) (x c.args.left.now) (x c.args.right.now) c.in_ok-name.name (c.in_ok-name.ensures.read s.trees) a c.in_ok-left.ensures.read.1 in
    let rest : Tree → Read StatedProblem = from_sides q (x c.args.e.now) c.in_ok-name.name a in
    rw (e.1, e.2) (fails_on c.in_err-right.field-0.0 (term_at m.declared (stated_problem m p).names (x c.args.right.now)) rest (rewrite_statement q (x c.args.e.now) (x c.args.name.now) (x c.args.left.now) (x c.args.right.now))
    (whole ∙ ap (λ r. go_on (term_at r.declared r.names (x c.args.right.now)) rest) (sym same)) c.in_err-right.ensures.read)

pub returns-in_err-right-clause-grows : goal.returns-in_err-right-clause-grows
returns-in_err-right-clause-grows g c = extends_on _ _ _ c.in_ok-left.ensures.grows.trees c.in_err-right.ensures.grows.trees

pub returns-then-not-is_same_sort-clause-read : goal.returns-then-not-is_same_sort-clause-read
returns-then-not-is_same_sort-clause-read g c =
    let s = g.T.Terms.state c.args.terms.now in
    let m = g.T.Terms.state c.read_term.new.terms in
    let t = g.T.Terms.state c.read_term-2.new.terms in
    let p = c.args.reader.problem in
    let x = g.E.Expr.tree in
    let q = stated_problem s p in
    let a = tree_at t.trees c.in_ok-left.left.0 in
    let b = tree_at t.trees c.in_ok-right.right.0 in
    let same = (terms_held s p c.requires.held m c.in_ok-left.ensures.grows).1 in
    let kept = tree_kept m.trees t.trees c.in_ok-left.left.0 c.in_ok-right.ensures.grows.trees c.in_ok-left.ensures.read.0 in
    let first = c.in_ok-left.ensures.read.1 ∙ ap Ok (sym kept) in
    let second = ap (λ r. term_at r.declared r.names (x c.args.right.now)) (sym same) ∙ c.in_ok-right.ensures.read.1 in
    let declared = c.in_ok-right.ensures.grows.declared ∙ c.in_ok-left.ensures.grows.declared in
    let test =
    ap (λ d. sort_eq (sort_of d.symbols a) (sort_of d.symbols b)) (sym declared)
    ∙ (λ i. sort_eq (sym c.sort.ensures i) (sym c.sort-2.ensures i))
    ∙ sym c.is_same_sort.ensures.test
    ∙ c.if-not-is_same_sort.true in
    rw c.refusal_at.ensures (unlike q (x c.args.e.now) (x c.args.name.now) (x c.args.left.now) (x c.args.right.now) c.in_ok-name.name (c.in_ok-name.ensures.read s.trees) a first b second test)

pub returns-then-not-is_same_sort-clause-grows : goal.returns-then-not-is_same_sort-clause-grows
returns-then-not-is_same_sort-clause-grows g c = extends_on _ _ _ c.in_ok-left.ensures.grows.trees c.in_ok-right.ensures.grows.trees

pub with_rewrite-requires-clause-held : goal.with_rewrite-requires-clause-held
with_rewrite-requires-clause-held g c =
    let s = g.T.Terms.state c.args.terms.now in
    let m = g.T.Terms.state c.read_term.new.terms in
    let h = terms_held s c.args.reader.problem c.requires.held m c.in_ok-left.ensures.grows in
    (terms_held m c.args.reader.problem h.0 (g.T.Terms.state c.read_term-2.new.terms) c.in_ok-right.ensures.grows).0

pub returns-clause-read : goal.returns-clause-read
returns-clause-read g c =
    let s = g.T.Terms.state c.args.terms.now in
    let m = g.T.Terms.state c.read_term.new.terms in
    let t = g.T.Terms.state c.read_term-2.new.terms in
    let p = c.args.reader.problem in
    let x = g.E.Expr.tree in
    let q = stated_problem s p in
    let a = tree_at t.trees c.in_ok-left.left.0 in
    let b = tree_at t.trees c.in_ok-right.right.0 in
    let h = terms_held s p c.requires.held m c.in_ok-left.ensures.grows in
    let k = terms_held m p h.0 t c.in_ok-right.ensures.grows in
    let kept = tree_kept m.trees t.trees c.in_ok-left.left.0 c.in_ok-right.ensures.grows.trees c.in_ok-left.ensures.read.0 in
    let first = c.in_ok-left.ensures.read.1 ∙ ap Ok (sym kept) in
    let second = ap (λ r. term_at r.declared r.names (x c.args.right.now)) (sym h.1) ∙ c.in_ok-right.ensures.read.1 in
    let declared = c.in_ok-right.ensures.grows.declared ∙ c.in_ok-left.ensures.grows.declared in
    let test =
    ap (λ d. sort_eq (sort_of d.symbols a) (sort_of d.symbols b)) (sym declared)
    ∙ (λ i. sort_eq (sym c.sort.ensures i) (sym c.sort-2.ensures i))
    ∙ sym c.is_same_sort.ensures.test
    ∙ c.if-not-is_same_sort.false in
    let whole = alike q (x c.args.e.now) (x c.args.name.now) (x c.args.left.now) (x c.args.right.now) c.in_ok-name.name (c.in_ok-name.ensures.read s.trees) a first b second test in
    let Q : Read StatedProblem → Type 0 = λ r. AnswersReader t c.with_rewrite.result r in
    subst Q (ap (λ r. Ok (with_rewrite (record { name = c.in_ok-name.name; left = a; right = b }) r)) (k.1 ∙ h.1) ∙ sym whole) c.with_rewrite.ensures

pub returns-clause-grows : goal.returns-clause-grows
returns-clause-grows g c = extends_on _ _ _ c.in_ok-left.ensures.grows.trees c.in_ok-right.ensures.grows.trees
