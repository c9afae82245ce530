use Rattle.std.proofs.Common.{sym, ◌∙◌, ap, subst, Ok}
use Rattle.rare_scope.specs.Names.{a_term}
use Rattle.rare_scope.specs.Reading.{Read}
use Rattle.rare_sort.specs.Ids.{tree_at}
use Rattle.rare_text.specs.Problems.{StatedProblem, with_name}
use Rattle.rare_text.specs.Stated.{stated_problem}
use Rattle.rare_text.specs.inner.Standing.{AnswersReader}
use Rattle.rare_text.proofs.Holding.{terms_held}
use Rattle.rare_text.proofs.CommandSteps.{defined}
use Rattle.rare_text.proofs.terms.read_definition.Goals as goal

pub with_term-requires-clause-held : goal.with_term-requires-clause-held
with_term-requires-clause-held g c =
    (terms_held (g.T.Terms.state c.args.terms.now) c.args.reader.problem c.requires.held (g.T.Terms.state c.read_defined_term.new.terms) c.in_ok-id.ensures.grows).0

pub returns-clause-read : goal.returns-clause-read
returns-clause-read g c =
    let s = g.T.Terms.state c.args.terms.now in
    let t = g.T.Terms.state c.read_defined_term.new.terms in
    let p = c.args.reader.problem in
    let x = g.E.Expr.tree in
    let tree = tree_at t.trees c.in_ok-id.id.0 in
    let same = (terms_held s p c.requires.held t c.in_ok-id.ensures.grows).1 in
    let whole = defined (stated_problem s p) (x c.args.name.now) (x c.args.args.now) (x c.args.sort.now) (x c.args.term.now) c.in_ok-text.text tree (c.in_ok-text.ensures.read s.trees) c.in_ok-id.ensures.read.1 in
    let Q : Read StatedProblem → Type 0 = λ r. AnswersReader t c.with_term.result r in
    subst Q (ap (λ q. Ok (with_name c.in_ok-text.text (a_term tree) q)) same ∙ sym whole) (rw (sym c.bytes.ensures) c.with_term.ensures)
