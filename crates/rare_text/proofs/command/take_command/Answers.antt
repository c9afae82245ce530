use Rattle.std.proofs.Common.{sym, subst, arith, drop}
use Rattle.std.proofs.lemmas.Result.{err_from_is_err_and}
use Rattle.rare_scope.specs.Reading.{Read}
use Rattle.rare_scope.proofs.InOrder.{fails_on, goes_on}
use Rattle.rare_sexpr.specs.Tree.{items_of}
use Rattle.rare_text.specs.declared.commands.CommandWord.{CommandWord}
use Rattle.rare_text.specs.ProblemText.{command_by, command_word, with_command}
use Rattle.rare_text.specs.Problems.{StatedProblem}
use Rattle.rare_text.specs.Stated.{stated_problem}
use Rattle.rare_text.specs.inner.Standing.{AnswersReader}
use Rattle.rare_text.proofs.CommandForms.{no_items, by_word}
use Rattle.rare_text.proofs.command.take_command.Goals as goal

pub returns-then-len-eq0-clause-read : goal.returns-then-len-eq0-clause-read
returns-then-len-eq0-clause-read g c =
    let p = stated_problem (g.T.Terms.state c.args.terms.now) c.args.reader.problem in
    rw c.refusal_at.ensures (no_items p (g.E.Expr.tree c.args.e.now) (omega (arith, c.len.ensures, c.if-len-eq0.true)))

pub returns-in_err-word-clause-read : goal.returns-in_err-word-clause-read
returns-in_err-word-clause-read g c =
    let p = stated_problem (g.T.Terms.state c.args.terms.now) c.args.reader.problem in
    let e = g.E.Expr.tree c.args.e.now in
    let h = g.E.Expr.tree c.item.result.now in
    let rest : CommandWord → Read StatedProblem = λ word. command_by p e word (drop 1 (items_of e)) in
    let r = err_from_is_err_and c.from_residual.result c.from_residual.ensures.1 in
    rw (r.1, r.2) (fails_on c.in_err-word.field-0.0 (command_word e h) rest (with_command p e) (by_word p e h c.item.ensures) c.in_err-word.ensures)

pub returns-clause-read : goal.returns-clause-read
returns-clause-read g c =
    let p = stated_problem (g.T.Terms.state c.args.terms.now) c.args.reader.problem in
    let e = g.E.Expr.tree c.args.e.now in
    let h = g.E.Expr.tree c.item.result.now in
    let rest : CommandWord → Read StatedProblem = λ word. command_by p e word (drop 1 (items_of e)) in
    let whole = goes_on (command_word e h) c.in_ok-word.word rest (with_command p e) (by_word p e h c.item.ensures) c.in_ok-word.ensures in
    let Q : Read StatedProblem → Type 0 = λ r. AnswersReader (g.T.Terms.state c.take_by_word.new.terms) c.take_by_word.result r in
    subst Q (sym whole) c.take_by_word.ensures.read
