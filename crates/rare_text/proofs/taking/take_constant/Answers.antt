use Rattle.std.proofs.Common.{◌≡◌, sym, ◌∙◌, ap, subst, arith, length}
use Rattle.rare_scope.specs.Reading.{Read}
use Rattle.rare_sexpr.specs.Tree.{items_of}
use Rattle.rare_text.specs.declared.commands.CommandWord.TheVariants.{DeclareConst}
use Rattle.rare_text.specs.ProblemText.{command_by}
use Rattle.rare_text.specs.Problems.{StatedProblem}
use Rattle.rare_text.specs.Stated.{stated_problem}
use Rattle.rare_text.specs.inner.Standing.{AnswersReader}
use Rattle.rare_text.proofs.CommandForms.{other_constant, two_behind}
use Rattle.rare_text.proofs.taking.take_constant.Goals as goal

pub returns-then-len-ne3-clause-read : goal.returns-then-len-ne3-clause-read
returns-then-len-ne3-clause-read g c =
    let p = stated_problem (g.T.Terms.state c.args.terms.now) c.args.reader.problem in
    let e = g.E.Expr.tree c.args.e.now in
    rw c.refusal_at.ensures (other_constant p e (items_of e) (λ n. c.if-len-ne3.true (c.len.ensures ∙ n)))

pub returns-clause-read : goal.returns-clause-read
returns-clause-read g c =
    let p = stated_problem (g.T.Terms.state c.args.terms.now) c.args.reader.problem in
    let x = g.E.Expr.tree in
    let e = x c.args.e.now in
    let n : length (items_of e) ≡ 3 = omega (arith, c.len.ensures, c.if-len-ne3.false) in
    let Q : Read StatedProblem → Type 0 = λ r. AnswersReader (g.T.Terms.state c.read_constant_declaration.new.terms) c.read_constant_declaration.result r in
    subst Q (sym (ap (command_by p e DeclareConst) (two_behind (items_of e) (x c.item.result.now) (x c.item-2.result.now) n c.item.ensures c.item-2.ensures))) c.read_constant_declaration.ensures.read
