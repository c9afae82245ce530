use Rattle.std.proofs.Common.{◌≤◌, sym, ◌∙◌, subst, arith, length}
use Rattle.rare_sexpr.specs.Tree.{items_of}
use Rattle.rare_scope.specs.Answers.{Answers}
use Rattle.rare_scope.specs.Reading.{Read}
use Rattle.rare_operators.specs.declared.head.IndexedHead.{IndexedHead}
use Rattle.rare_operators.proofs.IndexSteps.{word_read}
use Rattle.rare_operators.proofs.indexed.read_indexed_head.Goals as goal

pub returns-then-is_word_at-clause-read : goal.returns-then-is_word_at-clause-read
returns-then-is_word_at-clause-read g c =
    let h = g.E.Expr.tree c.args.head.now in
    let few : 3 ≤ length (items_of h) = omega (arith, c.len.ensures, c.if-len-lt3.false) in
    let many : length (items_of h) ≤ 4 = omega arith in
    subst (λ (r : Read IndexedHead). Answers c.read_operator.result r)
    (sym (word_read (g.W.WidthNames.names c.args.names.now) h (g.E.Expr.tree c.item-word.result.now) (items_of h) (g.E.Expr.tree c.item-mark.result.now) few many
    c.item-mark.ensures c.item-word.ensures (sym c.is_word_at.ensures ∙ c.if-is_word_at.true)))
    c.read_operator.ensures.read
