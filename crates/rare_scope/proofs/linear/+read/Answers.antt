use Rattle.std.proofs.Common.{◌≤◌, ◌+◌, sym, ◌∙◌, ap, subst, map, drop, length, arith}
use Rattle.std.proofs.lemmas.Result.{err_from_is_err_and}
use Rattle.rare_sexpr.specs.Tree.{items_of}
use Rattle.rare_scope.specs.Reading.{Read, go_on}
use Rattle.rare_scope.specs.Answers.{Answers}
use Rattle.rare_scope.specs.LinearText.{linear_at, linear_form, operands, from_first, folded, joined}
use Rattle.rare_linear.specs.Linears.{LinearExpression}
use Rattle.rare_scope.proofs.InOrder.{fails_on, goes_on}
use Rattle.rare_scope.proofs.LinearSteps.{pair, list_read, first_read, next_read, more_read}
use Rattle.rare_scope.proofs.Listing.{drop_all}
use Rattle.rare_scope.proofs.linear.+read.Goals as goal

pub returns-in_err-sign : goal.returns-in_err-sign
returns-in_err-sign g t c =
    let e = g.E.Expr.tree c.args.e.now in
    let w = g.W.WidthNames.names c.args.names.now in
    let p = err_from_is_err_and c.from_residual.result c.from_residual.ensures.1 in
    rw (p.1, p.2) (fails_on c.in_err-sign.field-0.0 (linear_form e) (λ s. operands e s (map (pair w) (drop 1 (items_of e)))) (linear_at w e)
    (list_read w e (sym c.is_size.ensures ∙ c.if-is_size.false) (sym c.is_list.ensures ∙ c.if-not-is_list.false)) c.in_err-sign.ensures.form)

pub returns-in_err-sum : goal.returns-in_err-sum
returns-in_err-sum g t c =
    let e = g.E.Expr.tree c.args.e.now in
    let w = g.W.WidthNames.names c.args.names.now in
    let p = err_from_is_err_and c.from_residual-in_err-sum.result c.from_residual-in_err-sum.ensures.1 in
    rw (p.1, p.2) (fails_on c.in_err-sum.field-0.0 (linear_at w (g.E.Expr.tree c.item.result.now)) (λ l. from_first e c.in_ok-sign.sign l (map (pair w) (drop 2 (items_of e)))) (linear_at w e)
    (first_read w e (g.E.Expr.tree c.item.result.now) c.in_ok-sign.sign (sym c.is_size.ensures ∙ c.if-is_size.false) (sym c.is_list.ensures ∙ c.if-not-is_list.false) c.in_ok-sign.ensures.form c.item.ensures) c.in_err-sum.ensures)

pub returns-then-len-eq2 : goal.returns-then-len-eq2
returns-then-len-eq2 g t c =
    let e = g.E.Expr.tree c.args.e.now in
    let w = g.W.WidthNames.names c.args.names.now in
    let x = g.E.Expr.tree c.item.result.now in
    let le : length (items_of e) ≤ 2 = omega arith in
    let whole = goes_on (linear_at w x) c.in_ok-sum.sum (λ l. from_first e c.in_ok-sign.sign l (map (pair w) (drop 2 (items_of e)))) (linear_at w e)
    (first_read w e x c.in_ok-sign.sign (sym c.is_size.ensures ∙ c.if-is_size.false) (sym c.is_list.ensures ∙ c.if-not-is_list.false) c.in_ok-sign.ensures.form c.item.ensures) c.in_ok-sum.ensures in
    let P : Read LinearExpression → Type 0 = λ r. Answers c.multiple.result r in
    subst P (sym (whole ∙ ap (λ xs. from_first e c.in_ok-sign.sign c.in_ok-sum.sum (map (pair w) xs)) (drop_all (items_of e) 2 le))) c.multiple.ensures

pub loop-k-init : goal.loop-k-init
loop-k-init g t c =
    more_read (g.W.WidthNames.names c.args.names.now) (g.E.Expr.tree c.args.e.now) (g.E.Expr.tree c.item.result.now) c.in_ok-sign.sign c.in_ok-sum.sum (sym c.is_size.ensures ∙ c.if-is_size.false) (sym c.is_list.ensures ∙ c.if-not-is_list.false)
    c.in_ok-sign.ensures.form c.item.ensures (omega (arith, c.in_ok-sign.ensures.two, c.len.ensures, c.if-len-eq2.false)) c.in_ok-sum.ensures

pub returns-in_err-next : goal.returns-in_err-next
returns-in_err-next g t c =
    let e = g.E.Expr.tree c.args.e.now in
    let w = g.W.WidthNames.names c.args.names.now in
    let x = g.E.Expr.tree c.item-in-loop-k.result.now in
    let p = err_from_is_err_and c.from_residual-in_err-next.result c.from_residual-in_err-next.ensures.1 in
    rw (p.1, p.2) (fails_on c.in_err-next.field-0.0 (linear_at w x) (λ m. go_on (joined e c.in_ok-sign.sign c.loop-k.sum m) (λ n. folded e c.in_ok-sign.sign n (map (pair w) (drop (c.loop-k.k + 1) (items_of e))))) (linear_at w e)
    (next_read w e x c.in_ok-sign.sign c.loop-k.sum c.loop-k.k c.item-in-loop-k.ensures c.loop-k.invariant) c.in_err-next.ensures)

pub returns-in_err-sum-2 : goal.returns-in_err-sum-2
returns-in_err-sum-2 g t c =
    let e = g.E.Expr.tree c.args.e.now in
    let w = g.W.WidthNames.names c.args.names.now in
    let x = g.E.Expr.tree c.item-in-loop-k.result.now in
    let p = err_from_is_err_and c.from_residual-in_err-sum-2.result c.from_residual-in_err-sum-2.ensures.1 in
    rw (p.1, p.2) (fails_on c.in_err-sum-2.field-0.0 (joined e c.in_ok-sign.sign c.loop-k.sum c.in_ok-next.next) (λ n. folded e c.in_ok-sign.sign n (map (pair w) (drop (c.loop-k.k + 1) (items_of e)))) (linear_at w e)
    (goes_on (linear_at w x) c.in_ok-next.next (λ m. go_on (joined e c.in_ok-sign.sign c.loop-k.sum m) (λ n. folded e c.in_ok-sign.sign n (map (pair w) (drop (c.loop-k.k + 1) (items_of e))))) (linear_at w e)
    (next_read w e x c.in_ok-sign.sign c.loop-k.sum c.loop-k.k c.item-in-loop-k.ensures c.loop-k.invariant) c.in_ok-next.ensures) c.in_err-sum-2.ensures)

pub loop-k-preserved : goal.loop-k-preserved
loop-k-preserved g t c =
    let e = g.E.Expr.tree c.args.e.now in
    let w = g.W.WidthNames.names c.args.names.now in
    let x = g.E.Expr.tree c.item-in-loop-k.result.now in
    sym (goes_on (joined e c.in_ok-sign.sign c.loop-k.sum c.in_ok-next.next) c.in_ok-sum-2.sum (λ n. folded e c.in_ok-sign.sign n (map (pair w) (drop (c.loop-k.k + 1) (items_of e)))) (linear_at w e)
    (goes_on (linear_at w x) c.in_ok-next.next (λ m. go_on (joined e c.in_ok-sign.sign c.loop-k.sum m) (λ n. folded e c.in_ok-sign.sign n (map (pair w) (drop (c.loop-k.k + 1) (items_of e))))) (linear_at w e)
    (next_read w e x c.in_ok-sign.sign c.loop-k.sum c.loop-k.k c.item-in-loop-k.ensures c.loop-k.invariant) c.in_ok-next.ensures) c.in_ok-sum-2.ensures)
