use Rattle.std.proofs.Common.{sym, ◌∙◌, subst}
use Rattle.rare_sexpr.specs.Tree.{items_of}
use Rattle.rare_sort.specs.DeclaredSorts.{widths}
use Rattle.rare_sort.specs.declared.tree.Tree.{Tree}
use Rattle.rare_scope.specs.Reading.{Read}
use Rattle.rare_scope.proofs.SortSteps.{widths_below}
use Rattle.rare_operators.specs.TermAnswers.{AnswersTerm}
use Rattle.rare_operators.proofs.LiteralSteps.{both_named, value_fails, width_fails, both_read}
use Rattle.rare_operators.proofs.literal.read_linear_literal.Goals as goal

pub literal_at-requires-clause-names : goal.literal_at-requires-clause-names
literal_at-requires-clause-names g c =
    let s = g.T.Terms.state c.args.terms.now in
    let below = widths_below s c.args.names.now c.requires in
    both_named (widths s.declared) c.in-Ok.value c.in-Ok-read_linear_over.width (c.in-Ok.ensures.named (widths s.declared) below) (c.in-Ok-read_linear_over.ensures.named (widths s.declared) below)

pub returns-in-Ok-read_linear_over-clause-read : goal.returns-in-Ok-read_linear_over-clause-read
returns-in-Ok-read_linear_over-clause-read g c =
    let s = g.T.Terms.state c.args.terms.now in
    let e = g.E.Expr.tree c.args.e.now in
    subst (λ (r : Read Tree). AnswersTerm (g.T.Terms.state c.literal_at.new.terms).trees c.literal_at.result r)
    (sym (both_read s.declared s.trees c.args.names.now e (g.E.Expr.tree c.item-value.result.now) (g.E.Expr.tree c.item-width.result.now) (items_of e)
    (sym c.len.ensures ∙ c.if-len-ne3.false) c.item-value.ensures c.item-width.ensures c.in-Ok.value c.in-Ok-read_linear_over.width c.in-Ok.ensures.read c.in-Ok-read_linear_over.ensures.read))
    c.literal_at.ensures.read

pub returns-in-Err-read_linear_over-clause-read : goal.returns-in-Err-read_linear_over-clause-read
returns-in-Err-read_linear_over-clause-read g c =
    let s = g.T.Terms.state c.args.terms.now in
    let e = g.E.Expr.tree c.args.e.now in
    width_fails s.declared s.trees c.args.names.now e (g.E.Expr.tree c.item-value.result.now) (g.E.Expr.tree c.item-width.result.now) (items_of e)
    (sym c.len.ensures ∙ c.if-len-ne3.false) c.item-value.ensures c.item-width.ensures c.in-Err-read_linear_over.fault c.in-Ok.value c.in-Ok.ensures.read c.in-Err-read_linear_over.ensures.read

pub returns-in-Err-clause-read : goal.returns-in-Err-clause-read
returns-in-Err-clause-read g c =
    let s = g.T.Terms.state c.args.terms.now in
    let e = g.E.Expr.tree c.args.e.now in
    value_fails s.declared s.trees c.args.names.now e (g.E.Expr.tree c.item-value.result.now) (g.E.Expr.tree c.item-width.result.now) (items_of e)
    (sym c.len.ensures ∙ c.if-len-ne3.false) c.item-value.ensures c.item-width.ensures c.in-Err.fault c.in-Err.ensures.read
