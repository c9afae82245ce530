use Rattle.std.proofs.Common.{[], sym, ap, ◌∙◌, subst, if◌then◌else◌}
use Rattle.rare_base.specs.declared.answers.Fault.{Fault}
use Rattle.rare_base.specs.declared.answers.Reason.TheVariants as reason
use Rattle.rare_scope.specs.Answers.{Fails}
use Rattle.rare_scope.specs.Reading.{refused}
use Rattle.rare_sexpr.specs.Tree.{items_of}
use Rattle.rare_proof_text.specs.ProofText.{ids_at, ids_from}
use Rattle.rare_proof_text.proofs.Listing.{ids_more, ids_stop}
use Rattle.rare_proof_text.proofs.parts.test_ids.Goals as goal

pub returns-then-not-is_symbol-clause-err : goal.returns-then-not-is_symbol-clause-err
returns-then-not-is_symbol-clause-err g c =
    let e = g.E.Expr.tree c.args.e.now in
    let x = g.E.Expr.tree c.item-item.result.now in
    subst (λ (f : Fault). Fails f (ids_at e)) (sym c.refusal_at-then-not-is_symbol.ensures)
    (ap (λ b. if b then ids_from [] (items_of e) else refused e reason.BadForm) (sym c.is_list.ensures ∙ c.if-not-is_list.false)
    ∙ sym c.loop-k.invariant ∙ ids_stop (items_of e) c.loop-k.k x c.item-item.ensures (sym c.is_symbol.ensures ∙ c.if-not-is_symbol.true))

pub loop-k-preserved : goal.loop-k-preserved
loop-k-preserved g c =
    sym (ids_more (items_of (g.E.Expr.tree c.args.e.now)) c.loop-k.k (g.E.Expr.tree c.item-item.result.now) c.item-item.ensures (sym c.is_symbol.ensures ∙ c.if-not-is_symbol.false)) ∙ c.loop-k.invariant
