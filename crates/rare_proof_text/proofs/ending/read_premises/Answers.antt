use Rattle.std.proofs.Common.{drop, sym, ◌∙◌}
use Rattle.std.proofs.lemmas.Result.{err_from_is_err_and}
use Rattle.rare_scope.proofs.InOrder.{fails_on}
use Rattle.rare_sexpr.specs.Tree.{items_of}
use Rattle.rare_proof_text.specs.ProofText.{ids_at, premises_by, unless_more}
use Rattle.rare_proof_text.proofs.Ends.{premises_read}
use Rattle.rare_proof_text.proofs.ending.read_premises.Goals as goal

pub returns-in_err-test_ids : goal.returns-in_err-test_ids
returns-in_err-test_ids g c =
    let tree = g.E.Expr.tree in
    let xs = items_of (tree c.args.e.now) in
    let k = tree c.item-keyword.result.now in
    let ids = tree c.item-ids.result.now in
    let p = err_from_is_err_and c.from_residual.result c.from_residual.ensures.1 in
    rw (p.1, p.2) (fails_on c.in_err-test_ids.field-0.0 (ids_at ids) (λ is. unless_more is (drop 7 xs)) (premises_by (drop 5 xs))
    (premises_read xs k ids c.item-keyword.ensures c.item-ids.ensures (sym c.is_keyword_at.ensures ∙ c.if-not-is_keyword_at.false)) c.in_err-test_ids.ensures.err)
