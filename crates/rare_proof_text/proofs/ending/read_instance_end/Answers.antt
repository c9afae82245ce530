use Rattle.std.proofs.Common.{[], drop, Ok, sym, ◌∙◌}
use Rattle.std.proofs.lemmas.Result.{err_from_is_err_and}
use Rattle.rare_scope.proofs.InOrder.{fails_on}
use Rattle.rare_scope.specs.Names.{names_of}
use Rattle.rare_scope.specs.Reading.{Read, go_on}
use Rattle.rare_sexpr.specs.Tree.{items_of}
use Rattle.rare_proof_text.specs.ArgumentText.{NamedRule}
use Rattle.rare_proof_text.specs.ProofText.{StepEnd, step_end, args_by, ids_at, instance_end}
use Rattle.rare_proof_text.proofs.Ends.{args_first, premises_first}
use Rattle.rare_proof_text.proofs.ending.read_instance_end.Goals as goal

pub returns-in_err-rule-clause-read : goal.returns-in_err-rule-clause-read
returns-in_err-rule-clause-read g c =
    let s = g.T.Terms.state c.args.terms.now in
    let names = names_of s.trees c.args.scope.now in
    let book = c.args.book.now in
    let tree = g.E.Expr.tree in
    let e = tree c.args.e.now in
    let xs = items_of e in
    let p = err_from_is_err_and c.from_residual.result c.from_residual.ensures.1 in
    let rest = λ (r : NamedRule). let x : Read StepEnd = Ok (step_end r []) in x in
    rw (p.1, p.2) (fails_on c.in_err-rule.field-0.0 (args_by s.declared names book e (drop 5 xs)) rest (instance_end s.declared names book e (drop 5 xs))
    (args_first s.declared names book e xs (tree c.item-keyword.result.now) (tree c.item-ids.result.now) c.item-keyword.ensures c.item-ids.ensures (sym c.is_keyword_at.ensures ∙ c.if-not-is_keyword_at.true))
    c.in_err-rule.ensures.read)

pub returns-in_err-test_ids-clause-read : goal.returns-in_err-test_ids-clause-read
returns-in_err-test_ids-clause-read g c =
    let s = g.T.Terms.state c.args.terms.now in
    let names = names_of s.trees c.args.scope.now in
    let book = c.args.book.now in
    let tree = g.E.Expr.tree in
    let e = tree c.args.e.now in
    let xs = items_of e in
    let ids = tree c.item-ids.result.now in
    let p = err_from_is_err_and c.from_residual-in_err-test_ids.result c.from_residual-in_err-test_ids.ensures.1 in
    rw (p.1, p.2) (fails_on c.in_err-test_ids.field-0.0 (ids_at ids) (λ is. go_on (args_by s.declared names book e (drop 7 xs)) (λ r. Ok (step_end r is))) (instance_end s.declared names book e (drop 5 xs))
    (premises_first s.declared names book e xs (tree c.item-keyword.result.now) ids c.item-keyword.ensures c.item-ids.ensures (sym c.is_keyword_at.ensures ∙ c.if-not-is_keyword_at.false))
    c.in_err-test_ids.ensures.err)
