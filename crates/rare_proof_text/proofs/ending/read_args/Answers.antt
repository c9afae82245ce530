use Rattle.std.proofs.Common.{◌+◌, drop, sym, ◌∙◌, subst, arith}
use Rattle.std.proofs.lemmas.Result.{err_from_is_err_and}
use Rattle.rare_base.specs.declared.answers.Fault.{Fault}
use Rattle.rare_scope.proofs.InOrder.{fails_on, goes_on}
use Rattle.rare_scope.specs.Answers.{Fails}
use Rattle.rare_scope.specs.Names.{names_of}
use Rattle.rare_sexpr.specs.Tree.{items_of}
use Rattle.rare_proof_text.specs.ArgumentText.{NamedRule, instance_at}
use Rattle.rare_proof_text.specs.Commands.{named_rule}
use Rattle.rare_proof_text.specs.ProofText.{args_by, unless_more}
use Rattle.rare_proof_text.proofs.Ends.{args_read, no_args, no_more, one_more, other_args}
use Rattle.rare_proof_text.proofs.ending.read_args.Goals as goal

pub returns-then-len-k-clause-read : goal.returns-then-len-k-clause-read
returns-then-len-k-clause-read g c =
    let s = g.T.Terms.state c.args.terms.now in
    let names = names_of s.trees c.args.scope.now in
    let e = g.E.Expr.tree c.args.e.now in
    let xs = items_of e in
    subst (λ (f : Fault). Fails f (args_by s.declared names c.args.book.now e (drop c.args.k xs))) (sym c.refusal_at.ensures)
    (no_args s.declared names c.args.book.now e xs c.args.k (omega (arith, c.len.ensures, c.if-len-k.true)))

pub returns-then-not-is_keyword_at-clause-read : goal.returns-then-not-is_keyword_at-clause-read
returns-then-not-is_keyword_at-clause-read g c =
    let s = g.T.Terms.state c.args.terms.now in
    let names = names_of s.trees c.args.scope.now in
    let tree = g.E.Expr.tree in
    let e = tree c.args.e.now in
    let xs = items_of e in
    subst (λ (f : Fault). Fails f (args_by s.declared names c.args.book.now e (drop c.args.k xs))) (sym c.refusal_at-then-not-is_keyword_at.ensures)
    (other_args s.declared names c.args.book.now e xs c.args.k (tree c.item-keyword.result.now) (tree c.item-args.result.now) c.item-keyword.ensures c.item-args.ensures
    (sym c.is_keyword_at.ensures ∙ c.if-not-is_keyword_at.true))

pub returns-in_err-rule-clause-read : goal.returns-in_err-rule-clause-read
returns-in_err-rule-clause-read g c =
    let s = g.T.Terms.state c.args.terms.now in
    let names = names_of s.trees c.args.scope.now in
    let book = c.args.book.now in
    let tree = g.E.Expr.tree in
    let e = tree c.args.e.now in
    let xs = items_of e in
    let a = tree c.item-args.result.now in
    let rest = λ (r : NamedRule). unless_more r (drop (c.args.k + 2) xs) in
    let p = err_from_is_err_and c.from_residual.result c.from_residual.ensures.1 in
    rw (p.1, p.2) (fails_on c.in_err-rule.field-0.0 (instance_at s.declared names book a) rest (args_by s.declared names book e (drop c.args.k xs))
    (args_read s.declared names book e xs c.args.k (tree c.item-keyword.result.now) a c.item-keyword.ensures c.item-args.ensures (sym c.is_keyword_at.ensures ∙ c.if-not-is_keyword_at.false))
    c.in_err-rule.ensures.read)

pub returns-then-len-k-2-clause-read : goal.returns-then-len-k-2-clause-read
returns-then-len-k-2-clause-read g c =
    let s = g.T.Terms.state c.args.terms.now in
    let new = g.T.Terms.state c.read_instance.new.terms in
    let names = names_of s.trees c.args.scope.now in
    let book = c.args.book.now in
    let tree = g.E.Expr.tree in
    let e = tree c.args.e.now in
    let xs = items_of e in
    let a = tree c.item-args.result.now in
    let rest = λ (r : NamedRule). unless_more r (drop (c.args.k + 2) xs) in
    let whole = args_by s.declared names book e (drop c.args.k xs) in
    let rule = named_rule new.trees c.in_ok-rule.rule in
    subst (λ (f : Fault). Fails f whole) (sym c.refusal_at-then-len-k-2.ensures)
    (goes_on (instance_at s.declared names book a) rule rest whole
    (args_read s.declared names book e xs c.args.k (tree c.item-keyword.result.now) a c.item-keyword.ensures c.item-args.ensures (sym c.is_keyword_at.ensures ∙ c.if-not-is_keyword_at.false))
    c.in_ok-rule.ensures.read ∙ one_more rule xs (c.args.k + 2) (tree c.item-next.result.now) c.item-next.ensures)

pub returns-clause-read : goal.returns-clause-read
returns-clause-read g c =
    let s = g.T.Terms.state c.args.terms.now in
    let new = g.T.Terms.state c.read_instance.new.terms in
    let names = names_of s.trees c.args.scope.now in
    let book = c.args.book.now in
    let tree = g.E.Expr.tree in
    let e = tree c.args.e.now in
    let xs = items_of e in
    let a = tree c.item-args.result.now in
    let rest = λ (r : NamedRule). unless_more r (drop (c.args.k + 2) xs) in
    let whole = args_by s.declared names book e (drop c.args.k xs) in
    let rule = named_rule new.trees c.in_ok-rule.rule in
    goes_on (instance_at s.declared names book a) rule rest whole
    (args_read s.declared names book e xs c.args.k (tree c.item-keyword.result.now) a c.item-keyword.ensures c.item-args.ensures (sym c.is_keyword_at.ensures ∙ c.if-not-is_keyword_at.false))
    c.in_ok-rule.ensures.read ∙ no_more rule xs (c.args.k + 2) (omega (arith, c.len-2.ensures, c.if-len-k-2.false))
