use Rattle.std.proofs.Common.{◌+◌, [], map, drop, sym, ◌∙◌, ap, subst}
use Rattle.std.proofs.lemmas.Result.{err_from_is_err_and}
use Rattle.rare_base.specs.declared.answers.Fault.{Fault}
use Rattle.rare_sexpr.specs.Tree.{items_of}
use Rattle.rare_sort.specs.declared.tree.Tree.{Tree}
use Rattle.rare_scope.specs.Answers.{Answers, Fails}
use Rattle.rare_scope.specs.Reading.{Read}
use Rattle.rare_scope.proofs.InOrder.{fails_on, goes_on}
use Rattle.rare_parse.specs.RuleTermText.{rule_term_at, arguments_from}
use Rattle.rare_parse.specs.inner.TermReading.{only_tree, operator_at, placed}
use Rattle.rare_parse.proofs.TermSteps.{pair, atom_read, empty_read, decimal_read, linear_read, applied_read, argument_fails, argument_read}
use Rattle.rare_parse.proofs.term.+read_term.Goals as goal

pub returns-then-not-is_list-clause-read : goal.returns-then-not-is_list-clause-read
returns-then-not-is_list-clause-read g t c =
    let e = g.E.Expr.tree c.args.e.now in
    subst (λ (r : Read Tree). Answers (only_tree c.read_atom.result) r) (sym (atom_read c.args.names.now e (sym c.is_list.ensures ∙ c.if-not-is_list.true))) c.read_atom.ensures.read

pub returns-then-len-eq0-clause-read : goal.returns-then-len-eq0-clause-read
returns-then-len-eq0-clause-read g t c =
    let e = g.E.Expr.tree c.args.e.now in
    subst (λ (f : Fault). Fails f (rule_term_at c.args.names.now e)) (sym c.refusal_at.ensures)
    (empty_read c.args.names.now e (sym c.is_list.ensures ∙ c.if-not-is_list.false) (sym c.len.ensures ∙ c.if-len-eq0.true))

pub returns-then-is_word_at-clause-read : goal.returns-then-is_word_at-clause-read
returns-then-is_word_at-clause-read g t c =
    let e = g.E.Expr.tree c.args.e.now in
    subst (λ (r : Read Tree). Answers (only_tree c.read_decimal_literal.result) r)
    (sym (decimal_read c.args.names.now e (sym c.is_list.ensures ∙ c.if-not-is_list.false) (g.E.Expr.tree c.item-head.result.now) c.item-head.ensures (sym c.is_word_at.ensures ∙ c.if-is_word_at.true))) c.read_decimal_literal.ensures.read

pub returns-then-is_word_at-2-clause-read : goal.returns-then-is_word_at-2-clause-read
returns-then-is_word_at-2-clause-read g t c =
    let e = g.E.Expr.tree c.args.e.now in
    subst (λ (r : Read Tree). Answers (only_tree c.read_linear_literal.result) r)
    (sym (linear_read c.args.names.now e (sym c.is_list.ensures ∙ c.if-not-is_list.false) (g.E.Expr.tree c.item-head.result.now) c.item-head.ensures (sym c.is_word_at.ensures ∙ c.if-is_word_at.false) (sym c.is_word_at-2.ensures ∙ c.if-is_word_at-2.true)))
    c.read_linear_literal.ensures.read

pub returns-in_err-applied-clause-read : goal.returns-in_err-applied-clause-read
returns-in_err-applied-clause-read g t c =
    let ps = c.args.names.now in
    let e = g.E.Expr.tree c.args.e.now in
    let h = g.E.Expr.tree c.item-head.result.now in
    let p = err_from_is_err_and c.from_residual.result c.from_residual.ensures.1 in
    rw (p.1, p.2) (fails_on c.in_err-applied.field-0.0 (operator_at ps e h) (λ o. arguments_from e o.operator [] (map (pair ps) (drop o.first (items_of e)))) (rule_term_at ps e)
    (applied_read ps e (sym c.is_list.ensures ∙ c.if-not-is_list.false) h c.item-head.ensures (sym c.is_word_at.ensures ∙ c.if-is_word_at.false) (sym c.is_word_at-2.ensures ∙ c.if-is_word_at-2.false)) c.in_err-applied.ensures.read)

pub loop-k-init : goal.loop-k-init
loop-k-init g t c =
    let ps = c.args.names.now in
    let e = g.E.Expr.tree c.args.e.now in
    let h = g.E.Expr.tree c.item-head.result.now in
    let a = c.in_ok-applied.applied in record {
      read =
          ap (λ ts. arguments_from e a.operator ts (map (pair ps) (drop a.first (items_of e)))) c.no_arguments-arguments.ensures.none
          ∙ sym (goes_on (operator_at ps e h) (placed a.first a.operator) (λ o. arguments_from e o.operator [] (map (pair ps) (drop o.first (items_of e)))) (rule_term_at ps e)
          (applied_read ps e (sym c.is_list.ensures ∙ c.if-not-is_list.false) h c.item-head.ensures (sym c.is_word_at.ensures ∙ c.if-is_word_at.false) (sym c.is_word_at-2.ensures ∙ c.if-is_word_at-2.false)) c.in_ok-applied.ensures.read);
      counted = c.no_arguments-arguments.ensures.counted;
    }

pub returns-in_err-argument-clause-read : goal.returns-in_err-argument-clause-read
returns-in_err-argument-clause-read g t c =
    let ps = c.args.names.now in
    let e = g.E.Expr.tree c.args.e.now in
    let x = g.E.Expr.tree c.item.result.now in
    let p = err_from_is_err_and c.from_residual-in_err-argument.result c.from_residual-in_err-argument.ensures.1 in
    rw (p.1, p.2) (argument_fails ps e (sym c.is_list.ensures ∙ c.if-not-is_list.false) c.in_ok-applied.applied.operator c.loop-k.arguments.trees x c.loop-k.k c.item.ensures c.loop-k.invariant.read c.in_err-argument.field-0.0 c.in_err-argument.ensures.read)

pub loop-k-preserved : goal.loop-k-preserved
loop-k-preserved g t c =
    let ps = c.args.names.now in
    let e = g.E.Expr.tree c.args.e.now in
    let x = g.E.Expr.tree c.item.result.now in
    let o = c.in_ok-applied.applied.operator in record {
      read =
          ap (λ ts. arguments_from e o ts (map (pair ps) (drop (c.loop-k.k + 1) (items_of e)))) c.in-Ok.ensures.trees
          ∙ argument_read ps e (sym c.is_list.ensures ∙ c.if-not-is_list.false) o c.loop-k.arguments.trees x c.loop-k.k c.item.ensures c.loop-k.invariant.read c.in_ok-argument.argument.tree c.in_ok-argument.ensures.read;
      counted = c.in-Ok.ensures.counted;
    }
