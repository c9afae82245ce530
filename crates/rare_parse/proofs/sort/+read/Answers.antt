use Rattle.std.proofs.Common.{sym, ◌∙◌, subst}
use Rattle.std.proofs.lemmas.Result.{err_from_is_err_and}
use Rattle.rare_base.specs.declared.answers.Fault.{Fault}
use Rattle.rare_sort.specs.declared.sort.Sort.{Sort}
use Rattle.rare_sort.specs.declared.sort.Sort.TheViews.{Array}
use Rattle.rare_scope.specs.Answers.{Answers, Fails}
use Rattle.rare_scope.specs.Reading.{Read, go_on}
use Rattle.rare_scope.specs.SortText.{shallow}
use Rattle.rare_scope.proofs.InOrder.{fails_on, goes_on}
use Rattle.rare_parse.specs.RuleSortText.{rule_sort_at}
use Rattle.rare_parse.specs.inner.SortReading.{only_sort}
use Rattle.rare_parse.proofs.SortSteps.{symbol_read, other_read, pair_read, indexed_read, array_read}
use Rattle.rare_parse.proofs.sort.+read.Goals as goal

pub returns-then-is_symbol-clause-read : goal.returns-then-is_symbol-clause-read
returns-then-is_symbol-clause-read g t c =
    let e = g.E.Expr.tree c.args.e.now in
    subst (λ (r : Read Sort). Answers (only_sort c.read_symbol.result) r) (sym (symbol_read c.args.names.now e (sym c.is_symbol.ensures ∙ c.if-is_symbol.true))) c.read_symbol.ensures.read

pub returns-then-len-eq2-clause-read : goal.returns-then-len-eq2-clause-read
returns-then-len-eq2-clause-read g t c =
    let e = g.E.Expr.tree c.args.e.now in
    subst (λ (r : Read Sort). Answers (only_sort c.read_pair.result) r)
    (sym (pair_read c.args.names.now e (sym c.is_symbol.ensures ∙ c.if-is_symbol.false) (g.E.Expr.tree c.item.result.now) (g.E.Expr.tree c.item-then-len-eq2.result.now) (sym c.len.ensures ∙ c.if-len-eq2.true) c.item.ensures c.item-then-len-eq2.ensures))
    c.read_pair.ensures.read

pub returns-then-len-ne3-clause-read : goal.returns-then-len-ne3-clause-read
returns-then-len-ne3-clause-read g t c =
    let e = g.E.Expr.tree c.args.e.now in
    subst (λ (f : Fault). Fails f (rule_sort_at c.args.names.now e)) (sym c.refusal_at.ensures)
    (other_read c.args.names.now e (sym c.is_symbol.ensures ∙ c.if-is_symbol.false) (λ two. c.if-len-eq2.false (c.len.ensures ∙ two)) (λ three. c.if-len-ne3.true (c.len-2.ensures ∙ three)))

pub returns-then-not-is_word_at-clause-read : goal.returns-then-not-is_word_at-clause-read
returns-then-not-is_word_at-clause-read g t c =
    let e = g.E.Expr.tree c.args.e.now in
    let h = g.E.Expr.tree c.item-head.result.now in
    let x = g.E.Expr.tree c.item-first.result.now in
    let y = g.E.Expr.tree c.item-second.result.now in
    subst (λ (r : Read Sort). Answers (only_sort c.read_indexed.result) r)
    (sym (indexed_read c.args.names.now e (sym c.is_symbol.ensures ∙ c.if-is_symbol.false) h x y (sym c.len-2.ensures ∙ c.if-len-ne3.false) c.item-head.ensures c.item-first.ensures c.item-second.ensures (sym c.is_word_at.ensures ∙ c.if-not-is_word_at.true))) c.read_indexed.ensures.read

pub returns-in_err-keys-clause-read : goal.returns-in_err-keys-clause-read
returns-in_err-keys-clause-read g t c =
    let ps = c.args.names.now in
    let e = g.E.Expr.tree c.args.e.now in
    let h = g.E.Expr.tree c.item-head.result.now in
    let x = g.E.Expr.tree c.item-first.result.now in
    let y = g.E.Expr.tree c.item-second.result.now in
    let p = err_from_is_err_and c.from_residual.result c.from_residual.ensures.1 in
    rw (p.1, p.2) (fails_on c.in_err-keys.field-0.0 (rule_sort_at ps x) (λ keys. go_on (rule_sort_at ps y) (λ entries. shallow e (Array keys entries))) (rule_sort_at ps e)
    (array_read ps e (sym c.is_symbol.ensures ∙ c.if-is_symbol.false) h x y (sym c.len-2.ensures ∙ c.if-len-ne3.false) c.item-head.ensures c.item-first.ensures c.item-second.ensures (sym c.is_word_at.ensures ∙ c.if-not-is_word_at.false)) c.in_err-keys.ensures.read)

pub returns-in_err-entries-clause-read : goal.returns-in_err-entries-clause-read
returns-in_err-entries-clause-read g t c =
    let ps = c.args.names.now in
    let e = g.E.Expr.tree c.args.e.now in
    let h = g.E.Expr.tree c.item-head.result.now in
    let x = g.E.Expr.tree c.item-first.result.now in
    let y = g.E.Expr.tree c.item-second.result.now in
    let p = err_from_is_err_and c.from_residual-in_err-entries.result c.from_residual-in_err-entries.ensures.1 in
    rw (p.1, p.2) (fails_on c.in_err-entries.field-0.0 (rule_sort_at ps y) (λ entries. shallow e (Array c.in_ok-keys.keys.sort entries)) (rule_sort_at ps e)
    (goes_on (rule_sort_at ps x) c.in_ok-keys.keys.sort (λ keys. go_on (rule_sort_at ps y) (λ entries. shallow e (Array keys entries))) (rule_sort_at ps e)
    (array_read ps e (sym c.is_symbol.ensures ∙ c.if-is_symbol.false) h x y (sym c.len-2.ensures ∙ c.if-len-ne3.false) c.item-head.ensures c.item-first.ensures c.item-second.ensures (sym c.is_word_at.ensures ∙ c.if-not-is_word_at.false)) c.in_ok-keys.ensures.read) c.in_err-entries.ensures.read)

pub returns-clause-read : goal.returns-clause-read
returns-clause-read g t c =
    let ps = c.args.names.now in
    let e = g.E.Expr.tree c.args.e.now in
    let h = g.E.Expr.tree c.item-head.result.now in
    let x = g.E.Expr.tree c.item-first.result.now in
    let y = g.E.Expr.tree c.item-second.result.now in
    subst (λ (r : Read Sort). Answers (only_sort c.array_sort.result) r)
    (sym (goes_on (rule_sort_at ps y) c.in_ok-entries.entries.sort (λ entries. shallow e (Array c.in_ok-keys.keys.sort entries)) (rule_sort_at ps e)
    (goes_on (rule_sort_at ps x) c.in_ok-keys.keys.sort (λ keys. go_on (rule_sort_at ps y) (λ entries. shallow e (Array keys entries))) (rule_sort_at ps e)
    (array_read ps e (sym c.is_symbol.ensures ∙ c.if-is_symbol.false) h x y (sym c.len-2.ensures ∙ c.if-len-ne3.false) c.item-head.ensures c.item-first.ensures c.item-second.ensures (sym c.is_word_at.ensures ∙ c.if-not-is_word_at.false)) c.in_ok-keys.ensures.read) c.in_ok-entries.ensures.read)) c.array_sort.ensures.read
