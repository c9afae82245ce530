use Rattle.std.proofs.Common.{◌≡◌, sym, ◌∙◌, subst, Result, Ok}
use Rattle.std.proofs.lemmas.Result.{err_from_is_err_and}
use Rattle.rare_base.specs.declared.answers.Fault.{Fault}
use Rattle.rare_sort.specs.declared.sort.Sort.{Sort}
use Rattle.rare_sort.specs.declared.sort.Sort.TheViews.{Array}
use Rattle.rare_scope.specs.Answers.{Answers, Fails}
use Rattle.rare_scope.specs.Names.{names_of}
use Rattle.rare_scope.specs.Reading.{Read, go_on}
use Rattle.rare_scope.specs.SortText.{shallow, sort_at}
use Rattle.rare_scope.specs.inner.SortReading.{only_sort}
use Rattle.rare_scope.proofs.InOrder.{fails_on, goes_on}
use Rattle.rare_scope.proofs.SortSteps.{symbol_read, other_read, indexed_read, array_read}
use Rattle.rare_scope.proofs.sort.+read.Goals as goal

pub returns-then-is_symbol-clause-read : goal.returns-then-is_symbol-clause-read
returns-then-is_symbol-clause-read g t c =
    let s = g.T.Terms.state c.args.terms.now in
    let names = names_of s.trees c.args.scope.now in
    let e = g.E.Expr.tree c.args.e.now in
    subst (λ (r : Read Sort). Answers (only_sort c.read_symbol.result) r) (sym (symbol_read s.declared names e (sym c.is_symbol.ensures ∙ c.if-is_symbol.true))) c.read_symbol.ensures.read

pub returns-then-len-ne3-clause-read : goal.returns-then-len-ne3-clause-read
returns-then-len-ne3-clause-read g t c =
    let s = g.T.Terms.state c.args.terms.now in
    let names = names_of s.trees c.args.scope.now in
    let e = g.E.Expr.tree c.args.e.now in
    subst (λ (f : Fault). Fails f (sort_at s.declared names e)) (sym c.refusal_at.ensures)
    (other_read s.declared names e (sym c.is_symbol.ensures ∙ c.if-is_symbol.false) (λ three. c.if-len-ne3.true (c.len.ensures ∙ three)))

pub returns-then-not-is_word_at-clause-read : goal.returns-then-not-is_word_at-clause-read
returns-then-not-is_word_at-clause-read g t c =
    let s = g.T.Terms.state c.args.terms.now in
    let names = names_of s.trees c.args.scope.now in
    let e = g.E.Expr.tree c.args.e.now in
    let h = g.E.Expr.tree c.item-head.result.now in
    let x = g.E.Expr.tree c.item-first.result.now in
    let y = g.E.Expr.tree c.item-second.result.now in
    subst (λ (r : Read Sort). Answers (only_sort c.read_indexed.result) r)
    (sym (indexed_read s.declared names e h x y (sym c.is_symbol.ensures ∙ c.if-is_symbol.false) (sym c.len.ensures ∙ c.if-len-ne3.false) c.item-head.ensures c.item-first.ensures c.item-second.ensures (sym c.is_word_at.ensures ∙ c.if-not-is_word_at.true))) c.read_indexed.ensures.read

pub returns-in_err-keys-clause-read : goal.returns-in_err-keys-clause-read
returns-in_err-keys-clause-read g t c =
    let s = g.T.Terms.state c.args.terms.now in
    let names = names_of s.trees c.args.scope.now in
    let e = g.E.Expr.tree c.args.e.now in
    let h = g.E.Expr.tree c.item-head.result.now in
    let x = g.E.Expr.tree c.item-first.result.now in
    let y = g.E.Expr.tree c.item-second.result.now in
    let p = err_from_is_err_and c.from_residual.result c.from_residual.ensures.1 in
    rw (p.1, p.2) (fails_on c.in_err-keys.field-0.0 (sort_at s.declared names x) (λ keys. go_on (sort_at s.declared names y) (λ entries. shallow e (Array keys entries))) (sort_at s.declared names e)
    (array_read s.declared names e h x y (sym c.is_symbol.ensures ∙ c.if-is_symbol.false) (sym c.len.ensures ∙ c.if-len-ne3.false) c.item-head.ensures c.item-first.ensures c.item-second.ensures (sym c.is_word_at.ensures ∙ c.if-not-is_word_at.false)) c.in_err-keys.ensures.read)

pub returns-in_err-entries-clause-read : goal.returns-in_err-entries-clause-read
returns-in_err-entries-clause-read g t c =
    let s = g.T.Terms.state c.args.terms.now in
    let names = names_of s.trees c.args.scope.now in
    let e = g.E.Expr.tree c.args.e.now in
    let h = g.E.Expr.tree c.item-head.result.now in
    let x = g.E.Expr.tree c.item-first.result.now in
    let y = g.E.Expr.tree c.item-second.result.now in
    let p = err_from_is_err_and c.from_residual-in_err-entries.result c.from_residual-in_err-entries.ensures.1 in
    rw (p.1, p.2) (fails_on c.in_err-entries.field-0.0 (sort_at s.declared names y) (λ entries. shallow e (Array c.in_ok-keys.keys.sort entries)) (sort_at s.declared names e)
    (goes_on (sort_at s.declared names x) c.in_ok-keys.keys.sort (λ keys. go_on (sort_at s.declared names y) (λ entries. shallow e (Array keys entries))) (sort_at s.declared names e)
    (array_read s.declared names e h x y (sym c.is_symbol.ensures ∙ c.if-is_symbol.false) (sym c.len.ensures ∙ c.if-len-ne3.false) c.item-head.ensures c.item-first.ensures c.item-second.ensures (sym c.is_word_at.ensures ∙ c.if-not-is_word_at.false)) c.in_ok-keys.ensures.read) c.in_err-entries.ensures.read)

pub returns-clause-read : goal.returns-clause-read
returns-clause-read g t c =
    let s = g.T.Terms.state c.args.terms.now in
    let names = names_of s.trees c.args.scope.now in
    let e = g.E.Expr.tree c.args.e.now in
    let h = g.E.Expr.tree c.item-head.result.now in
    let x = g.E.Expr.tree c.item-first.result.now in
    let y = g.E.Expr.tree c.item-second.result.now in
    subst (λ (r : Read Sort). Answers (only_sort c.array_sort.result) r)
    (sym (goes_on (sort_at s.declared names y) c.in_ok-entries.entries.sort (λ entries. shallow e (Array c.in_ok-keys.keys.sort entries)) (sort_at s.declared names e)
    (goes_on (sort_at s.declared names x) c.in_ok-keys.keys.sort (λ keys. go_on (sort_at s.declared names y) (λ entries. shallow e (Array keys entries))) (sort_at s.declared names e)
    (array_read s.declared names e h x y (sym c.is_symbol.ensures ∙ c.if-is_symbol.false) (sym c.len.ensures ∙ c.if-len-ne3.false) c.item-head.ensures c.item-first.ensures c.item-second.ensures (sym c.is_word_at.ensures ∙ c.if-not-is_word_at.false)) c.in_ok-keys.ensures.read) c.in_ok-entries.ensures.read)) c.array_sort.ensures.read
