use Rattle.std.proofs.Common.{◌≡◌, ◌++◌, ◌∙◌, List, ℕ, ap}
use Rattle.std.specs.Prelude.{codes}
use Rattle.rare_sort.specs.Ids.{tree_at}
use Rattle.rare_sort.specs.Trees.{indices_of}
use Rattle.rare_term_printing.specs.OperatorTexts.{index_texts, word_text}
use Rattle.rare_term_printing.specs.inner.Writing.{indices_end}
use Rattle.rare_term_printing.proofs.Texts.{indexed_text, ok_both, err_both, err_first}
use Rattle.rare_term_printing.proofs.operator.write_word.Goals as goal

pub returns-in_err-write_led-clause-err : goal.returns-in_err-write_led-clause-err
returns-in_err-write_led-clause-err g c =
    let held = c.args.scope.now in
    let h = c.args.head in
    let ix = indices_of (tree_at (g.T.Terms.state c.args.terms.now).trees c.args.id.0) in
    let same : (codes "(_ " ++ c.indexed_word.result.now) ++ indices_end held ix ≡ word_text h (index_texts held ix) =
    ap (λ (w : List ℕ). (codes "(_ " ++ w) ++ indices_end held ix) c.indexed_word.ensures ∙ indexed_text held h ix (λ z. c.if-index_count-eq0.false (c.index_count.ensures ∙ z)) in
    err_first c.from_residual.result c.args.out.now (codes "(_ " ++ c.indexed_word.result.now) (indices_end held ix) (word_text h (index_texts held ix)) c.write_led.new.out same c.in_err-write_led.ensures.err

pub returns-clause-ok : goal.returns-clause-ok
returns-clause-ok g c =
    let held = c.args.scope.now in
    let h = c.args.head in
    let ix = indices_of (tree_at (g.T.Terms.state c.args.terms.now).trees c.args.id.0) in
    let same : (codes "(_ " ++ c.indexed_word.result.now) ++ indices_end held ix ≡ word_text h (index_texts held ix) =
    ap (λ (w : List ℕ). (codes "(_ " ++ w) ++ indices_end held ix) c.indexed_word.ensures ∙ indexed_text held h ix (λ z. c.if-index_count-eq0.false (c.index_count.ensures ∙ z)) in
    ok_both c.write_indices.result c.args.out.now (codes "(_ " ++ c.indexed_word.result.now) (indices_end held ix) (word_text h (index_texts held ix)) c.write_led.new.out c.write_indices.new.out same c.in_ok-write_led.ensures.ok c.write_indices.ensures.ok

pub returns-clause-err : goal.returns-clause-err
returns-clause-err g c =
    let held = c.args.scope.now in
    let h = c.args.head in
    let ix = indices_of (tree_at (g.T.Terms.state c.args.terms.now).trees c.args.id.0) in
    let same : (codes "(_ " ++ c.indexed_word.result.now) ++ indices_end held ix ≡ word_text h (index_texts held ix) =
    ap (λ (w : List ℕ). (codes "(_ " ++ w) ++ indices_end held ix) c.indexed_word.ensures ∙ indexed_text held h ix (λ z. c.if-index_count-eq0.false (c.index_count.ensures ∙ z)) in
    err_both c.write_indices.result c.args.out.now (codes "(_ " ++ c.indexed_word.result.now) (indices_end held ix) (word_text h (index_texts held ix)) c.write_led.new.out c.write_indices.new.out same c.in_ok-write_led.ensures.ok c.write_indices.ensures.err
