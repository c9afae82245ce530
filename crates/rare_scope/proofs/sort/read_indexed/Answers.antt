use Rattle.std.proofs.Common.{◌≡◌, sym, ◌∙◌, subst}
use Rattle.std.specs.Prelude.{codes}
use Rattle.rare_sort.proofs.NeedsLemmas.{and_both}
use Rattle.rare_sort.specs.declared.sort.Sort.{Sort}
use Rattle.rare_scope.specs.Answers.{Answers}
use Rattle.rare_scope.specs.Reading.{Read, is_word}
use Rattle.rare_scope.specs.inner.SortReading.{only_sort}
use Rattle.rare_scope.proofs.SortSteps.{bits_read}
use Rattle.rare_scope.proofs.sort.read_indexed.Goals as goal

pub returns-then-is_word_at-2-clause-read : goal.returns-then-is_word_at-2-clause-read
returns-then-is_word_at-2-clause-read g c =
    let s = g.T.Terms.state c.args.terms.now in
    let h = g.E.Expr.tree c.args.head.now in
    let x = g.E.Expr.tree c.args.family.now in
    let words = and_both (is_word (codes "_") h) (is_word (codes "BitVec") x) (sym c.is_word_at.ensures ∙ c.if-is_word_at.true) (sym c.is_word_at-then-is_word_at.ensures ∙ c.if-is_word_at-2.true) in
    subst (λ (r : Read Sort). Answers (only_sort c.read_bit_vectors.result) r)
    (sym (bits_read s.declared s.trees c.args.scope.now (g.E.Expr.tree c.args.e.now) h x (g.E.Expr.tree c.args.width.now) words)) c.read_bit_vectors.ensures.read
