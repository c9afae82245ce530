use Rattle.std.proofs.Common.{◌≡◌, ◌<◌, ◌≤◌, ℕ, length, subst, arith}
use Rattle.std.specs.Prelude.{codes}
use Rattle.std.proofs.lemmas.Option.{get_or_from_slice_get}
use Rattle.rare_sexpr.specs.Written.{IsCut}
use Rattle.rare_sort.specs.DeclaredSorts.{widths}
use Rattle.rare_sort.specs.Ids.{tree_at}
use Rattle.rare_sort.specs.Trees.{indices_of}
use Rattle.rare_scope.specs.Names.{width_names}
use Rattle.rare_scope.proofs.Cutting.{in_any, on_err}
use Rattle.rare_term_printing.specs.inner.Writing.{spaced_index, indices_end}
use Rattle.rare_term_printing.proofs.Texts.{index_named, item_more, item_cut, all_written}
use Rattle.rare_term_printing.proofs.operator.write_indices.Goals as goal

pub write_index-requires : goal.write_index-requires
write_index-requires g c =
    let s = g.T.Terms.state c.args.terms.now in
    let kept = (g.met.T.Terms.lawful c.args.terms.now).terms c.args.id.0 c.requires.id in
    let ix = indices_of (tree_at s.trees c.args.id.0) in
    let lt : c.loop-k.k < length ix = subst (λ (n : ℕ). c.loop-k.k < n) c.index_count-k-end.ensures c.loop-k-test.true in
    index_named (widths s.declared) (length (width_names c.args.scope.now)) ix _ c.index.result.now c.requires.widths kept.names (omega (arith, lt)) c.index.ensures

pub returns-in_err-write_index-clause-err : goal.returns-in_err-write_index-clause-err
returns-in_err-write_index-clause-err g c =
    let ix = indices_of (tree_at (g.T.Terms.state c.args.terms.now).trees c.args.id.0) in
    let new = c.write_index.new.out in
    in_any c.from_residual.result (IsCut c.args.out.now (indices_end c.args.scope.now ix) new)
    (item_cut (spaced_index c.args.scope.now) ix c.loop-k.k c.index.result.now c.args.out.now c.loop-k.out (codes ")") new (subst (λ (n : ℕ). c.loop-k.k < n) c.index_count-k-end.ensures c.loop-k-test.true)
    (get_or_from_slice_get ix c.loop-k.k c.index.result.now c.index.result.now c.index.ensures) c.loop-k.invariant c.in_err-write_index.ensures.err)

pub loop-k-preserved : goal.loop-k-preserved
loop-k-preserved g c =
    let ix = indices_of (tree_at (g.T.Terms.state c.args.terms.now).trees c.args.id.0) in
    item_more (spaced_index c.args.scope.now) ix c.loop-k.k c.index.result.now c.args.out.now c.loop-k.out c.write_index.new.out (subst (λ (n : ℕ). c.loop-k.k < n) c.index_count-k-end.ensures c.loop-k-test.true)
    (get_or_from_slice_get ix c.loop-k.k c.index.result.now c.index.result.now c.index.ensures) c.loop-k.invariant c.in_ok-write_index.ensures.ok

pub returns-clause-err : goal.returns-clause-err
returns-clause-err g c =
    let ix = indices_of (tree_at (g.T.Terms.state c.args.terms.now).trees c.args.id.0) in
    let new = c.push.new.self in
    on_err c.push.result (new ≡ c.loop-k.out) (IsCut c.args.out.now (indices_end c.args.scope.now ix) new) c.push.ensures.err
    (λ h. all_written (spaced_index c.args.scope.now) ix c.loop-k.k c.args.out.now c.loop-k.out (codes ")") new (subst (λ (n : ℕ). n ≤ c.loop-k.k) c.index_count-k-end.ensures c.loop-k-test.false) c.loop-k.invariant h)
