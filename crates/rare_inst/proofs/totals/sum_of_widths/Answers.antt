use Rattle.std.proofs.Common.{◌+◌, get_or, drop, sym, ap, ◌∙◌, below_more, subst, List, Option}
use Rattle.std.proofs.lemmas.List.{drop_more, get_or_default}
use Rattle.rare_linear.specs.Linears.{LinearExpression}
use Rattle.rare_sort.specs.Ids.{tree_at, trees_at}
use Rattle.rare_sort.specs.SortOf.{sort_of}
use Rattle.rare_sort.specs.declared.tree.TermId.{TermId}
use Rattle.rare_inst.specs.InstanceLaws.{HasNormalWidth}
use Rattle.rare_inst.specs.inner.Standing.{plus_widths, term_widths}
use Rattle.rare_inst.proofs.totals.sum_of_widths.Goals as goal

pub loop-id-preserved : goal.loop-id-preserved
loop-id-preserved g c =
    let s = g.T.Terms.state c.args.terms.now in
    let ids = c.args.ids.now in
    let i = c.loop-id.id-index in
    let z : TermId = record { 0 = 0 } in
    let e = c.in_ok-sum.ensures in
    let rest = term_widths s.declared.symbols (trees_at s.trees (drop (i + 1) ids)) in
    record {
      sum =
          c.loop-id.invariant.sum
          ∙ ap (λ (is : List TermId). plus_widths c.loop-id.sum (term_widths s.declared.symbols (trees_at s.trees is))) (drop_more ids i z c.loop-id-test.true)
          ∙ ap (λ (o : Option LinearExpression). plus_widths o rest) (sym e.value);
      named = e.named c.loop-id.invariant.named;
      normal = λ k d lt.
          below_more (λ j. HasNormalWidth (sort_of s.declared.symbols (tree_at s.trees (get_or ids j d).0))) i
          (λ j h. c.loop-id.invariant.normal j d h)
          (subst (λ (x : TermId). HasNormalWidth (sort_of s.declared.symbols (tree_at s.trees x.0))) (sym (get_or_default ids i d z c.loop-id-test.true)) e.normal)
          k lt;
    }
