use Rattle.std.proofs.Common.{◌≡◌, ℕ, ◌<◌, drop, get_or, pos, Some}
use Rattle.std.specs.Prelude.{IfSome}
use Rattle.rare_linear.specs.Linears.{NamesBelow, number}
use Rattle.rare_sort.specs.DeclaredSorts.{widths}
use Rattle.rare_sort.specs.Ids.{tree_at, trees_at}
use Rattle.rare_sort.specs.SortOf.{sort_of}
use Rattle.rare_sort.specs.declared.tree.TermId.{TermId}
use Rattle.rare_inst.specs.InstanceLaws.{HasNormalWidth}
use Rattle.rare_inst.specs.inner.Standing.{plus_widths, term_widths}
use Rattle.rare_inst.proofs.totals.sum_of_widths.Given as goal

abbrev pub invariant-loop-id : goal.invariant-loop-id
invariant-loop-id g l =
    let s = g.T.Terms.state l.terms in
    record {
      sum :
          plus_widths (Some (number (pos 0))) (term_widths s.declared.symbols (trees_at s.trees l.ids))
          ≡ plus_widths l.sum (term_widths s.declared.symbols (trees_at s.trees (drop l.id-index l.ids)));
      named : IfSome l.sum (λ x. NamesBelow (widths s.declared) x.parts);
      normal : (k : ℕ) (d : TermId) → k < l.id-index → HasNormalWidth (sort_of s.declared.symbols (tree_at s.trees (get_or l.ids k d).0));
    }
