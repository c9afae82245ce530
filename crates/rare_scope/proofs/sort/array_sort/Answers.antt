use Rattle.std.proofs.Common.{◌≡◌, ◌+◌, arith, ap, ◌∙◌}
use Rattle.rare_sort.specs.declared.sort.Sort.TheViews.{Array}
use Rattle.rare_sort.specs.declared.sort.Sort.{Sort}
use Rattle.rare_scope.specs.declared.sort.NestedSort.{NestedSort}
use Rattle.rare_scope.proofs.SortSteps.{array_nested}
use Rattle.rare_scope.proofs.sort.array_sort.Goals as goal

pub returns-clause-nested : goal.returns-clause-nested
returns-clause-nested g c =
    let n : NestedSort = record { sort = Array c.in-Ok.keys c.in-Ok-new.entries; nesting = 1 + c.max-nesting.result } in
    array_nested (g.T.Terms.state c.args.terms.now).declared n c.args.keys c.args.entries c.requires.keys c.requires.entries
    (ap (λ (s : Sort). Array s c.in-Ok-new.entries) c.in-Ok.ensures ∙ ap (λ (s : Sort). Array c.args.keys.sort s) c.in-Ok-new.ensures)
    (ap (λ k. 1 + k) c.max-nesting.ensures) (omega (arith, c.if-nesting-gt-MOST_NESTED_SORTS.false))
