use Rattle.std.proofs.Common.{◌≡◌, ap, sym, ◌∙◌, Some, subst}
use Rattle.rare_sort.specs.SortRules.{array_parts}
use Rattle.rare_sort.specs.DeclaredSorts.{is_sort}
use Rattle.rare_sort.proofs.NeedsLemmas.{array_parts-Array, parts_checked}
use Rattle.rare_sort.proofs.arrays.parts_of_array.Goals as goal

pub returns-in-Array-clause-parts : goal.returns-in-Array-clause-parts
returns-in-Array-clause-parts c =
    (λ i. Some (c.get.ensures i, c.get-in-Array.ensures i)) ∙ sym (array_parts-Array _ _) ∙ sym (ap array_parts c.in-Array.is)

pub returns-in-Array-clause-entries : goal.returns-in-Array-clause-entries
returns-in-Array-clause-entries c =
    ap (is_sort c.args.declared.now) c.get-in-Array.ensures ∙ (parts_checked c.args.declared.now _ _ (sym (ap (is_sort c.args.declared.now) c.in-Array.is) ∙ c.requires)).1
