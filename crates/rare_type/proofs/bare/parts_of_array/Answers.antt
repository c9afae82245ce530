use Rattle.std.proofs.Common.{ap, sym, ◌∙◌, Some}
use Rattle.rare_sort.specs.SortRules.{array_parts}
use Rattle.rare_sort.proofs.NeedsLemmas.{array_parts-Array}
use Rattle.rare_type.proofs.bare.parts_of_array.Goals as goal

pub returns-in-Array : goal.returns-in-Array
returns-in-Array c = (λ i. Some (c.get.ensures i, c.get-in-Array.ensures i)) ∙ sym (array_parts-Array _ _) ∙ sym (ap array_parts c.in-Array.is)
