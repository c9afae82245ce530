-- What computes on the sort of arrays between two sort names.
use Rattle.std.proofs.Common.{◌≡◌, ℕ, ◌+◌, List, [], refl, ◌∙◌}
use Rattle.std.specs.Prelude.{max}
use Rattle.rare_sort.specs.DeclaredSorts.{sort_nesting, sort_nesting_step}
use Rattle.rare_sort.specs.SortRules.{boxed_needs}
use Rattle.rare_sort.specs.declared.sort.Sort.{Sort, Named}
use Rattle.rare_sort.specs.declared.sort.Sort as sort
use Rattle.rare_sort.specs.declared.sort.Sort.TheVariants as variant
use Rattle.rare_sort.specs.declared.sort.Sort.TheOpen as shape
use Rattle.rare_sort.specs.declared.sort.Sort.TheBlock.{hidden-the_row-Sort-0}
use Rattle.rare_sort.specs.declared.sort.Sort.TheFolds.{fold-roll-Sort}
use denote.Hole.Carrier
use Rattle.rare_rule.specs.Determination.{boxed_mentions, sort_mentions}
use Rattle.rare_rule.specs.ParamForms.{is_sort_over, is_boxed_over}
use Rattle.rare_rule.specs.declared.param.Param.{Param}
use Rattle.rare_rule.proofs.Walks.{nesting-Named}

pub over-hidden : (ps : List Param) (s : Sort) → is_boxed_over ps (hidden-the_row-Sort-0 s) ≡ is_sort_over ps s
unfolding hidden-the_row-Sort-0 denote.Hole.Carrier.hidden
over-hidden ps s = refl

pub mentions-hidden : (ps : List Param) (s : Sort) → boxed_mentions ps (hidden-the_row-Sort-0 s) ≡ sort_mentions ps s
unfolding hidden-the_row-Sort-0 denote.Hole.Carrier.hidden
mentions-hidden ps s = refl

pub needs-hidden : (k : ℕ) → boxed_needs (hidden-the_row-Sort-0 (Named k)) ≡ []
unfolding hidden-the_row-Sort-0 denote.Hole.Carrier.hidden
needs-hidden k = refl

pub nesting-Array : sort_nesting (variant.Array (Named 0) (Named 1)) ≡ 2
unfolding sort.roll-Sort denote.Hole.Carrier.roll
nesting-Array =
    fold-roll-Sort ℕ sort_nesting_step (shape.Array (Named 0) (Named 1)) ∙ (λ i. 1 + max (nesting-Named 0 i) (nesting-Named 1 i))
