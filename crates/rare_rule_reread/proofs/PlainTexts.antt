-- The texts of the sorts that are words.
use Rattle.std.proofs.Common.{◌≡◌, ℕ, List}
use Rattle.std.specs.Prelude.{codes}
use Rattle.rare_sort.specs.declared.sort.Sort.{Bool, Int}
use Rattle.rare_sort.specs.declared.sort.Sort.TheOpen as shape
use Rattle.rare_sort.specs.declared.sort.Sort.TheViews.{roll-Sort}
use Rattle.rare_sort.specs.declared.sort.Sort.TheFolds.{fold-roll-Sort}
use denote.Hole.Carrier
use Rattle.rare_rule.specs.declared.param.Param.{Param}
use Rattle.rare_rule_printing.specs.SortPrinting.{sort_text_step, rule_sort_text}

module _ (ps : List Param) where
  pub bool_text : rule_sort_text ps Bool ≡ codes "Bool"
  unfolding roll-Sort Carrier.roll
  bool_text = fold-roll-Sort (List ℕ) (sort_text_step ps) shape.Bool

  pub int_text : rule_sort_text ps Int ≡ codes "Int"
  unfolding roll-Sort Carrier.roll
  int_text = fold-roll-Sort (List ℕ) (sort_text_step ps) shape.Int
