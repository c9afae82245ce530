-- What the limits leave of a result.
use Rattle.std.specs.Prelude.{◌≡◌, ℤ, List, ◌++◌, Option, Some, None, if◌then◌else◌}
use Rattle.rare_sort.specs.declared.head.Head.{Head}
use Rattle.rare_meaning.specs.Settings.{Item}
use Rattle.rare_eval.specs.Evaluation.{is_in_limits, evaluated}

-- the item, where it is within the limits
abbrev pub limited : Item → Option Item
limited i = if is_in_limits i.value then (Some i) else None

-- whatever arguments follow, the application has no value
abbrev pub IsCut : Head → List ℤ → List Item → Type 0
IsCut h ns is = (rest : List Item) → evaluated h (Some ns) (Some (is ++ rest)) ≡ None
