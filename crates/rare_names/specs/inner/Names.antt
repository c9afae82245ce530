-- The names that a table holds, and that they differ.
use Rattle.std.specs.Prelude.{◌≡◌, ℕ, false, List, [], ◌∷◌, map, bytes_eq}
use Rattle.std.specs.List.{list_any}
use Rattle.rare_names.specs.declared.table.NameTable.TheInside.{Inside}

abbrev pub names_of : Inside → List (List ℕ)
names_of t = map (λ name. name.items) t.names.keys

-- no later name is equal to an earlier one
abbrev pub AllDiffer : List (List ℕ) → Type 0
AllDiffer [] = Unit {0}
AllDiffer (name ∷ later) = (list_any (λ other. bytes_eq other name) later ≡ false) × AllDiffer later
