-- Tests that tell whether two values, each with its sort, are one.
use Rattle.std.specs.Prelude.{nat_eq, Bool, true, false, ◌&&◌}
use Rattle.rare_meaning.specs.Settings.{Item}
use Rattle.rare_meaning.specs.Values.{ClosedSort, Truths, Wholes, BitVectors, Elements, Arrays, value_eq}

abbrev pub closed_sort_eq : ClosedSort → ClosedSort → Bool
closed_sort_eq Truths Truths = true
closed_sort_eq Wholes Wholes = true
closed_sort_eq (BitVectors m) (BitVectors n) = nat_eq m n
closed_sort_eq (Elements s) (Elements t) = nat_eq s t
closed_sort_eq (Arrays k e) (Arrays l f) = closed_sort_eq k l && closed_sort_eq e f
closed_sort_eq _ _ = false

abbrev pub item_eq : Item → Item → Bool
item_eq i j = closed_sort_eq i.sort j.sort && value_eq i.value j.value
