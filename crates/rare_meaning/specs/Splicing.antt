-- The arguments of an operator: lists are spliced in among them, and an operator with the attribute :left-assoc, :right-assoc,
-- :chainable or :pairwise takes any number of them (SMT-LIB 2.6, section on theory declarations). To read `bvadd`, `bvmul`, `bvand`,
-- `bvor`, `bvxor` and `concat` with more than two, and the ten operators over lists with one or none, is this project's own.
use Rattle.std.specs.Prelude.{ℕ, zero, suc, Bool, true, false, not, ◌&&◌, ◌||◌, List, [], ◌∷◌, map, flat_map, fold}
use Rattle.rare_meaning.specs.Values.{Value, ClosedSort, Truths, value_eq}
use Rattle.rare_meaning.specs.Settings.{Item, Group, item, group_of, nothing}

abbrev pub first_element : List Group → ClosedSort
first_element [] = Truths
first_element (g ∷ gs) = g.element

-- the items of all arguments in order
abbrev pub joined : List Group → Group
joined gs = group_of (first_element gs) (flat_map (λ g. g.items) gs)

abbrev pub values : List Item → List Value
values is = map (λ i. i.value) is

-- argument k, counted from 0
abbrev pub arg : ℕ → List Item → Item
arg k [] = nothing
arg zero (x ∷ xs) = x
arg (suc k) (x ∷ xs) = arg k xs

abbrev pub val : ℕ → List Item → Value
val k is = (arg k is).value

-- the sort of the first argument, or where there is none, of the elements of the list
abbrev pub lead_sort : ClosedSort → List Item → ClosedSort
lead_sort s [] = s
lead_sort s (x ∷ xs) = x.sort

abbrev pub lead : Group → ClosedSort
lead g = lead_sort g.element g.items

-- from the left: without arguments it is `none`, and one argument stands for itself
abbrev pub from_left : (Value → Value → Value) → Value → List Value → Value
from_left op none [] = none
from_left op none (x ∷ xs) = fold op x xs

-- the same from the right
abbrev pub from_right : (Value → Value → Value) → Value → List Value → Value
from_right op none [] = none
from_right op none (x ∷ []) = x
from_right op none (x ∷ y ∷ ys) = op x (from_right op none (y ∷ ys))

-- all neighbours pass the test
abbrev pub each_pair : (Value → Value → Bool) → List Value → Bool
each_pair test [] = true
each_pair test (x ∷ []) = true
each_pair test (x ∷ y ∷ ys) = test x y && each_pair test (y ∷ ys)

abbrev pub equals_any : Value → List Value → Bool
equals_any x [] = false
equals_any x (y ∷ ys) = value_eq x y || equals_any x ys

-- no two are equal
abbrev pub all_differ : List Value → Bool
all_differ [] = true
all_differ (x ∷ xs) = not (equals_any x xs) && all_differ xs

-- an operator over a list of any length, with its neutral value and the sort that it gives
abbrev pub gathered : ClosedSort → (Value → Value → Value) → Value → List Item → Item
gathered s op none [] = item s none
gathered s op none (x ∷ []) = x
gathered s op none (x ∷ y ∷ ys) = item s (from_left op none (values (x ∷ y ∷ ys)))
