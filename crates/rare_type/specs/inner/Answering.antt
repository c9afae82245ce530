-- How the result of a function goes with what is typed.
use Rattle.std.specs.Borrow.{Bor}
use Rattle.std.specs.Prelude.{◌≡◌, List, map, Option, Result, Ok, Err}
use Rattle.std.specs.Option.{option_map}
use Rattle.rare_linear.specs.Linears.{LinearExpression}
use Rattle.rare_sort.specs.Sorting.{Place as SpecPlace, One, Many, Wide, Sorting}
use Rattle.rare_sort.specs.declared.sort.Sort.{Sort}
use Rattle.rare_rule.specs.RuleSorting.{sorting_of}
use Rattle.rare_type.specs.FirstCase.{Typing}
use Rattle.rare_type.specs.declared.error.TypeError.{TypeError}
use Rattle.rare_type.specs.declared.error.TypeError.TheVariants as case
use Rattle.rare_type.specs.declared.place.Place.{Place}
use Rattle.rare_type.specs.declared.place.Place.TheVariants as place
use Rattle.rare_type.specs.declared.place.Found.{Found}
use Rattle.rare_type.specs.declared.place.Args.{Args}

-- the value is that of the typing, and the case is its first; want of memory is free
abbrev pub AnswersAs : {A B : Type 0} → (A → B) → Typing B → Result A TypeError → Type 0
AnswersAs view t (Ok x) = t ≡ Ok (view x)
AnswersAs view t (Err case.Memory) = Unit {0}
AnswersAs view t (Err c) = t ≡ Err c

-- the same, of a value that is the typing's
abbrev pub Reports : {A : Type 0} → Typing A → Result A TypeError → Type 0
Reports t r = AnswersAs (λ x. x) t r

abbrev pub spec_place : Place → SpecPlace
spec_place (place.One s) = One s
spec_place (place.Many s k) = Many s k
spec_place (place.Wide k) = Wide k

abbrev pub spec_places : List Place → List SpecPlace
spec_places ps = map spec_place ps

abbrev pub sorting_in : Found → Sorting
sorting_in f = sorting_of (spec_place f.place) f.needs

-- what a node is typed as
abbrev pub Finds : Typing Sorting → Result Found TypeError → Type 0
Finds t r = AnswersAs sorting_in t r

-- the places of arguments, and what these ask for
abbrev pub args_in : Args → List SpecPlace × List LinearExpression
args_in a = (spec_places a.places, a.needs)

-- the sort that may be lent
abbrev pub sort_behind : Option (Bor Sort) → Option Sort
sort_behind o = option_map (λ s. s.now) o
