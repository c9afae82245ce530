-- How far the arguments of an application are evaluated.
use Rattle.std.specs.Prelude.{◌≡◌, ◌≤◌, ℤ, Bool, true, false, not, ◌||◌, int_lt, int_le, List, [], ◌∷◌, ◌++◌, length, Option, Some, None, ⊤}
use Rattle.rare_sort.specs.declared.head.Head.{Head}
use Rattle.rare_sort.specs.declared.head.Head.TheVariants as head
use Rattle.rare_meaning.specs.Values.{Value, value_eq, truth_of, whole_of, width_of}
use Rattle.rare_meaning.specs.Settings.{Item}
use Rattle.rare_meaning.specs.Splicing.{values, each_pair, all_differ}
use Rattle.rare_meaning.specs.Operators.{int_ge, int_gt}
use Rattle.rare_eval.specs.Evaluation.{evaluated}
use Rattle.rare_eval.specs.Limited.{IsLimited}
use Rattle.rare_eval.specs.ValueItems.{value_item}
use Rattle.rare_eval.specs.declared.progress.Progress.{Progress}
use Rattle.rare_eval.specs.declared.progress.Progress.TheVariants as progress
use Rattle.rare_eval.specs.inner.Cut.{IsCut}
use Rattle.rare_eval.specs.inner.Groups.{is_constant, is_on_two, is_single}
use Rattle.rare_eval.specs.inner.Suits.{AreMet, IsWordFor}

-- operators that look at neighbours
abbrev pub is_chain : Head → Bool
is_chain head.Implies = true
is_chain head.Equal = true
is_chain head.Distinct = true
is_chain head.Le = true
is_chain head.Lt = true
is_chain head.Ge = true
is_chain head.Gt = true
is_chain h = false

-- neither a chain nor `ite`
abbrev pub is_other : Head → Bool
is_other head.Ite = false
is_other h = not (is_chain h)

-- what is asked of neighbours
abbrev pub neighbour_test : Head → Value → Value → Bool
neighbour_test head.Implies a b = truth_of a
neighbour_test head.Equal a b = value_eq a b
neighbour_test head.Distinct a b = not (value_eq a b)
neighbour_test head.Le a b = int_le (whole_of a) (whole_of b)
neighbour_test head.Lt a b = int_lt (whole_of a) (whole_of b)
neighbour_test head.Ge a b = int_ge (whole_of a) (whole_of b)
neighbour_test head.Gt a b = int_gt (whole_of a) (whole_of b)
neighbour_test h a b = false

-- what is asked of an argument behind two others and its neighbour
abbrev pub link_test : Head → Value → Value → Bool
link_test head.Distinct a b = false
link_test h a b = neighbour_test h a b

-- what holds of all arguments so far
abbrev pub chained : Head → List Value → Bool
chained head.Distinct vs = all_differ vs
chained h vs = each_pair (neighbour_test h) vs

-- of one argument its own value, of more the value of the operator on these
abbrev pub IsLed : Head → List ℤ → List Item → Item → Type 0
IsLed h ns [] x = ⊥
IsLed h ns (i ∷ []) x = i ≡ x
IsLed h ns (i ∷ j ∷ is) x = (is_on_two h ≡ true) × (evaluated h (Some ns) (Some (i ∷ j ∷ is)) ≡ Some x)

-- this is what is known after these arguments
abbrev pub IsAfter : Head → List ℤ → List Item → Progress → Type 0
IsAfter h ns is progress.Start = is ≡ []
IsAfter h ns is (progress.One a) = IsLed h ns is (value_item a)
IsAfter h ns is (progress.Two a b) = (h ≡ head.Ite) × (is ≡ value_item a ∷ value_item b ∷ [])
IsAfter h ns is (progress.Three a b c) = (h ≡ head.Ite) × (is ≡ value_item a ∷ value_item b ∷ value_item c ∷ [])
IsAfter h ns is (progress.Chain holds last) =
    (is_chain h ≡ true) × (js : List Item) × (is ≡ js ++ value_item last ∷ []) × (1 ≤ length js) × (holds ≡ chained h (values is))

-- the same where there is an answer; where there is none, the application has no value
abbrev pub Continues : Head → List ℤ → List Item → Option Progress → Type 0
Continues h ns is (Some p) = IsAfter h ns is p
Continues h ns is None = IsCut h ns is

-- what all arguments of a well-sorted application are, with the numbers of its indices
abbrev pub IsFull : Head → (first second : ℤ) → List Item → Type 0
IsFull h m n [] = is_constant h ≡ true
IsFull h m n (i ∷ []) = (is_single h ≡ true) × IsWordFor h i × AreMet h m n (width_of i.sort)
IsFull h m n (i ∷ j ∷ []) = h ≡ head.Ite → ⊥
IsFull h m n (i ∷ j ∷ k ∷ is) = Unit {0}

-- what a chain comes to; the last argument of `=>` is its conclusion
abbrev pub chain_truth : Head → Bool → Value → Bool
chain_truth head.Implies holds last = not holds || truth_of last
chain_truth h holds last = holds

abbrev pub AreLimited : Progress → Type 0
AreLimited progress.Start = ⊤
AreLimited (progress.One a) = IsLimited a
AreLimited (progress.Two a b) = IsLimited a × IsLimited b
AreLimited (progress.Three a b c) = IsLimited a × IsLimited b × IsLimited c
AreLimited (progress.Chain holds last) = IsLimited last
