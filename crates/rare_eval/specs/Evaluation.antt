-- The value of a term that has no names: what the operators make of the values of all its parts (SMT-LIB 2.6, section on the meaning
-- of terms), each within limits that are this project's own.
use Rattle.std.specs.Prelude.{ℕ, zero, ◌-◌, ◌^◌, ℤ, pos, unsigned_abs, Bool, true, false, not, ◌&&◌, nat_le, List, [], ◌∷◌, map, Option, Some, None, if◌then◌else◌}
use Rattle.std.specs.List.{list_any}
use Rattle.rare_sort.specs.SortRules.{number_in}
use Rattle.rare_sort.specs.Sorting.{all_of}
use Rattle.rare_sort.specs.declared.head.Head.{Head}
use Rattle.rare_sort.specs.declared.head.Head.TheVariants as head
use Rattle.rare_sort.specs.declared.tree.Tree.{Tree, Tree-F, fold-Tree}
use Rattle.rare_meaning.specs.Values.{Value, Truth, Whole, Bits, Truths, whole_of}
use Rattle.rare_meaning.specs.Settings.{Item, Setting, group_of}
use Rattle.rare_meaning.specs.FiniteMaps.{setting_of}
use Rattle.rare_meaning.specs.Splicing.{val}
use Rattle.rare_meaning.specs.Meaning.{applied}
use Rattle.rare_wide.specs.Widths.{most_bits}

-- ---- limits

-- the greatest magnitude of a whole number
abbrev pub GREATEST_WHOLE : ℕ
GREATEST_WHOLE = 2 ^ 127 - 1

-- whether it is a truth value, a whole number or a bit vector, and within the limits
abbrev pub is_in_limits : Value → Bool
is_in_limits (Truth b) = true
is_in_limits (Whole z) = nat_le (unsigned_abs z) GREATEST_WHOLE
is_in_limits (Bits w n) = nat_le 1 w && nat_le w most_bits
is_in_limits _ = false

abbrev pub all_in_limits : List Item → Bool
all_in_limits [] = true
all_in_limits (i ∷ is) = is_in_limits i.value && all_in_limits is

-- ---- one application

-- nothing is declared
abbrev pub bare_setting : Setting
bare_setting = setting_of [] (λ k. pos 1) (record { symbols = []; quotients = []; remainders = [] })

-- what an operator makes of its arguments, by its indices
abbrev pub operator_item : Head → List ℤ → List Item → Item
operator_item h ns is = applied bare_setting h ns (group_of Truths is)

abbrev pub is_zero : ℤ → Bool
is_zero (pos zero) = true
is_zero _ = false

-- whether an argument behind the first is 0
abbrev pub has_zero_divisor : List Item → Bool
has_zero_divisor [] = false
has_zero_divisor (i ∷ is) = list_any (λ j. is_zero (whole_of j.value)) is

-- whether the meaning would depend on more than the arguments: a symbol, a parameter, division or remainder of Ints by 0; arrays
-- have no value here
abbrev pub is_open : Head → List Item → Bool
is_open (head.Free k) is = true
is_open (head.Param k) is = true
is_open head.Hole is = true
is_open head.Select is = true
is_open head.Store is = true
is_open head.Div is = has_zero_divisor is
is_open head.Mod is = is_zero (whole_of (val 1 is))
is_open h is = false

abbrev pub is_left_associative : Head → Bool
is_left_associative head.Xor = true
is_left_associative head.Minus = true
is_left_associative head.Add = true
is_left_associative head.Mul = true
is_left_associative head.Div = true
is_left_associative h = false

-- the first argument, the first two, and so on
abbrev pub prefixes : List Item → List (List Item)
prefixes [] = []
prefixes (i ∷ is) = (i ∷ []) ∷ map (λ js. i ∷ js) (prefixes is)

-- the lists of arguments whose results are parts: under a left-associative operator those of each partial result
abbrev pub steps_of : Head → List Item → List (List Item)
steps_of h is = if is_left_associative h then (prefixes is) else (is ∷ [])

abbrev pub has_value : Head → List ℤ → List Item → Bool
has_value h ns is = not (is_open h is) && all_in_limits (map (operator_item h ns) (steps_of h is))

-- by the numbers of its indices and the values of its arguments, where each has one
abbrev pub evaluated : Head → Option (List ℤ) → Option (List Item) → Option Item
evaluated h (Some ns) (Some is) = if has_value h ns is then (Some (operator_item h ns is)) else None
evaluated h ns is = None

-- ---- terms

-- an index that has the name of a width has no number
abbrev pub evaluation_step : Tree-F (Option Item) → Option Item
evaluation_step n = evaluated n.head (all_of (map number_in n.indices)) (all_of n.args)

-- the value of a term with its sort, or none
unfoldable pub evaluation : Tree → Option Item
evaluation = fold-Tree (Option Item) evaluation_step
