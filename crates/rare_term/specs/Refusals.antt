-- Which terms are refused, and why: the first that applies, in the order of `TermError`.
use Rattle.std.specs.Prelude.{◌≡◌, ℕ, ◌-◌, ◌^◌, ℤ, pos, int_lt, nat_lt, Bool, true, false, ◌&&◌, ◌||◌, List, [], ◌∷◌, length, map, Option, Some, None, Result, Ok, Err, if◌then◌else◌}
use Rattle.rare_linear.specs.Linears.{LinearExpression}
use Rattle.rare_sort.specs.SortRules.{number_in}
use Rattle.rare_sort.specs.SortOf.{sort_of}
use Rattle.rare_sort.specs.Rulings.{ruling}
use Rattle.rare_sort.specs.Trees.{node, nesting, size}
use Rattle.rare_sort.specs.declared.declarations.Declarations.{Declarations}
use Rattle.rare_sort.specs.declared.head.Head.{Head}
use Rattle.rare_sort.specs.declared.head.Head.TheVariants as head
use Rattle.rare_sort.specs.declared.ruling.Ruling.{Ruling}
use Rattle.rare_sort.specs.declared.ruling.Ruling.TheVariants.{Ill, Wide, Has}
use Rattle.rare_sort.specs.declared.tree.Tree.{Tree}
use Rattle.rare_term.specs.Limits.{MOST_ARGS, MOST_NESTED, MOST_NODES}
use Rattle.rare_term.specs.declared.terms.TermError.{TermError}
use Rattle.rare_term.specs.declared.terms.TermError.TheVariants.{TooManyArgs, IllSorted, TooDeep, TooLarge, Memory}

abbrev pub is_ill : Ruling → Bool
is_ill Ill = true
is_ill Wide = false
is_ill (Has s) = false

abbrev pub is_wide : Ruling → Bool
is_wide Ill = false
is_wide Wide = true
is_wide (Has s) = false

-- a negative value of a width above 128; since expressions are within i128, no number value is above 2^128 - 1
abbrev pub is_below_wide : Option ℤ → Option ℤ → Bool
is_below_wide (Some v) (Some w) = int_lt (pos 128) w && int_lt v (pos 0)
is_below_wide v w = false

-- a numeral above 2^127 - 1, or a literal of number value and number width above 128 whose value is not from 0 to 2^128 - 1
abbrev pub has_large_number : Head → List LinearExpression → Bool
has_large_number (head.Numeral n) ix = nat_lt (2 ^ 127 - 1) n
has_large_number head.Literal (v ∷ w ∷ []) = is_below_wide (number_in v) (number_in w)
has_large_number h ix = false

-- the first refusal that applies, by the ruling, the number of arguments, the nesting and the nodes
abbrev pub refusal_by : Ruling → Bool → ℕ → ℕ → ℕ → Option TermError
refusal_by r large_number args nesting nodes =
    if nat_lt MOST_ARGS args then Some TooManyArgs
    else if is_ill r then Some IllSorted
    else if nat_lt MOST_NESTED nesting then Some TooDeep
    else if nat_lt MOST_NODES nodes || (is_wide r || large_number) then Some TooLarge
    else None

-- the first refusal of an application
unfoldable pub refusal : Declarations → Head → List LinearExpression → List Tree → Option TermError
refusal d h ix ts =
    refusal_by (ruling d h ix (map (sort_of d.symbols) ts)) (has_large_number h ix) (length ts) (nesting (node h ix ts)) (size (node h ix ts))

abbrev pub IsRefusal : Option TermError → TermError → Type 0
IsRefusal r Memory = Unit {0}
IsRefusal r TooManyArgs = r ≡ Some TooManyArgs
IsRefusal r IllSorted = r ≡ Some IllSorted
IsRefusal r TooDeep = r ≡ Some TooDeep
IsRefusal r TooLarge = r ≡ Some TooLarge

-- the answer is that refusal, or none where there is none; want of memory is free
abbrev pub RefusesTerm : {X : Type 0} → Option TermError → Result X TermError → Type 0
RefusesTerm r (Ok id) = r ≡ None
RefusesTerm r (Err e) = IsRefusal r e
