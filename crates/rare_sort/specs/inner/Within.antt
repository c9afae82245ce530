-- Linear expressions where they are within i128, as the code forms them.
use Rattle.std.specs.Prelude.{ℕ, pos, Bool, true, false, ◌&&◌, List, [], ◌∷◌, Option, Some, None, is_some, if◌then◌else◌}
use Rattle.std.specs.Option.{option_and_then}
use Rattle.rare_linear.specs.Linears.{LinearExpression, number, add}
use Rattle.rare_linear.specs.EntailmentTest.{is_within}
use Rattle.rare_sort.specs.DeclaredSorts.{follows, all_follow}
use Rattle.rare_sort.specs.SortRules.{less_one, width, slice_needs, slice_width, product}
use Rattle.rare_sort.specs.declared.declarations.Declarations.{Declarations}
use Rattle.rare_sort.specs.declared.sort.Sort.{Sort, BitVec}
use Rattle.rare_sort.specs.declared.ruling.Ruling.{Ruling}
use Rattle.rare_sort.specs.declared.ruling.Ruling.TheVariants.{Ill, Wide, Has}

abbrev pub within_by : Bool → LinearExpression → Option LinearExpression
within_by true e = Some e
within_by false e = None

abbrev pub within : LinearExpression → Option LinearExpression
within e = within_by (is_within e) e

-- the sum with these widths, where it and each partial sum from the left is within i128
abbrev pub sum_with : Option LinearExpression → LinearExpression → Option LinearExpression
sum_with (Some m) sum = within (add sum m)
sum_with None sum = None

abbrev pub summed : LinearExpression → List Sort → Option LinearExpression
summed sum [] = Some sum
summed sum (s ∷ ss) = option_and_then (λ next. summed next ss) (sum_with (width s) sum)

-- bit vectors of a width that was formed, unless it left i128
abbrev pub formed_width : Declarations → Option LinearExpression → Ruling
formed_width d None = Wide
formed_width d (Some w) = if follows d (less_one w) then (Has (BitVec w)) else Ill

abbrev pub where_has : Bool → Sort → Ruling
where_has true s = Has s
where_has false s = Ill

abbrev pub zero_width : LinearExpression
zero_width = number (pos 0)

-- whether all are bit vectors
abbrev pub all_words : List Sort → Bool
all_words [] = true
all_words (s ∷ ss) = is_some (width s) && all_words ss

-- the width of the only argument
abbrev pub only_width : List Sort → Option LinearExpression
only_width (s ∷ []) = width s
only_width ss = None

abbrev pub extract_of : Declarations → LinearExpression → LinearExpression → LinearExpression → Ruling
extract_of d j i m = if all_follow d (slice_needs j i m) then (formed_width d (within (slice_width j i))) else Ill

abbrev pub extend_of : Declarations → LinearExpression → LinearExpression → Ruling
extend_of d k m = if follows d k then (formed_width d (within (add m k))) else Ill

abbrev pub rotate_of : Declarations → LinearExpression → LinearExpression → Ruling
rotate_of d k m = if follows d k then (Has (BitVec m)) else Ill

abbrev pub formed_product : Declarations → Option LinearExpression → Ruling
formed_product d (Some w) = formed_width d (within w)
formed_product d None = Ill

abbrev pub repeat_of : Declarations → LinearExpression → LinearExpression → Ruling
repeat_of d k m = if follows d (less_one k) then (formed_product d (product k m)) else Ill
