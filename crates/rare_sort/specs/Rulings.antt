-- What the rule of sorts says of an application, under declarations.
use Rattle.std.specs.Prelude.{ℕ, pos, Bool, true, false, ◌&&◌, List, [], ◌∷◌, flat_map, Option, Some, None, slice_get, if◌then◌else◌}
use Rattle.rare_linear.specs.Linears.{LinearExpression, number, add}
use Rattle.rare_linear.specs.EntailmentTest.{is_within}
use Rattle.rare_sort.specs.Sameness.{sort_eq}
use Rattle.rare_sort.specs.Families.{family}
use Rattle.rare_sort.specs.SortRules.{SortRule, sort_rule, width, width_needs}
use Rattle.rare_sort.specs.DeclaredSorts.{all_follow}
use Rattle.rare_sort.specs.declared.declarations.Declarations.{Declarations}
use Rattle.rare_sort.specs.declared.head.Head.{Head}
use Rattle.rare_sort.specs.declared.family.Family.{Family}
use Rattle.rare_sort.specs.declared.family.Family.TheVariants as kind
use Rattle.rare_sort.specs.declared.sort.Sort.{Sort}
use Rattle.rare_sort.specs.declared.ruling.Ruling.{Ruling}
use Rattle.rare_sort.specs.declared.ruling.Ruling.TheVariants.{Ill, Wide, Has}

-- whether the sorts of each pair are one
abbrev pub all_one : List (Sort × Sort) → Bool
all_one [] = true
all_one (e ∷ es) = sort_eq e.0 e.1 && all_one es

-- whether each is within i128
abbrev pub all_within : List LinearExpression → Bool
all_within [] = true
all_within (e ∷ es) = is_within e && all_within es

abbrev pub listed_width : Option LinearExpression → List LinearExpression
listed_width (Some w) = w ∷ []
listed_width None = []

-- the partial sums, from the left
abbrev pub sums_from : LinearExpression → List LinearExpression → List LinearExpression
sums_from sum [] = []
sums_from sum (w ∷ ws) = add sum w ∷ sums_from (add sum w) ws

abbrev pub widths_of : List Sort → List LinearExpression
widths_of ss = flat_map (λ s. listed_width (width s)) ss

-- the widths that an application of the family forms: under `concat` each partial sum from the left
abbrev pub formed_widths : Family → List Sort → Sort → List LinearExpression
formed_widths kind.Concat ss s = sums_from (number (pos 0)) (widths_of ss)
formed_widths kind.Extract ss s = listed_width (width s)
formed_widths kind.Extend ss s = listed_width (width s)
formed_widths kind.Repeat ss s = listed_width (width s)
formed_widths f ss s = []

-- the sorts that must be one are one, what must be at least 0 is entailed to be, and each width is entailed to be at least 1; a width
-- that leaves i128 as it is formed comes before that it is at least 1
abbrev pub ruled_by : Declarations → List LinearExpression → SortRule → Ruling
ruled_by d formed r =
    if all_one r.alike && all_follow d r.needs
    then (if all_within formed then (if all_follow d (width_needs r.sort) then (Has r.sort) else Ill) else Wide)
    else Ill

abbrev pub ruled : Declarations → Family → List Sort → Option SortRule → Ruling
ruled d f ss (Some r) = ruled_by d (formed_widths f ss r.sort) r
ruled d f ss None = Ill

-- the ruling on an application of an operator of the family, by its indices and the sorts of its arguments
abbrev pub ruling_of_family : Declarations → Family → List LinearExpression → List Sort → Ruling
ruling_of_family d f ix ss = ruled d f ss (sort_rule (slice_get d.symbols) 2 f ix ss)

-- the ruling on an application
unfoldable pub ruling : Declarations → Head → List LinearExpression → List Sort → Ruling
ruling d h ix ss = ruling_of_family d (family h) ix ss
