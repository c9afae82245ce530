-- Which sorts, symbols and names are those of some declarations.
use Rattle.std.specs.Prelude.{◌≡◌, ℕ, pos, ◌+◌, ◌<◌, ◌≤◌, max, Bool, true, ◌&&◌, nat_lt, List, [], ◌∷◌, length, All, IsTrue}
use Rattle.rare_linear.specs.Linears.{Part, LinearExpression, NamesBelow}
use Rattle.rare_linear.specs.EntailmentTest.{is_entailed}
use Rattle.rare_linear.specs.declared.constraint.Constraint.{Constraint}
use Rattle.rare_sort.specs.SortRules.{less_one}
use Rattle.rare_sort.specs.declared.declarations.Declarations.{Declarations}
use Rattle.rare_sort.specs.declared.sort.Sort.{Sort}
use Rattle.rare_sort.specs.declared.sort.Sort.TheOpen.{Sort-F}
use Rattle.rare_sort.specs.declared.sort.Sort.TheOpen as shape
use Rattle.rare_sort.specs.declared.sort.Sort.TheFolds.{fold-Sort}
use Rattle.rare_sort.specs.declared.family.Family.{Family}
use Rattle.rare_sort.specs.declared.family.Family.TheVariants as kind

abbrev pub nothing_declared : Declarations
nothing_declared = record { sorts = 0; symbols = []; lows = []; constraints = [] }

-- how many width names are declared
abbrev pub widths : Declarations → ℕ
widths d = length d.lows

-- whether the constraints entail that the expression is at least 0, where each width name is at least 1
unfoldable pub follows : Declarations → LinearExpression → Bool
follows d e = is_entailed (λ k. pos 1) d.constraints e

abbrev pub all_follow : Declarations → List LinearExpression → Bool
all_follow d [] = true
all_follow d (e ∷ es) = follows d e && all_follow d es

-- ---- names

-- whether each name is below the bound
abbrev pub names_below : ℕ → List Part → Bool
names_below n [] = true
names_below n (p ∷ ps) = nat_lt p.0 n && names_below n ps

-- the width names are declared
abbrev pub AreNamed : ℕ → List LinearExpression → Type 0
AreNamed n es = All (λ e. NamesBelow n e.parts) es

-- the symbol is declared, and the operator doesn't stand in rules alone
abbrev pub IsSymbol : ℕ → Family → Type 0
IsSymbol n (kind.Symbol k) = k < n
IsSymbol n kind.OfRules = ⊥
IsSymbol n f = Unit {0}

-- ---- sorts

abbrev pub is_sort_step : Declarations → Sort-F Bool → Bool
is_sort_step d (shape.BitVec m) = names_below (widths d) m.parts && follows d (less_one m)
is_sort_step d (shape.Array a b) = a && b
is_sort_step d (shape.Named k) = nat_lt k d.sorts
is_sort_step d s = true

-- whether its sorts and width names are declared, and each of its widths is entailed to be at least 1
unfoldable pub is_sort : Declarations → Sort → Bool
is_sort d = fold-Sort Bool (is_sort_step d)

abbrev pub AreSorts : Declarations → List Sort → Type 0
AreSorts d ss = All (λ s. IsTrue (is_sort d s)) ss

abbrev pub sort_nesting_step : Sort-F ℕ → ℕ
sort_nesting_step (shape.Array a b) = 1 + max a b
sort_nesting_step s = 1

-- how deep a sort nests; a sort that is no array counts as 1
abbrev pub sort_nesting : Sort → ℕ
sort_nesting = fold-Sort ℕ sort_nesting_step

-- the deepest nesting of a sort
abbrev pub MOST_NESTED_SORTS : ℕ
MOST_NESTED_SORTS = 1000

-- a sort that may be handed in: one of these declarations, within the limit of nesting
pub record IsDeclaredSort (d : Declarations) (s : Sort) : Type 0 where
  pub declared : IsTrue (is_sort d s)
  pub shallow : sort_nesting s ≤ MOST_NESTED_SORTS

-- the declarations fit together: sorts of symbols may be handed in, the low of each width name is 1, constraints are over declared names
pub record AreDeclared (d : Declarations) : Type 0 where
  pub symbols : All (λ g. All (IsDeclaredSort d) g.args × IsDeclaredSort d g.gives) d.symbols
  pub lows : All (λ n. n ≡ 1) d.lows
  pub constraints : All (λ c. NamesBelow (widths d) c.floor.parts) d.constraints
