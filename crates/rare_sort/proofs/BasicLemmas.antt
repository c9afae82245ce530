-- Bool and Int are sorts of all declarations, within the limit of nesting.
use Rattle.std.proofs.Common.{◌≡◌}
use Rattle.rare_sort.specs.DeclaredSorts.{IsDeclaredSort}
use Rattle.rare_sort.specs.SortRules.{basic_sort}
use Rattle.rare_sort.specs.declared.declarations.Declarations.{Declarations}
use Rattle.rare_sort.specs.declared.family.Basic.{Basic}
use Rattle.rare_sort.specs.declared.family.Basic.TheVariants as basic
use Rattle.rare_sort.specs.declared.sort.Sort.{Bool, Int}
use Rattle.rare_sort.proofs.ShallowLemmas.{basic_shallow}
use Rattle.rare_sort.proofs.SortOfLemmas.{basic_is_sort}

basic_declared : (d : Declarations) (b : Basic) → IsDeclaredSort d (basic_sort b)
basic_declared d b = record { declared = basic_is_sort d b; shallow = basic_shallow b }

pub bool_declared : (d : Declarations) → IsDeclaredSort d Bool
bool_declared d = basic_declared d basic.Bool

pub int_declared : (d : Declarations) → IsDeclaredSort d Int
int_declared d = basic_declared d basic.Int
