-- A sort as it is read, with its nesting.
use Rattle.std.specs.Prelude.{◌≡◌, ◌≤◌, IsTrue, Result, Ok, Err}
use Rattle.rare_base.specs.declared.answers.Fault.{Fault}
use Rattle.rare_sort.specs.DeclaredSorts.{is_sort, sort_nesting, MOST_NESTED_SORTS}
use Rattle.rare_sort.specs.declared.declarations.Declarations.{Declarations}
use Rattle.rare_sort.specs.declared.sort.Sort.{Sort}
use Rattle.rare_scope.specs.declared.sort.NestedSort.{NestedSort}

-- the sort is one of the declarations, and its nesting is this, within the limit
pub record IsNestedSort (d : Declarations) (n : NestedSort) : Type 0 where
  pub declared : IsTrue (is_sort d n.sort)
  pub nesting : n.nesting ≡ sort_nesting n.sort
  pub shallow : n.nesting ≤ MOST_NESTED_SORTS

abbrev pub only_sort : Result NestedSort Fault → Result Sort Fault
only_sort (Ok n) = Ok n.sort
only_sort (Err f) = Err f
