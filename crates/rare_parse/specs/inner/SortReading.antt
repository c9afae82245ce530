-- A sort as it is read, with its nesting.
use Rattle.std.specs.Prelude.{◌≡◌, ◌≤◌, List, codes, Result, Ok, Err, if◌then◌else◌}
use Rattle.rare_base.specs.declared.answers.Fault.{Fault}
use Rattle.rare_base.specs.declared.answers.Reason.TheVariants as reason
use Rattle.rare_sexpr.specs.declared.tree.Sexpr.{Sexpr}
use Rattle.rare_scope.specs.Reading.{Read, refused, is_word}
use Rattle.rare_rule.specs.declared.param.Param.{Param}
use Rattle.rare_parse.specs.RuleSortText.{word_sort}
use Rattle.rare_sort.specs.DeclaredSorts.{sort_nesting, MOST_NESTED_SORTS}
use Rattle.rare_sort.specs.declared.sort.Sort.{Sort}
use Rattle.rare_parse.specs.declared.sort.NestedSort.{NestedSort}

-- its nesting is this, within the limit
pub record IsNested (n : NestedSort) : Type 0 where
  pub nesting : n.nesting ≡ sort_nesting n.sort
  pub shallow : n.nesting ≤ MOST_NESTED_SORTS

-- `(BitVec E)`, or no sort
abbrev pub pair_sort : List Param → Sexpr → Sexpr → Sexpr → Read Sort
pair_sort ps e h x = if is_word (codes "BitVec") h then word_sort ps x else refused e reason.BadSort

abbrev pub only_sort : Result NestedSort Fault → Result Sort Fault
only_sort (Ok n) = Ok n.sort
only_sort (Err f) = Err f
