-- The sort of a tree by the rules of sorts alone; where the tree is ill sorted it says nothing. It is the sort that a well-sorted term
-- has (`terms_have_their_sort`).
use Rattle.std.specs.Prelude.{ℕ, ℤ, pos, List, slice_get, Option, Some, None}
use Rattle.rare_sort.specs.Families.{family}
use Rattle.rare_sort.specs.SortRules.{SortRule, sort_rule}
use Rattle.rare_sort.specs.Sorting.{IsSorted}
use Rattle.rare_sort.specs.declared.declarations.Declarations.{Declarations}
use Rattle.rare_sort.specs.declared.sort.Sort.{Sort, Bool}
use Rattle.rare_sort.specs.declared.sort.Signature.{Signature}
use Rattle.rare_sort.specs.declared.tree.Tree.{Tree}
use Rattle.rare_sort.specs.declared.tree.Tree.TheOpen.{Tree-F}
use Rattle.rare_sort.specs.declared.tree.Tree.TheFolds.{fold-Tree}

abbrev pub given_by : Option SortRule → Sort
given_by (Some r) = r.sort
given_by None = Bool

abbrev pub sort_step : List Signature → Tree-F Sort → Sort
sort_step symbols t = given_by (sort_rule (slice_get symbols) 2 (family t.head) t.indices t.args)

-- the sort of a tree over the declared symbols
abbrev pub sort_of : List Signature → Tree → Sort
sort_of symbols = fold-Tree Sort (sort_step symbols)

-- a term under the declarations: well sorted, and what it asks of widths is entailed where each is at least 1
abbrev pub IsTermOf : Declarations → Tree → Sort → Type 0
IsTermOf d t s = IsSorted (slice_get d.symbols) (λ k. pos 1) d.constraints t s
