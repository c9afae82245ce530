-- What is written of linear expressions and of sorts is read back as the same.
use Rattle.std.specs.Prelude.{◌≡◌, ◌+◌, List, length, All, IsTrue, Ok}
use Rattle.rare_linear.specs.Linears.{LinearExpression, NamesBelow}
use Rattle.rare_scope.specs.LinearText.{linear_at, widths_held}
use Rattle.rare_scope.specs.Names.{Held, names_of, width_names}
use Rattle.rare_scope.specs.SortText.{sort_at}
use Rattle.rare_sort.specs.DeclaredSorts.{sort_nesting, IsDeclaredSort}
use Rattle.rare_sort.specs.declared.declarations.Declarations.{Declarations}
use Rattle.rare_sort.specs.declared.sort.Sort.{Sort}
use Rattle.rare_sort.specs.declared.tree.Tree.{Tree}
use Rattle.rare_reread.specs.Widths.{widths_in}
use Rattle.rare_scope.specs.Printing.{is_named, linear_text, sort_text}
use Rattle.rare_reread.specs.ReadsAs.{ReadsAs}
use Rattle.rare_reread.specs.Readable.{IsReadable, IsKeptLinear}

-- a linear expression over the names of a scope, at most 4 lists deep
abbrev pub LinearIsReadBack : Type 0
LinearIsReadBack =
    (held : Held) (l : LinearExpression) → IsReadable held → IsKeptLinear l → NamesBelow (length (width_names held)) l.parts →
    ReadsAs 4 (linear_text (width_names held) l) (λ e. linear_at (widths_held held) e ≡ Ok l)

-- a sort of the declarations, whose widths and sorts have names in the scope; it nests no deeper than the sort and a few lists more
abbrev pub SortIsReadBack : Type 0
SortIsReadBack =
    (held : Held) (d : Declarations) (ts : List Tree) (s : Sort) → IsReadable held → IsDeclaredSort d s → IsTrue (is_named held s) → All IsKeptLinear (widths_in s) →
    ReadsAs (sort_nesting s + 4) (sort_text held s) (λ e. sort_at d (names_of ts held) e ≡ Ok s)
