-- The names of a problem that was read: over them, what is written is read back.
use Rattle.std.specs.Prelude.{◌≡◌, ℕ, ◌≤◌, ◌<◌, ◌^◌, true, false, List, length, map, All, Ok}
use Rattle.std.specs.List.{list_all}
use Rattle.rare_sexpr.specs.Bytes.{is_in_bars}
use Rattle.rare_sort.specs.DeclaredSorts.{widths}
use Rattle.rare_sort.specs.declared.declarations.Declarations.{Declarations}
use Rattle.rare_sort.specs.declared.tree.Tree.{Tree}
use Rattle.rare_scope.specs.Names.{Held, AllDiffer, names_of, sort_names, symbol_names, width_names}
use Rattle.rare_scope.specs.Reserved.{is_among, is_theory_word, reserved_words}
use Rattle.rare_text.specs.ProblemText.{problem_of}
use Rattle.rare_text.specs.Problems.{StatedProblem}
use Rattle.rare_reread.specs.Readable.{IsReadable}

-- a text that is no longer than what a memory holds, and the problem that it states
pub record Reads (bytes : List ℕ) (p : StatedProblem) : Type 0 where
  pub short : length bytes < 2 ^ 64
  pub problem : problem_of bytes ≡ Ok p

-- a name that can stand between bars, and is neither a word of the theories nor a reserved word
pub record IsReadableName (name : List ℕ) : Type 0 where
  pub symbol : list_all is_in_bars name ≡ true
  pub word : is_theory_word name ≡ false
  pub reserved : is_among reserved_words name ≡ false

-- each name of a problem that was read is such a name
abbrev pub NamesAreReadable : Type 0
NamesAreReadable = (bytes : List ℕ) (p : StatedProblem) → Reads bytes p → All (λ n. IsReadableName n.0) p.names

-- its names differ
abbrev pub NamesDiffer : Type 0
NamesDiffer = (bytes : List ℕ) (p : StatedProblem) → problem_of bytes ≡ Ok p → AllDiffer (map (λ n. n.0) p.names)

-- a scope that holds its names is readable, whichever trees its ids stand for
abbrev pub ScopesAreReadable : Type 0
ScopesAreReadable = (bytes : List ℕ) (p : StatedProblem) (ts : List Tree) (held : Held) → Reads bytes p → names_of ts held ≡ p.names → IsReadable held

-- each sort, symbol and width that is declared has a name in the scope
pub record HaveNames (d : Declarations) (held : Held) : Type 0 where
  pub sorts : d.sorts ≤ length (sort_names held)
  pub symbols : length d.symbols ≤ length (symbol_names held)
  pub widths : widths d ≤ length (width_names held)

-- all that the problem declares has a name in such a scope
abbrev pub EachHasAName : Type 0
EachHasAName = (bytes : List ℕ) (p : StatedProblem) (ts : List Tree) (held : Held) → problem_of bytes ≡ Ok p → names_of ts held ≡ p.names → HaveNames p.declared held
