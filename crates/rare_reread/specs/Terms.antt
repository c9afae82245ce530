-- What is written of terms is read back as the same.
use Rattle.std.specs.Prelude.{◌≡◌, ℕ, ◌+◌, ◌<◌, ◌≤◌, ◌^◌, List, ◌++◌, length, codes, Some, None, All, Ok}
use Rattle.std.specs.Fmt.{decimal}
use Rattle.rare_sort.specs.DeclaredSorts.{widths}
use Rattle.rare_sort.specs.Ids.{tree_at}
use Rattle.rare_sort.specs.Trees.{args_of, head_of, indices_of, nesting}
use Rattle.rare_sort.specs.declared.head.Head.{Head}
use Rattle.rare_sort.specs.declared.head.Head.TheVariants as head
use Rattle.rare_sort.specs.declared.tree.Tree.{Tree}
use Rattle.rare_term.specs.Lawful.{IsLawful, Stands}
use Rattle.rare_term.specs.Literals.{IsGiven}
use Rattle.rare_term.specs.Refusals.{refusal}
use Rattle.rare_term.specs.State.{State}
use Rattle.rare_scope.specs.Names.{Held, a_term, found, names_of, symbol_names, width_names}
use Rattle.rare_scope.specs.Numbers.{LARGEST_WIDE}
use Rattle.rare_term_text.specs.TermText.{term_at}
use Rattle.rare_term_printing.specs.TermPrinting.{term_text}
use Rattle.rare_reread.specs.ReadsAs.{ReadsAs}
use Rattle.rare_reread.specs.Readable.{IsReadable, IsKeptLinear}

-- the value of a literal is at most 2^128 - 1
abbrev pub HasValueInRange : Head → Type 0
HasValueInRange (head.Bits v) = v ≤ LARGEST_WIDE
HasValueInRange h = Unit {0}

-- the term would be made again, the width of a literal of given value is a number, and all numbers are in range
pub record IsWritable (s : State) (t : Tree) : Type 0 where
  pub allowed : refusal s.declared (head_of t) (indices_of t) (args_of t) ≡ None
  pub given : IsGiven (head_of t) (indices_of t)
  pub value : HasValueInRange (head_of t)
  pub indices : All IsKeptLinear (indices_of t)

-- each symbol and each width has a name, and the name `@k` stands for tree k, from 1, of those that are shared
pub record NamesAll (held : Held) (s : State) (shared : List Tree) : Type 0 where
  pub readable : IsReadable held
  pub symbols : length s.declared.symbols ≤ length (symbol_names held)
  pub widths : widths s.declared ≤ length (width_names held)
  pub few : length shared < 2 ^ 64
  pub known : (i : ℕ) → i < length shared → found (names_of s.trees held) (codes "@" ++ decimal (i + 1)) ≡ Some (a_term (tree_at shared i))

-- a term that is kept, over the names of a scope
abbrev pub TermIsReadBack : Type 0
TermIsReadBack =
    (held : Held) (s : State) (shared : List Tree) (t : Tree) → IsLawful s → ((i : ℕ) → i < length s.trees → IsWritable s (tree_at s.trees i)) → NamesAll held s shared →
    Stands s.trees t → ReadsAs (nesting t + 5) (term_text held shared t) (λ e. term_at s.declared (names_of s.trees held) e ≡ Ok t)
