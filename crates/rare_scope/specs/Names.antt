-- What the names of a problem stand for. Sorts, widths, symbols and defined terms are one table of names.
use Rattle.std.specs.Prelude.{◌≡◌, ℕ, ◌<◌, Bool, false, ◌||◌, List, [], ◌∷◌, map, flat_map, length, bytes_eq, slice_index, Option, Some, None, All, if◌then◌else◌}
use Rattle.rare_sort.specs.DeclaredSorts.{widths}
use Rattle.rare_sort.specs.Ids.{tree_at}
use Rattle.rare_sort.specs.declared.declarations.Declarations.{Declarations}
use Rattle.rare_sort.specs.declared.tree.Tree.{Tree}
use Rattle.rare_sort.specs.declared.tree.TermId.{TermId}
use Rattle.rare_term.specs.State.{State}
use Rattle.rare_scope.specs.declared.meaning.Meaning.{Meaning}
use Rattle.rare_scope.specs.declared.meaning.Meaning.TheVariants as meaning
use Rattle.rare_scope.specs.Reserved.{is_among, is_theory_word}

-- a declared sort, width or symbol by its number, or a term
pub data Meant : Type 0 where
  a_sort : ℕ → Meant
  a_width : ℕ → Meant
  a_symbol : ℕ → Meant
  a_term : Tree → Meant

abbrev pub Names : Type 0
Names = List (List ℕ × Meant)

-- what a name stands for, where it stood for this so far
abbrev pub found_from : {A : Type 0} → List ℕ → Option A → List (List ℕ × A) → Option A
found_from text found [] = found
found_from text found (n ∷ ns) = found_from text (if bytes_eq text n.0 then Some n.1 else found) ns

-- what a name stands for: the last of one name counts
abbrev pub found : {A : Type 0} → List (List ℕ × A) → List ℕ → Option A
found names text = found_from text None names

abbrev pub width_meant : Option Meant → Option ℕ
width_meant (Some (a_width k)) = Some k
width_meant m = None

abbrev pub sort_meant : Option Meant → Option ℕ
sort_meant (Some (a_sort k)) = Some k
sort_meant m = None

-- the number of the width, and of the sort, that a name stands for
abbrev pub width_among : Names → List ℕ → Option ℕ
width_among names text = width_meant (found names text)

abbrev pub sort_among : Names → List ℕ → Option ℕ
sort_among names text = sort_meant (found names text)

-- ---- names as a scope holds them, terms by their ids

abbrev pub Held : Type 0
Held = List (List ℕ × Meaning)

abbrev pub meant : List Tree → Meaning → Meant
meant ts (meaning.Sort k) = a_sort k
meant ts (meaning.Width k) = a_width k
meant ts (meaning.Symbol k) = a_symbol k
meant ts (meaning.Term id) = a_term (tree_at ts id.0)

-- what the names stand for, by the trees of the ids
abbrev pub names_of : List Tree → Held → Names
names_of ts held = map (λ n. (n.0, meant ts n.1)) held

-- the meaning is a declared sort, width or symbol, or the id of one of these trees
abbrev pub IsMeant : State → Meaning → Type 0
IsMeant s (meaning.Sort k) = k < s.declared.sorts
IsMeant s (meaning.Width k) = k < widths s.declared
IsMeant s (meaning.Symbol k) = k < length s.declared.symbols
IsMeant s (meaning.Term id) = id.0 < length s.trees

abbrev pub AreMeant : State → Held → Type 0
AreMeant s held = All (λ n. IsMeant s n.1) held

abbrev pub width_in : Option Meaning → Option ℕ
width_in (Some (meaning.Width k)) = Some k
width_in m = None

abbrev pub sort_in : Option Meaning → Option ℕ
sort_in (Some (meaning.Sort k)) = Some k
sort_in m = None

-- ---- which names are declared, and the names of each kind in the order of their numbers

-- whether a name is declared or defined, or a word of the theories
abbrev pub is_declared : Held → List ℕ → Bool
is_declared held name = is_theory_word name || is_among (map (λ n. n.0) held) name

abbrev pub sort_number : Meaning → List ℕ
sort_number (meaning.Sort k) = k ∷ []
sort_number m = []

abbrev pub symbol_number : Meaning → List ℕ
symbol_number (meaning.Symbol k) = k ∷ []
symbol_number m = []

abbrev pub width_number : Meaning → List ℕ
width_number (meaning.Width k) = k ∷ []
width_number m = []

-- the names of a kind, by the numbers that a meaning has of it
abbrev pub names_with : (Meaning → List ℕ) → Held → List (List ℕ)
names_with number held = flat_map (λ n. map (λ k. n.0) (number n.1)) held

abbrev pub sort_names : Held → List (List ℕ)
sort_names held = names_with sort_number held

abbrev pub symbol_names : Held → List (List ℕ)
symbol_names held = names_with symbol_number held

abbrev pub width_names : Held → List (List ℕ)
width_names held = names_with width_number held

-- the meaning is the next sort, symbol or width, or any term
abbrev pub IsNext : Held → Meaning → Type 0
IsNext held (meaning.Sort k) = k ≡ length (sort_names held)
IsNext held (meaning.Symbol k) = k ≡ length (symbol_names held)
IsNext held (meaning.Width k) = k ≡ length (width_names held)
IsNext held (meaning.Term id) = Unit {0}

-- the meaning is a sort, symbol or width that has a name, or any term
abbrev pub IsNumbered : Held → Meaning → Type 0
IsNumbered held (meaning.Sort k) = k < length (sort_names held)
IsNumbered held (meaning.Symbol k) = k < length (symbol_names held)
IsNumbered held (meaning.Width k) = k < length (width_names held)
IsNumbered held (meaning.Term id) = Unit {0}

-- each number is its place
abbrev pub AreInOrder : List ℕ → Type 0
AreInOrder ks = (i : ℕ) → i < length ks → slice_index ks i ≡ i

abbrev pub numbers_with : (Meaning → List ℕ) → Held → List ℕ
numbers_with number held = flat_map (λ n. number n.1) held

-- no later name is equal to an earlier one
abbrev pub AllDiffer : List (List ℕ) → Type 0
AllDiffer [] = Unit {0}
AllDiffer (name ∷ later) = (is_among later name ≡ false) × AllDiffer later

-- the names differ, and those of each kind are numbered from 0 on
pub record IsScope (held : Held) : Type 0 where
  pub differ : AllDiffer (map (λ n. n.0) held)
  pub sorts : AreInOrder (numbers_with sort_number held)
  pub symbols : AreInOrder (numbers_with symbol_number held)
  pub widths : AreInOrder (numbers_with width_number held)
