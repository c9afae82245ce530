-- Trees and sorts by id: an id is a place in a list of trees, and in the list of their sorts.
use Rattle.std.specs.Prelude.{◌≡◌, ℕ, ◌<◌, List, [], ◌∷◌, ◌++◌, length, map, get_or, All}
use Rattle.rare_sort.specs.declared.head.Head.TheVariants.{True}
use Rattle.rare_sort.specs.declared.sort.Sort.{Sort, Bool}
use Rattle.rare_sort.specs.declared.tree.TermId.{TermId}
use Rattle.rare_sort.specs.declared.tree.Tree.{Tree}
use Rattle.rare_sort.specs.Trees.{node}

-- the tree at a place of the list; past its end it says nothing
abbrev pub tree_at : List Tree → ℕ → Tree
tree_at ts i = get_or ts i (node True [] [])

abbrev pub trees_at : List Tree → List TermId → List Tree
trees_at ts ids = map (λ id. tree_at ts id.0) ids

-- the sort at a place of the list; past its end it says nothing
abbrev pub sort_at : List Sort → ℕ → Sort
sort_at ss i = get_or ss i Bool

abbrev pub sorts_at : List Sort → List TermId → List Sort
sorts_at ss ids = map (λ id. sort_at ss id.0) ids

abbrev pub AreIds : ℕ → List TermId → Type 0
AreIds n ids = All (λ id. id.0 < n) ids

-- equal trees have equal ids
abbrev pub IsOneToOne : List Tree → Type 0
IsOneToOne ts = (i j : ℕ) → i < length ts → j < length ts → tree_at ts i ≡ tree_at ts j → i ≡ j

-- old ids keep their trees
abbrev pub Extends : List Tree → List Tree → Type 0
Extends old new = (more : List Tree) × (new ≡ old ++ more)
