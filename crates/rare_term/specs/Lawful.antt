-- What holds of each keeper of terms.
use Rattle.std.specs.Prelude.{◌≡◌, ℕ, ◌<◌, ◌≤◌, false, List, length, All}
use Rattle.rare_sort.specs.DeclaredSorts.{widths, AreDeclared, AreNamed, IsDeclaredSort, IsSymbol}
use Rattle.rare_sort.specs.Families.{family}
use Rattle.rare_sort.specs.Ids.{IsOneToOne, tree_at}
use Rattle.rare_sort.specs.SortOf.{sort_of, IsTermOf}
use Rattle.rare_sort.specs.Trees.{args_of, head_of, indices_of, nesting, size}
use Rattle.rare_sort.specs.declared.tree.Tree.{Tree}
use Rattle.rare_term.specs.Limits.{MOST_ARGS, MOST_NESTED, MOST_NODES}
use Rattle.rare_term.specs.Literals.{operator, reduced}
use Rattle.rare_term.specs.Refusals.{has_large_number}
use Rattle.rare_term.specs.State.{State}

-- the tree stands in the list
abbrev pub Stands : List Tree → Tree → Type 0
Stands ts t = (i : ℕ) × (i < length ts) × (tree_at ts i ≡ t)

-- a kept tree is a term of the declarations, within the limits, its literals reduced, over declared names; its sort may be handed in; its
-- arguments are kept too
pub record IsKeptTerm (s : State) (t : Tree) : Type 0 where
  pub sorted : IsTermOf s.declared t (sort_of s.declared.symbols t)
  pub sort : IsDeclaredSort s.declared (sort_of s.declared.symbols t)
  pub few : length (args_of t) ≤ MOST_ARGS
  pub shallow : nesting t ≤ MOST_NESTED
  pub small : size t ≤ MOST_NODES
  pub numbers : has_large_number (head_of t) (indices_of t) ≡ false
  pub literals : reduced (head_of t) (indices_of t) ≡ operator (head_of t) (indices_of t)
  pub symbol : IsSymbol (length s.declared.symbols) (family (head_of t))
  pub names : AreNamed (widths s.declared) (indices_of t)
  pub args : All (Stands s.trees) (args_of t)

pub record IsLawful (s : State) : Type 0 where
  pub one_to_one : IsOneToOne s.trees
  pub terms : (i : ℕ) → i < length s.trees → IsKeptTerm s (tree_at s.trees i)
  pub declared : AreDeclared s.declared
