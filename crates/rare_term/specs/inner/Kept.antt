-- What a keeper keeps true of its nodes.
use Rattle.std.specs.Prelude.{◌≡◌, ℕ, ◌<◌, ◌≤◌, Bool, false, List, length, All}
use Rattle.rare_sort.specs.DeclaredSorts.{widths, sort_nesting, AreDeclared, AreNamed, AreSorts, IsSymbol, MOST_NESTED_SORTS}
use Rattle.rare_sort.specs.Families.{family}
use Rattle.rare_sort.specs.Ids.{IsOneToOne, sort_at, sorts_at}
use Rattle.rare_sort.specs.Rulings.{ruling}
use Rattle.rare_sort.specs.declared.declarations.Declarations.{Declarations}
use Rattle.rare_sort.specs.declared.ruling.Ruling.TheVariants.{Has}
use Rattle.rare_sort.specs.declared.sort.Sort.{Sort}
use Rattle.rare_term.specs.Limits.{MOST_ARGS}
use Rattle.rare_term.specs.Literals.{operator, reduced}
use Rattle.rare_term.specs.Refusals.{has_large_number}
use Rattle.rare_term.specs.declared.node.Node.{Node}
use Rattle.rare_term.specs.inner.Nodes.{IsNode, IsSmall, node_at, trees_of}

-- a node that was accepted: of few arguments, over declared names, its literals reduced
pub record IsAccepted (d : Declarations) (n : Node) : Type 0 where
  pub small : IsSmall n
  pub few : length n.args ≤ MOST_ARGS
  pub numbers : has_large_number n.head n.indices ≡ false
  pub literals : reduced n.head n.indices ≡ operator n.head n.indices
  pub symbol : IsSymbol (length d.symbols) (family n.head)
  pub names : AreNamed (widths d) n.indices

pub record IsKept (ns : List Node) (ss : List Sort) (d : Declarations) : Type 0 where
  pub one : IsOneToOne (trees_of ns)
  pub nodes : (i : ℕ) → i < length ns → IsNode (trees_of ns) i (node_at ns i)
  pub accepted : (i : ℕ) → i < length ns → IsAccepted d (node_at ns i)
  pub ruled : (i : ℕ) → i < length ns → ruling d (node_at ns i).head (node_at ns i).indices (sorts_at ss (node_at ns i).args) ≡ Has (sort_at ss i)
  pub count : length ss ≡ length ns
  pub sorts : AreSorts d ss
  pub shallow : All (λ s. sort_nesting s ≤ MOST_NESTED_SORTS) ss
  pub declared : AreDeclared d
