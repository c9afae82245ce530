-- The trees of a rule in form: names of expressions below the number of its parameters, and no symbols of a problem.
use Rattle.std.specs.Prelude.{ℕ, ⊤}
use Rattle.rare_sort.specs.DeclaredSorts.{AreNamed}
use Rattle.rare_sort.specs.declared.head.Head.{Head}
use Rattle.rare_sort.specs.declared.head.Head.TheVariants as head
use Rattle.rare_sort.specs.declared.tree.Tree.{Tree, Tree-F, every-Tree}
use Rattle.rare_term.specs.Literals.{IsGiven}

abbrev pub IsOfRules : Head → Type 0
IsOfRules (head.Free k) = ⊥
IsOfRules h = ⊤

pub record IsRuleNode (n : ℕ) (x : Tree-F Tree) : Type 0 where
  pub names : AreNamed n x.indices
  pub operator : IsOfRules x.head
  -- the width of a literal of given value and width is a number
  pub given : IsGiven x.head x.indices

unfoldable pub IsRuleTree : ℕ → Tree → Type 0
IsRuleTree n = every-Tree (IsRuleNode n)
