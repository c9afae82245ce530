-- That the nodes are kept is one fact.
use Rattle.std.specs.Prelude.{◌≡◌, ℕ, List, [], ◌∷◌}
use Rattle.std.specs.Coded.{Coded-set, ×_prop, Unit-prop, le_prop, codes}
use Rattle.std.proofs.Props.{props}
use Rattle.rare_linear.specs.Linears.{Part, NamesBelow}
use Rattle.rare_sort.specs.DeclaredSorts.{AreDeclared, IsDeclaredSort, IsSymbol}
use Rattle.rare_sort.specs.contracts.tree.Tree as tree
use Rattle.rare_sort.specs.contracts.sort.Sort as sort
use Rattle.rare_sort.specs.contracts.ruling.Ruling as ruling
use Rattle.rare_sort.specs.declared.declarations.Declarations.{Declarations}
use Rattle.rare_sort.specs.declared.family.Family.{Family}
use Rattle.rare_sort.specs.declared.family.Family.TheVariants as kind
use Rattle.rare_sort.specs.declared.ruling.Ruling.{Ruling}
use Rattle.rare_sort.specs.declared.sort.Sort.{Sort}
use Rattle.rare_sort.specs.declared.tree.Tree.{Tree}
use Rattle.rare_term.specs.contracts.literals.Operator as operator
use Rattle.rare_term.specs.declared.literals.Operator.{Operator}
use Rattle.rare_term.specs.declared.node.Node.{Node}
use Rattle.rare_term.specs.inner.Kept.{IsAccepted, IsKept}
use Rattle.rare_term.specs.inner.Nodes.{IsNode}

named_prop : (n : ℕ) (ps : List Part) → IsProp (NamesBelow n ps)
named_prop n [] = Unit-prop
named_prop n (p ∷ ps) = ×_prop le_prop (named_prop n ps)

symbol_prop : (n : ℕ) (f : Family) → IsProp (IsSymbol n f)
symbol_prop n (kind.Symbol k) = le_prop
symbol_prop n kind.OfRules = λ a b. absurd a
symbol_prop n f = Unit-prop

tree_set : IsSet Tree
tree_set = Coded-set tree.the_row.coded

sort_set : IsSet Sort
sort_set = Coded-set sort.the_row.coded

ruling_set : IsSet Ruling
ruling_set = Coded-set ruling.the_row.coded

operator_set : IsSet Operator
operator_set = Coded-set operator.the_row.coded

declared_prop : (d : Declarations) → IsProp (AreDeclared d)
declared_prop d = Prim.hlevel (named_prop, props)

node_prop : (ts : List Tree) (i : ℕ) (n : Node) → IsProp (IsNode ts i n)
node_prop ts i n = Prim.hlevel (tree_set, props)

accepted_prop : (d : Declarations) (n : Node) → IsProp (IsAccepted d n)
accepted_prop d n = Prim.hlevel (operator_set, named_prop, symbol_prop, props)

pub kept_prop : (ns : List Node) (ss : List Sort) (d : Declarations) → IsProp (IsKept ns ss d)
kept_prop ns ss d = Prim.hlevel (declared_prop, node_prop, accepted_prop, ruling_set, sort_set, props)
