-- What is kept of a term that is not refused.
use Rattle.std.specs.Prelude.{◌≡◌, ◌+◌, sum, List, None}
use Rattle.rare_linear.specs.Linears.{LinearExpression}
use Rattle.rare_sort.specs.Ids.{sorts_at, trees_at}
use Rattle.rare_sort.specs.Rulings.{ruling}
use Rattle.rare_sort.specs.Trees.{greatest}
use Rattle.rare_sort.specs.declared.declarations.Declarations.{Declarations}
use Rattle.rare_sort.specs.declared.head.Head.{Head}
use Rattle.rare_sort.specs.declared.ruling.Ruling.TheVariants.{Has}
use Rattle.rare_sort.specs.declared.sort.Sort.{Sort}
use Rattle.rare_sort.specs.declared.tree.TermId.{TermId}
use Rattle.rare_term.specs.Literals.{reduced}
use Rattle.rare_term.specs.Refusals.{refusal}
use Rattle.rare_term.specs.declared.node.Node.{Node}
use Rattle.rare_term.specs.declared.prepared.PreparedTerm.{PreparedTerm}
use Rattle.rare_term.specs.inner.Nodes.{nestings, sizes, trees_of}

pub record IsPrepared (ns : List Node) (ss : List Sort) (d : Declarations) (h : Head) (ix : List LinearExpression) (ids : List TermId) (p : PreparedTerm) : Type 0 where
  pub accepted : refusal d h ix (trees_at (trees_of ns) ids) ≡ None
  pub operator : p.operator ≡ reduced h ix
  pub sort : ruling d h ix (sorts_at ss ids) ≡ Has p.sort
  pub nesting : p.nesting ≡ 1 + greatest (nestings ns ids)
  pub size : p.size ≡ 1 + sum (sizes ns ids)
