-- An application of an operator with lists means the total of its arguments.
use Rattle.std.specs.Prelude.{◌≡◌, List, [], ◌∷◌, All}
use Rattle.rare_sort.specs.Each.{EachPair}
use Rattle.rare_sort.specs.Trees.{node}
use Rattle.rare_sort.specs.declared.head.Head.{Head}
use Rattle.rare_sort.specs.declared.tree.Tree.{Tree}
use Rattle.rare_meaning.specs.Values.{Value, ClosedSort, Fits}
use Rattle.rare_meaning.specs.Settings.{Group, Setting, item, one}
use Rattle.rare_meaning.specs.Splicing.{lead, values}
use Rattle.rare_meaning.specs.Meaning.{meaning}
use Rattle.rare_meaning.specs.Fitting.{IsOf}
use Rattle.rare_shapes.specs.Operators.{Operator, total}

-- the tree means this value of the sort
pub record IsTerm (e : Setting) (s : ClosedSort) (t : Tree) (v : Value) : Type 0 where
  pub means : meaning e t ≡ one (item s v)
  pub fits : Fits v s

-- items of the sort, which is told also where there are none
pub record AreOf (s : ClosedSort) (g : Group) : Type 0 where
  pub lead : lead g ≡ s
  pub each : All (IsOf s) g.items

-- the tree stands for values whose total is this: one argument, or those of a list
pub record HasTotal (h : Head) (s : ClosedSort) (o : Operator h s) (e : Setting) (t : Tree) (v : Value) : Type 0 where
  pub are : AreOf s (meaning e t)
  pub total : total o (values (meaning e t).items) ≡ v

abbrev pub ApplicationsHaveTotals : Type 0
ApplicationsHaveTotals =
    (h : Head) (s : ClosedSort) (o : Operator h s) (e : Setting) (t : Tree) (ts : List Tree) (v : Value) (vs : List Value) →
    EachPair (HasTotal h s o e) (t ∷ ts) (v ∷ vs) → IsTerm e s (node h [] (t ∷ ts)) (total o (v ∷ vs))
