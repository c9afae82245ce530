-- The arguments of a rule: a sort, a linear expression, a term or a list of terms for each of its names (the RARE paper, FMCAD 2022, on
-- instances of rules; kinds of names, `:const` and widths are this project's own).
use Rattle.std.specs.Prelude.{List, map}
use Rattle.rare_linear.specs.Linears.{LinearExpression}
use Rattle.rare_sort.specs.Ids.{tree_at, trees_at}
use Rattle.rare_sort.specs.declared.sort.Sort.{Sort}
use Rattle.rare_sort.specs.declared.tree.Tree.{Tree}
use Rattle.rare_inst.specs.declared.arg.Arg.{Arg}
use Rattle.rare_inst.specs.declared.arg.Arg.TheVariants as given

-- an argument, with terms as trees
pub data Argument : Type 0 where
  OfSort : Sort → Argument
  OfLinear : LinearExpression → Argument
  OfTerm : Tree → Argument
  OfList : List Tree → Argument

-- an argument whose terms are places of a list of trees
abbrev pub argument_of : List Tree → Arg → Argument
argument_of kept (given.Sort s) = OfSort s
argument_of kept (given.Linear e) = OfLinear e
argument_of kept (given.Term id) = OfTerm (tree_at kept id.0)
argument_of kept (given.List ids) = OfList (trees_at kept ids)

abbrev pub arguments_of : List Tree → List Arg → List Argument
arguments_of kept args = map (argument_of kept) args
