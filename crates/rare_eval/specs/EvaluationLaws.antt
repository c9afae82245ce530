-- Laws of evaluation.
use Rattle.std.specs.Prelude.{◌≡◌, List, map, Some}
use Rattle.rare_linear.specs.Linears.{LinearExpression}
use Rattle.rare_sort.specs.SortRules.{number_in}
use Rattle.rare_sort.specs.Sorting.{all_of}
use Rattle.rare_sort.specs.Trees.{node}
use Rattle.rare_sort.specs.declared.declarations.Declarations.{Declarations}
use Rattle.rare_sort.specs.declared.head.Head.{Head}
use Rattle.rare_sort.specs.declared.tree.Tree.{Tree}
use Rattle.rare_meaning.specs.Settings.{Item, Setting, one}
use Rattle.rare_meaning.specs.Interpretations.{FunctionClass}
use Rattle.rare_meaning.specs.Meaning.{meaning}
use Rattle.rare_meaning.specs.TrueRewrite.{MeansSame}
use Rattle.rare_eval.specs.Evaluation.{evaluated, evaluation}

-- the value of an application is made of those of its arguments
abbrev pub NodeEvaluation : Type 0
NodeEvaluation =
    (h : Head) (ix : List LinearExpression) (ts : List Tree) →
    evaluation (node h ix ts) ≡ evaluated h (all_of (map number_in ix)) (all_of (map evaluation ts))

-- where a term has a value, it means that value at every valuation and in every interpretation
abbrev pub ValueIsMeaning : Type 0
ValueIsMeaning = (e : Setting) (t : Tree) (i : Item) → evaluation t ≡ Some i → meaning e t ≡ one i

-- terms that have one value mean the same, whatever functions count and whatever is declared
abbrev pub OneValueMeansSame : Type 0
OneValueMeansSame =
    (c : FunctionClass) (d : Declarations) (t u : Tree) (i : Item) → evaluation t ≡ Some i → evaluation u ≡ Some i → MeansSame c d t u
