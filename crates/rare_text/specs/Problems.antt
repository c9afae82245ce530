-- Problems: what is declared, what names stand for, and the rewrites.
use Rattle.std.specs.Prelude.{ℕ, List, [], ◌∷◌, ◌++◌, length}
use Rattle.rare_linear.specs.Linears.{LinearExpression}
use Rattle.rare_sort.specs.DeclaredSorts.{nothing_declared, widths}
use Rattle.rare_sort.specs.declared.declarations.Declarations.{Declarations}
use Rattle.rare_sort.specs.declared.sort.Sort.{Sort}
use Rattle.rare_sort.specs.declared.tree.Tree.{Tree}
use Rattle.rare_term.specs.State.{one_sort, one_symbol, one_width, one_constraint}
use Rattle.rare_scope.specs.Names.{Names, Meant, a_sort, a_width, a_symbol}

-- a rewrite: its name and its two sides
pub record StatedRewrite : Type 0 where
  pub name : List ℕ
  pub left : Tree
  pub right : Tree

-- what is declared, what the names stand for, the samples of the widths in the order of their numbers, and the rewrites in order
pub record StatedProblem : Type 0 where
  pub declared : Declarations
  pub names : Names
  pub samples : List ℕ
  pub rewrites : List StatedRewrite

abbrev pub no_problem : StatedProblem
no_problem = record { declared = nothing_declared; names = []; samples = []; rewrites = [] }

abbrev pub with_name : List ℕ → Meant → StatedProblem → StatedProblem
with_name name meant p = record p { names = p.names ++ (name, meant) ∷ [] }

abbrev pub with_sort : List ℕ → StatedProblem → StatedProblem
with_sort name p = with_name name (a_sort p.declared.sorts) (record p { declared = one_sort p.declared })

abbrev pub with_symbol : List ℕ → List Sort → Sort → StatedProblem → StatedProblem
with_symbol name args gives p =
    with_name name (a_symbol (length p.declared.symbols)) (record p { declared = one_symbol (record { args = args; gives = gives }) p.declared })

abbrev pub with_width : List ℕ → ℕ → StatedProblem → StatedProblem
with_width name sample p =
    with_name name (a_width (widths p.declared)) (record p { declared = one_width p.declared; samples = p.samples ++ sample ∷ [] })

-- with the constraints that these expressions are at least 0
abbrev pub with_floors : List LinearExpression → StatedProblem → StatedProblem
with_floors [] p = p
with_floors (f ∷ fs) p = with_floors fs (record p { declared = one_constraint (record { floor = f }) p.declared })

abbrev pub with_rewrite : StatedRewrite → StatedProblem → StatedProblem
with_rewrite r p = record p { rewrites = p.rewrites ++ r ∷ [] }
