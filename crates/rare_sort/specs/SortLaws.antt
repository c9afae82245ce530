-- Laws of sorts.
use Rattle.std.specs.Prelude.{◌≡◌, ◌↔◌, IsTrue, ℕ, ℤ, List, ◌++◌, Option, Some}
use Rattle.rare_linear.specs.Linears.{LinearExpression}
use Rattle.rare_linear.specs.Entailment.{IsEntailed}
use Rattle.rare_linear.specs.declared.constraint.Constraint.{Constraint}
use Rattle.rare_sort.specs.Each.{Each, EachPair}
use Rattle.rare_sort.specs.Trees.{node}
use Rattle.rare_sort.specs.Families.{family}
use Rattle.rare_sort.specs.SortRules.{SortRule, sort_rule, width_needs}
use Rattle.rare_sort.specs.declared.sort.Signature.{Signature}
use Rattle.rare_sort.specs.Sameness.{sort_eq, head_eq, tree_eq}
use Rattle.rare_sort.specs.Sorting.{IsOne, IsSorted}
use Rattle.rare_sort.specs.SortOf.{sort_of, IsTermOf}
use Rattle.rare_sort.specs.declared.declarations.Declarations.{Declarations}
use Rattle.rare_sort.specs.declared.sort.Sort.{Sort}
use Rattle.rare_sort.specs.declared.tree.Tree.{Tree}
use Rattle.rare_sort.specs.declared.head.Head.{Head}

-- what is well sorted stays so under more constraints
abbrev pub StaysSorted : Type 0
StaysSorted =
    (symbols : ℕ → Option Signature) (lows : ℕ → ℤ) (have more : List Constraint) (t : Tree) (s : Sort) →
    IsSorted symbols lows have t s → IsSorted symbols lows (have ++ more) t s

-- a term has one sort
abbrev pub HasOneSort : Type 0
HasOneSort =
    (symbols : ℕ → Option Signature) (lows : ℕ → ℤ) (have : List Constraint) (t : Tree) (s u : Sort) →
    IsSorted symbols lows have t s → IsSorted symbols lows have t u → s ≡ u

-- the rule of sorts of this head gives this sort, and what it asks for is entailed
pub record Gives (symbols : ℕ → Option Signature) (lows : ℕ → ℤ) (have : List Constraint) (h : Head) (ix : List LinearExpression) (ss : List Sort) (s : Sort) : Type 0 where
  pub rule : SortRule
  pub found : sort_rule symbols 2 (family h) ix ss ≡ Some rule
  pub sort : rule.sort ≡ s
  pub same : Each IsOne rule.alike
  pub needs : Each (IsEntailed lows have) rule.needs
  pub widths : Each (IsEntailed lows have) (width_needs rule.sort)

-- an application of terms is a term exactly where its rule of sorts gives a sort
pub record NodeLaw : Type 0 where
  pub made :
      (symbols : ℕ → Option Signature) (lows : ℕ → ℤ) (have : List Constraint) (h : Head) (ix : List LinearExpression) (ts : List Tree) (ss : List Sort) (s : Sort) →
      EachPair (IsSorted symbols lows have) ts ss → Gives symbols lows have h ix ss s → IsSorted symbols lows have (node h ix ts) s
  pub only :
      (symbols : ℕ → Option Signature) (lows : ℕ → ℤ) (have : List Constraint) (h : Head) (ix : List LinearExpression) (ts : List Tree) (s : Sort) →
      IsSorted symbols lows have (node h ix ts) s → (ss : List Sort) × EachPair (IsSorted symbols lows have) ts ss × Gives symbols lows have h ix ss s

-- the tests of sameness are true exactly where two sorts, operators or trees are one
pub record SamenessIsDecided : Type 0 where
  pub sorts : (s t : Sort) → IsTrue (sort_eq s t) ↔ (s ≡ t)
  pub operators : (h k : Head) → IsTrue (head_eq h k) ↔ (h ≡ k)
  pub trees : (t u : Tree) → IsTrue (tree_eq t u) ↔ (t ≡ u)

-- a term has the sort that the rules alone give it
abbrev pub TermsHaveTheirSort : Type 0
TermsHaveTheirSort = (d : Declarations) (t : Tree) (s : Sort) → IsTermOf d t s → sort_of d.symbols t ≡ s
