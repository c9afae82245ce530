-- When a rewrite is true: the validity of an equation (SMT-LIB 2.6, section on structures and satisfiability), at every allowed
-- width. With `FiniteMaps` the functions range over all finite maps that fit, with `AnyFunctions` over all functions that fit.
use Rattle.std.specs.Prelude.{◌≡◌}
use Rattle.rare_sort.specs.declared.declarations.Declarations.{Declarations}
use Rattle.rare_sort.specs.declared.tree.Tree.{Tree}
use Rattle.rare_meaning.specs.Settings.{Setting}
use Rattle.rare_meaning.specs.Interpretations.{FunctionClass, IsModel}
use Rattle.rare_meaning.specs.Meaning.{meaning, value_of}

-- both sides have one value at every allowed valuation and in every interpretation of the class
pub record IsTrueRewrite (c : FunctionClass) (d : Declarations) (left right : Tree) : Type 0 where
  pub same : (e : Setting) → IsModel c d e → value_of e left ≡ value_of e right

-- the same with the sort of the value: what each step keeps
pub record MeansSame (c : FunctionClass) (d : Declarations) (left right : Tree) : Type 0 where
  pub same : (e : Setting) → IsModel c d e → meaning e left ≡ meaning e right
