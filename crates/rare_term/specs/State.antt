-- What a keeper of terms is seen as: its trees, each at the number of its id, and what is declared and assumed.
use Rattle.std.specs.Prelude.{◌≡◌, ◌+◌, ◌⊎◌, List, [], ◌∷◌, ◌++◌}
use Rattle.rare_linear.specs.declared.constraint.Constraint.{Constraint}
use Rattle.rare_sort.specs.DeclaredSorts.{nothing_declared}
use Rattle.rare_sort.specs.Ids.{Extends}
use Rattle.rare_sort.specs.declared.declarations.Declarations.{Declarations}
use Rattle.rare_sort.specs.declared.sort.Signature.{Signature}
use Rattle.rare_sort.specs.declared.tree.Tree.{Tree}

pub record State : Type 0 where
  pub trees : List Tree
  pub declared : Declarations

abbrev pub no_terms : State
no_terms = record { trees = []; declared = nothing_declared }

-- with one declaration or constraint more, the last of its kind
abbrev pub one_sort : Declarations → Declarations
one_sort d = record d { sorts = d.sorts + 1 }

abbrev pub one_symbol : Signature → Declarations → Declarations
one_symbol g d = record d { symbols = d.symbols ++ g ∷ [] }

abbrev pub one_width : Declarations → Declarations
one_width d = record d { lows = d.lows ++ 1 ∷ [] }

abbrev pub one_constraint : Constraint → Declarations → Declarations
one_constraint c d = record d { constraints = d.constraints ++ c ∷ [] }

-- the same terms under other declarations
abbrev pub under : (Declarations → Declarations) → State → State
under change s = record s { declared = change s.declared }

-- at most this tree is added, behind the others, and the declarations stay
pub record AddsAtMost (t : Tree) (old new : State) : Type 0 where
  pub declared : new.declared ≡ old.declared
  pub trees : (new.trees ≡ old.trees) ⊎ (new.trees ≡ old.trees ++ t ∷ [])

-- old ids keep their trees, and nothing is declared
pub record Grows (old new : State) : Type 0 where
  pub trees : Extends old.trees new.trees
  pub declared : new.declared ≡ old.declared
