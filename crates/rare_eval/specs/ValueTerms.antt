-- The one term of a value: `true`, `false`, a numeral, `(- k)` with a numeral k above 0, or a literal of given value and width.
use Rattle.std.specs.Prelude.{◌≡◌, ℕ, suc, pos, negsuc, true, false, List, [], ◌∷◌, ◌++◌, Some, None, ◌⊎◌, slice_get}
use Rattle.rare_linear.specs.Linears.{number}
use Rattle.rare_sort.specs.Each.{Each}
use Rattle.rare_sort.specs.Trees.{node, head_of, indices_of, args_of}
use Rattle.rare_sort.specs.declared.declarations.Declarations.{Declarations}
use Rattle.rare_sort.specs.declared.head.Head.TheVariants as head
use Rattle.rare_sort.specs.declared.tree.Tree.{Tree}
use Rattle.rare_term.specs.Refusals.{refusal}
use Rattle.rare_term.specs.State.{State}
use Rattle.rare_eval.specs.Evaluation.{evaluation}
use Rattle.rare_eval.specs.Limited.{IsLimited}
use Rattle.rare_eval.specs.ValueItems.{value_item}
use Rattle.rare_eval.specs.declared.values.Value.{Value}
use Rattle.rare_eval.specs.declared.values.Value.TheVariants as value

abbrev pub value_term_of : Value → Tree
value_term_of (value.Truth true) = node head.True [] []
value_term_of (value.Truth false) = node head.False [] []
value_term_of (value.Whole (pos n)) = node (head.Numeral n) [] []
value_term_of (value.Whole (negsuc n)) = node head.Neg [] (node (head.Numeral (suc n)) [] [] ∷ [])
value_term_of (value.Bits w n) = node (head.Bits n) (number (pos w) ∷ []) []

-- the term of some value within the limits
pub record IsValueTerm (t : Tree) : Type 0 where
  pub value : Value
  pub limited : IsLimited value
  pub is : t ≡ value_term_of value

-- the term itself, or an argument of it
abbrev pub IsPartOf : Tree → Tree → Type 0
IsPartOf t u = (u ≡ t) ⊎ ((k : ℕ) × (slice_get (args_of t) k ≡ Some u))

-- no rule and no limit of terms refuses the term or an argument of it, whatever is declared
pub record IsNeverRefused (t : Tree) : Type 0 where
  pub free : (d : Declarations) (u : Tree) → IsPartOf t u → refusal d (head_of u) (indices_of u) (args_of u) ≡ None

-- the declarations stay, and so does each id; what is new is the term or an argument of it
pub record AddsPartsOf (t : Tree) (old new : State) : Type 0 where
  pub declared : new.declared ≡ old.declared
  pub trees : (more : List Tree) × (new.trees ≡ old.trees ++ more) × Each (IsPartOf t) more

-- ---- laws

abbrev pub ValueTermsHaveTheirValue : Type 0
ValueTermsHaveTheirValue = (v : Value) → IsLimited v → evaluation (value_term_of v) ≡ Some (value_item v)

-- of the terms that have a value, one is a value term
abbrev pub OneValueTerm : Type 0
OneValueTerm = (t u : Tree) → IsValueTerm t → IsValueTerm u → evaluation t ≡ evaluation u → t ≡ u
