-- The settings in which the terms of a problem have values: its valuations and interpretations (SMT-LIB 2.6, section on structures
-- and satisfiability).
use Rattle.std.specs.Prelude.{◌≡◌, ℕ, ℤ, pos, ◌≤ℤ◌, List, Some, slice_get, ⊤}
use Rattle.rare_linear.specs.Entailment.{AllHold}
use Rattle.rare_linear.specs.declared.constraint.Constraint.{Constraint}
use Rattle.rare_sort.specs.Each.{EachPair}
use Rattle.rare_sort.specs.declared.declarations.Declarations.{Declarations}
use Rattle.rare_sort.specs.declared.sort.Signature.{Signature}
use Rattle.rare_meaning.specs.Values.{Value, Fits}
use Rattle.rare_meaning.specs.Settings.{Item, Setting, one, sort_in, sorts_in}
use Rattle.rare_meaning.specs.FiniteMaps.{Maps, IsReadFrom}

-- ---- valuations

-- each width is at least 1, and the constraints hold
pub record IsAllowed (constraints : List Constraint) (number : ℕ → ℤ) : Type 0 where
  pub widths : (k : ℕ) → pos 1 ≤ℤ number k
  pub hold : AllHold number constraints

-- ---- symbols

-- the symbol has its sort, and where its arguments are of theirs, its value is of it
pub record IsInterpreted (e : Setting) (k : ℕ) (g : Signature) : Type 0 where
  pub sort : e.symbol_sort k ≡ sort_in e g.gives
  pub value : (vs : List Value) → EachPair Fits vs (sorts_in e g.args) → Fits (e.symbol_value k vs) (sort_in e g.gives)

-- each declared symbol is interpreted
abbrev pub AreInterpreted : List Signature → Setting → Type 0
AreInterpreted symbols e = (k : ℕ) (g : Signature) → slice_get symbols k ≡ Some g → IsInterpreted e k g

-- ---- the settings that count

-- which functions count: those that are finite maps, or all
pub data FunctionClass : Type 0 where
  FiniteMaps : FunctionClass
  AnyFunctions : FunctionClass

abbrev pub Counts : FunctionClass → Setting → Type 0
Counts FiniteMaps e = (m : Maps) × IsReadFrom m e
Counts AnyFunctions e = ⊤

-- in a problem nothing is a list: what the parameters of a rule and its hole would stand for is one item each
pub record HasNoList (e : Setting) : Type 0 where
  pub groups : (k : ℕ) → (i : Item) × (e.group k ≡ one i)
  pub hole : (i : Item) × (e.hole ≡ one i)

-- an allowed valuation and an interpretation of what is declared, by functions that count
pub record IsModel (c : FunctionClass) (d : Declarations) (e : Setting) : Type 0 where
  pub allowed : IsAllowed d.constraints e.number
  pub interpreted : AreInterpreted d.symbols e
  pub counts : Counts c e
  pub single : HasNoList e
