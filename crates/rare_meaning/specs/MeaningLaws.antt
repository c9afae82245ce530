-- Laws of values, of meaning and of true rewrites.
use Rattle.std.specs.Prelude.{◌≡◌, ◌≢◌, ◌↔◌, ℕ, ℤ, pos, ◌+ℤ◌, ◌*ℤ◌, ◌≤ℤ◌, ◌<ℤ◌, unsigned_abs, IsTrue, List, [], ◌∷◌, ◌++◌, map, Some, slice_get}
use Rattle.rare_linear.specs.Linears.{LinearExpression, linear_value}
use Rattle.rare_linear.specs.declared.constraint.Constraint.{Constraint}
use Rattle.rare_sort.specs.Each.{EachPair}
use Rattle.rare_sort.specs.Trees.{node}
use Rattle.rare_sort.specs.SortOf.{IsTermOf}
use Rattle.rare_sort.specs.declared.declarations.Declarations.{Declarations}
use Rattle.rare_sort.specs.declared.head.Head.{Head}
use Rattle.rare_sort.specs.declared.head.Head.TheVariants as head
use Rattle.rare_sort.specs.declared.sort.Signature.{Signature}
use Rattle.rare_sort.specs.declared.sort.Sort.{Sort}
use Rattle.rare_sort.specs.declared.tree.Tree.{Tree}
use Rattle.rare_meaning.specs.Values.{Value, Array, Entries, ClosedSort, Arrays, value_eq, zero_of, entry_at, written, Fits}
use Rattle.rare_meaning.specs.Settings.{Group, Setting, with_others}
use Rattle.rare_meaning.specs.FiniteMaps.{Maps, FitSymbols, setting_of}
use Rattle.rare_meaning.specs.Interpretations.{IsAllowed, FunctionClass, FiniteMaps, AnyFunctions, Counts, IsModel}
use Rattle.rare_meaning.specs.Splicing.{joined}
use Rattle.rare_meaning.specs.Operators.{quotient_of, remainder_of}
use Rattle.rare_meaning.specs.Meaning.{here, meaning}
use Rattle.rare_meaning.specs.TrueRewrite.{IsTrueRewrite, MeansSame}

-- ---- values

-- the test is true exactly where the values are one
abbrev pub ValueSamenessIsDecided : Type 0
ValueSamenessIsDecided = (v w : Value) → IsTrue (value_eq v w) ↔ (v ≡ w)

abbrev pub ZerosFit : Type 0
ZerosFit = (s : ClosedSort) → Fits (zero_of s) s

-- the axioms of the theory ArraysEx: reading over writing, and arrays with equal entries are one
pub record ArrayAxioms : Type 0 where
  pub read_written : (zero k v : Value) (m : Entries) → entry_at zero k (written zero k v m) ≡ v
  pub read_beside : (zero k q v : Value) (m : Entries) → q ≢ k → entry_at zero q (written zero k v m) ≡ entry_at zero q m
  pub extensional :
      (k s : ClosedSort) (m n : Entries) → Fits (Array m) (Arrays k s) → Fits (Array n) (Arrays k s) →
      ((q : Value) → Fits q k → entry_at (zero_of s) q m ≡ entry_at (zero_of s) q n) → m ≡ n

-- quotient and remainder are the only numbers that the theory Ints allows
pub record IntDivisionLaw : Type 0 where
  pub product : (z w : ℤ → ℤ) (m n : ℤ) → n ≢ pos 0 → m ≡ (n *ℤ quotient_of z m n) +ℤ remainder_of w m n
  pub least : (z : ℤ → ℤ) (m n : ℤ) → n ≢ pos 0 → pos 0 ≤ℤ remainder_of z m n
  pub greatest : (z : ℤ → ℤ) (m n : ℤ) → n ≢ pos 0 → remainder_of z m n <ℤ pos (unsigned_abs n)
  pub only :
      (z w : ℤ → ℤ) (m n q r : ℤ) → n ≢ pos 0 → m ≡ (n *ℤ q) +ℤ r → pos 0 ≤ℤ r → r <ℤ pos (unsigned_abs n) →
      (q ≡ quotient_of z m n) × (r ≡ remainder_of w m n)

-- ---- meaning

-- an application means what its operator makes of what its arguments mean
abbrev pub NodeMeaning : Type 0
NodeMeaning =
    (e : Setting) (h : Head) (ix : List LinearExpression) (ts : List Tree) →
    meaning e (node h ix ts) ≡ here e h (map (linear_value e.number) ix) (joined (map (meaning e) ts))

-- under every operator, arguments that mean the same may be put for one another
abbrev pub Congruence : Type 0
Congruence =
    (e : Setting) (h : Head) (ix : List LinearExpression) (ts us : List Tree) →
    EachPair (λ t u. meaning e t ≡ meaning e u) ts us → meaning e (node h ix ts) ≡ meaning e (node h ix us)

-- what a term of a problem means doesn't depend on what parameters and the hole of a rule stand for
abbrev pub TermsIgnoreParameters : Type 0
TermsIgnoreParameters =
    (d : Declarations) (t : Tree) (s : Sort) → IsTermOf d t s → (e : Setting) (group : ℕ → Group) (hole : Group) →
    meaning (with_others e.number group hole e) t ≡ meaning e t

-- ---- what steps keep

-- to mean the same is an equivalence, is kept under every operator, and makes an equation mean `true`
pub record StepsKeepMeaning (c : FunctionClass) (d : Declarations) : Type 0 where
  pub reflexive : (t : Tree) → MeansSame c d t t
  pub symmetric : (t u : Tree) → MeansSame c d t u → MeansSame c d u t
  pub transitive : (t u v : Tree) → MeansSame c d t u → MeansSame c d u v → MeansSame c d t v
  pub congruent : (h : Head) (ix : List LinearExpression) (ts us : List Tree) → EachPair (MeansSame c d) ts us → MeansSame c d (node h ix ts) (node h ix us)
  pub equation : (t u : Tree) → MeansSame c d t u → MeansSame c d (node head.Equal [] (t ∷ u ∷ [])) (node head.True [] [])

-- what means the same has one value
abbrev pub SameMeaningIsTrue : Type 0
SameMeaningIsTrue = (c : FunctionClass) (d : Declarations) (t u : Tree) → MeansSame c d t u → IsTrueRewrite c d t u

-- terms of one sort that have one value mean the same
abbrev pub TrueIsSameMeaning : Type 0
TrueIsSameMeaning =
    (c : FunctionClass) (d : Declarations) (t u : Tree) (s : Sort) → IsTermOf d t s → IsTermOf d u s → IsTrueRewrite c d t u → MeansSame c d t u

-- ---- which functions count

-- what is true for any functions is true for those of each class
pub record AnyIsEach : Type 0 where
  pub true_rewrites : (c : FunctionClass) (d : Declarations) (t u : Tree) → IsTrueRewrite AnyFunctions d t u → IsTrueRewrite c d t u
  pub same_meanings : (c : FunctionClass) (d : Declarations) (t u : Tree) → MeansSame AnyFunctions d t u → MeansSame c d t u

-- finite maps that fit are an interpretation that counts, at each allowed valuation
abbrev pub MapsAreModels : Type 0
MapsAreModels =
    (d : Declarations) (number : ℕ → ℤ) (m : Maps) → IsAllowed d.constraints number → FitSymbols d.symbols number m →
    IsModel FiniteMaps d (setting_of d.symbols number m)

-- whether functions count doesn't depend on numbers, parameters and hole
abbrev pub CountsElsewhere : Type 0
CountsElsewhere =
    (c : FunctionClass) (e : Setting) (number : ℕ → ℤ) (group : ℕ → Group) (hole : Group) → Counts c e → Counts c (with_others number group hole e)

-- ---- more declarations

-- the second has the symbols of the first under their numbers, and its constraints, and perhaps more
pub record DeclaresMore (old new : Declarations) : Type 0 where
  pub symbols : (k : ℕ) (g : Signature) → slice_get old.symbols k ≡ Some g → slice_get new.symbols k ≡ Some g
  pub constraints : (more : List Constraint) × (new.constraints ≡ old.constraints ++ more)

-- what is true stays so under more declarations and constraints
pub record TruthGrows (c : FunctionClass) (old new : Declarations) : Type 0 where
  pub true_rewrites : (t u : Tree) → IsTrueRewrite c old t u → IsTrueRewrite c new t u
  pub same_meanings : (t u : Tree) → MeansSame c old t u → MeansSame c new t u

abbrev pub MoreDeclaresTruth : Type 0
MoreDeclaresTruth = (c : FunctionClass) (old new : Declarations) → DeclaresMore old new → TruthGrows c old new

-- to declare more is an order
pub record DeclaringIsAnOrder : Type 0 where
  pub reflexive : (d : Declarations) → DeclaresMore d d
  pub transitive : (a b c : Declarations) → DeclaresMore a b → DeclaresMore b c → DeclaresMore a c
