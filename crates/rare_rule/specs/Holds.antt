-- What it is that a rule holds: at each valuation that counts, where its premises are true, both sides have one value (the RARE paper,
-- FMCAD 2022, on the soundness of a rule; SMT-LIB 2.6, section on structures and satisfiability, for values).
use Rattle.std.specs.Prelude.{◌≡◌, ◌≢◌, ℕ, suc, ◌+◌, pos, ◌≤◌, ◌≤ℤ◌, Bool, true, false, ◌||◌, List, [], ◌∷◌, All, map, length, ⊤, Option, Some, None}
use Rattle.rare_linear.specs.Linears.{linear_value}
use Rattle.rare_linear.specs.declared.constraint.Constraint.{Constraint}
use Rattle.rare_sort.specs.Each.{Each}
use Rattle.rare_sort.specs.Sorting.{is_concat}
use Rattle.rare_sort.specs.Trees.{head_of}
use Rattle.rare_sort.specs.declared.tree.Tree.{Tree, Tree-F, every-Tree}
use Rattle.rare_meaning.specs.Values.{Truth, ClosedSort, Truths, Wholes, BitVectors, Elements, Arrays, width_of}
use Rattle.rare_meaning.specs.ClosedSorts.{closed_sort}
use Rattle.rare_meaning.specs.Settings.{Item, Group, Setting, one}
use Rattle.rare_meaning.specs.Splicing.{joined, values}
use Rattle.rare_meaning.specs.Meaning.{meaning}
use Rattle.rare_meaning.specs.Fitting.{IsOf}
use Rattle.rare_meaning.specs.Interpretations.{FunctionClass, Counts}
use Rattle.rare_rule.specs.Params.{is_list_head}
use Rattle.rare_rule.specs.declared.param.Param.{Param}
use Rattle.rare_rule.specs.declared.param.ParamKind.{ParamKind}
use Rattle.rare_rule.specs.declared.param.ParamKind.TheVariants as kind
use Rattle.rare_rule.specs.declared.rule.Rule.{Rule}

-- ---- what the parameters stand for

-- each width in it is at least 1
abbrev pub HasWidths : ClosedSort → Type 0
HasWidths Truths = ⊤
HasWidths Wholes = ⊤
HasWidths (BitVectors n) = 1 ≤ n
HasWidths (Elements s) = ⊤
HasWidths (Arrays k e) = HasWidths k × HasWidths e

pub record IsOneOf (s : ClosedSort) (g : Group) : Type 0 where
  pub only : (i : Item) × (g ≡ one i) × IsOf s i

pub record IsListOf (s : ClosedSort) (g : Group) : Type 0 where
  pub element : g.element ≡ s
  pub each : All (IsOf s) g.items

-- a bit vector of some width
pub record IsBitVector (i : Item) : Type 0 where
  pub width : ℕ
  pub least : 1 ≤ width
  pub is : IsOf (BitVectors width) i

-- the sum of the widths, where what is no bit vector has width 0
abbrev pub total_width : List Item → ℕ
total_width [] = 0
total_width (i ∷ is) = width_of i.sort + total_width is

-- the setting gives parameter k what its kind asks for; a constant ranges over all values of its sort
abbrev pub SuitsKind : (names : ℕ → ClosedSort) → Setting → ℕ → ParamKind → Type 0
SuitsKind names e k kind.SortName = HasWidths (names k)
SuitsKind names e k kind.Width = pos 1 ≤ℤ e.number k
SuitsKind names e k kind.Index = pos 0 ≤ℤ e.number k
SuitsKind names e k (kind.Term s) = IsOneOf (closed_sort e.number names s) (e.group k)
SuitsKind names e k (kind.List s) =
    IsListOf (closed_sort e.number names s) (e.group k) × (e.number k ≡ pos (total_width (e.group k).items))
SuitsKind names e k kind.WideList = All IsBitVector (e.group k).items × (e.number k ≡ pos (total_width (e.group k).items))

abbrev pub SuitAll : (names : ℕ → ClosedSort) → Setting → ℕ → List Param → Type 0
SuitAll names e k [] = ⊤
SuitAll names e k (p ∷ ps) = SuitsKind names e k p.kind × SuitAll names e (suc k) ps

-- ---- lengths of lists

-- some argument is a list variable
abbrev pub has_list : List Param → List Tree → Bool
has_list ps [] = false
has_list ps (t ∷ ts) = is_list_head ps (head_of t) || has_list ps ts

abbrev pub IsLongAt : List Param → Setting → Tree-F Tree → Type 0
IsLongAt ps e x = has_list ps x.args ≡ true → 2 ≤ length (joined (map (meaning e) x.args)).items

-- each application that has list variables has at least two arguments
unfoldable pub IsLong : List Param → Setting → Tree → Type 0
IsLong ps e = every-Tree (IsLongAt ps e)

abbrev pub IsJoinedAt : Setting → Tree-F Tree → Type 0
IsJoinedAt e x = is_concat x.head ≡ true → (joined (map (meaning e) x.args)).items ≢ []

-- no `concat` is without arguments
unfoldable pub IsJoined : Setting → Tree → Type 0
IsJoined e = every-Tree (IsJoinedAt e)

-- ---- rules

-- the setting with the right side in the hole
abbrev pub at_right : Setting → Rule → Setting
at_right e r = record e { hole = meaning e r.right }

abbrev pub JoinsContext : Setting → Rule → Option Tree → Type 0
JoinsContext e r None = Unit {0}
JoinsContext e r (Some t) = IsJoined (at_right e r) t

-- the valuation counts for the rule
pub record DoesCount (r : Rule) (constraints : List Constraint) (names : ℕ → ClosedSort) (e : Setting) : Type 0 where
  pub suits : SuitAll names e 0 r.params
  pub hold : Each (λ c. pos 0 ≤ℤ linear_value e.number c.floor) constraints
  pub long : IsLong r.params e r.left
  pub left : IsJoined e r.left
  pub premises : Each (IsJoined e) r.premises
  pub right : IsJoined e r.right
  pub context : JoinsContext e r r.context

abbrev pub AreTrue : Setting → List Tree → Type 0
AreTrue e [] = ⊤
AreTrue e (t ∷ ts) = (values (meaning e t).items ≡ Truth true ∷ []) × AreTrue e ts

-- the right side, or the context with the right side in its hole
abbrev pub result_meaning : Setting → Rule → Option Tree → Group
result_meaning e r None = meaning e r.right
result_meaning e r (Some t) = meaning (at_right e r) t

-- both sides have one value at each valuation that counts, and by each function of the class, where the premises are true
pub record Holds (c : FunctionClass) (r : Rule) (constraints : List Constraint) : Type 0 where
  pub same :
      (e : Setting) (names : ℕ → ClosedSort) → Counts c e → DoesCount r constraints names e → AreTrue e r.premises →
      values (meaning e r.left).items ≡ values (result_meaning e r r.context).items
