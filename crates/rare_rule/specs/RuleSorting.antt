-- How a rule types: the sorts of its parts, and the constraints that it asks for (well-sorted terms of SMT-LIB 2.6, with the widths of
-- a rule as linear expressions; the RARE paper, FMCAD 2022, for rules over all widths). Left, right and context in the order of a rule.
use Rattle.std.specs.Prelude.{◌≡◌, ℕ, ℤ, List, [], ◌∷◌, ◌++◌, ◌||◌, if◌then◌else◌, map, Option, Some, None, Bool as Test, true, ◌&&◌, IsTrue}
use Rattle.std.specs.List.{list_any}
use Rattle.std.specs.Option.{option_and_then}
use Rattle.rare_linear.specs.Linears.{LinearExpression}
use Rattle.rare_linear.specs.EntailmentTest.{is_entailed, has_part}
use Rattle.rare_linear.specs.declared.constraint.Constraint.{Constraint}
use Rattle.rare_sort.specs.Each.{Each}
use Rattle.rare_sort.specs.Sameness.{linear_eq}
use Rattle.rare_sort.specs.SortRules.{width_needs}
use Rattle.rare_sort.specs.Sorting.{Place, One, Many, Wide, Sorting, Scope, IsShaped}
use Rattle.rare_sort.specs.declared.sort.Sort.{Sort, Bool}
use Rattle.rare_sort.specs.declared.tree.Tree.{Tree}
use Rattle.rare_rule.specs.Params.{kind_at, rule_lows}
use Rattle.rare_rule.specs.declared.param.Param.{Param}
use Rattle.rare_rule.specs.declared.param.ParamKind.{ParamKind}
use Rattle.rare_rule.specs.declared.param.ParamKind.TheVariants as kind
use Rattle.rare_rule.specs.declared.rule.Rule.{Rule}

-- ---- sorts of the parts

abbrev pub sorting_of : Place → List LinearExpression → Sorting
sorting_of p ns = record { place = p; alike = []; needs = ns }

-- an occurrence of a parameter asks for the widths in its sort
abbrev pub kind_sorting : ℕ → ParamKind → Option Sorting
kind_sorting k (kind.Term s) = Some (sorting_of (One s) (width_needs s))
kind_sorting k (kind.List s) = Some (sorting_of (Many s k) (width_needs s))
kind_sorting k kind.WideList = Some (sorting_of (Wide k) [])
kind_sorting k _ = None

-- a rule has no symbols of a problem, and the width of an application asks for nothing
abbrev pub rule_scope : List Param → Option Sorting → Scope
rule_scope ps hole = record {
  symbols = λ k. None;
  params = λ k. option_and_then (kind_sorting k) (kind_at ps k);
  hole = hole;
  own = λ s. [];
}

-- a part of the rule that is not its context has this sort
abbrev pub TypesAs : Rule → Tree → Sort → Type 0
TypesAs r t s = IsShaped (rule_scope r.params None) t s

-- the context with a hole of the rule's sort has that sort
abbrev pub FitsContext : Rule → Option Tree → Sort → Type 0
FitsContext r None s = Unit {0}
FitsContext r (Some t) s = IsShaped (rule_scope r.params (Some (sorting_of (One s) []))) t s

-- left, right, hole and context have one sort, and premises are truths
pub record IsTyped (r : Rule) : Type 0 where
  pub sort : Sort
  pub left : TypesAs r r.left sort
  pub right : TypesAs r r.right sort
  pub context : FitsContext r r.context sort
  pub premises : Each (λ p. TypesAs r p Bool) r.premises

-- ---- constraints

-- what a list of premises asks for
abbrev pub premise_needs : (r : Rule) → (ps : List Tree) → Each (λ p. TypesAs r p Bool) ps → List LinearExpression
premise_needs r [] h = []
premise_needs r (p ∷ ps) h = h.0.needs ++ premise_needs r ps h.1

abbrev pub context_needs : (r : Rule) → (c : Option Tree) → (s : Sort) → FitsContext r c s → List LinearExpression
context_needs r None s h = []
context_needs r (Some t) s h = h.needs

-- all that a rule asks to be at least 0, in order: bounds, left, premises, right, context
abbrev pub rule_needs : (r : Rule) → IsTyped r → List LinearExpression
rule_needs r h =
    map (λ c. c.floor) r.bounds
    ++ (h.left.needs ++ (premise_needs r r.premises h.premises ++ (h.right.needs ++ context_needs r r.context h.sort h.context)))

abbrev pub at_least_zero : LinearExpression → Constraint
at_least_zero e = record { floor = e }

-- the constraints that are left where those that follow from none, and those that stood before, are left out
abbrev pub constraints_after : (lows : ℕ → ℤ) → (before : List LinearExpression) → List LinearExpression → List Constraint
constraints_after lows before [] = []
constraints_after lows before (e ∷ es) =
    if is_entailed lows [] e || list_any (linear_eq e) before
    then (constraints_after lows before es)
    else (at_least_zero e ∷ constraints_after lows (e ∷ before) es)

-- each has a name: one without a name that doesn't follow from none never holds
abbrev pub all_have_names : List Constraint → Test
all_have_names [] = true
all_have_names (c ∷ cs) = has_part c.floor.parts && all_have_names cs

-- the rule types, and its typing gives these constraints, none of which never holds
pub record Types (r : Rule) (constraints : List Constraint) : Type 0 where
  pub typed : IsTyped r
  pub same : constraints ≡ constraints_after (rule_lows r.params) [] (rule_needs r typed)
  pub possible : IsTrue (all_have_names constraints)
