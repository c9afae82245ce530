-- The constraints on widths that an expression spells, each kept as an expression that is at least 0.
use Rattle.std.specs.Prelude.{ℕ, List, [], ◌∷◌, codes, Option, Some, None, if◌then◌else◌, Result, Ok, IfOk, All}
use Rattle.rare_base.specs.declared.answers.Reason.TheVariants as reason
use Rattle.rare_sexpr.specs.declared.tree.Sexpr.{Sexpr}
use Rattle.rare_sexpr.specs.Tree.{kind_of, text_of, items_of}
use Rattle.rare_linear.specs.Linears.{LinearExpression, NamesBelow}
use Rattle.rare_linear.specs.Entailment.{minus}
use Rattle.rare_sort.specs.SortRules.{less_one}
use Rattle.rare_scope.specs.declared.relation.Relation.{Relation}
use Rattle.rare_scope.specs.declared.relation.Relation.TheVariants.{AtLeast, Above, AtMost, Below, Equal}
use Rattle.rare_scope.specs.Reading.{Read, refused, go_on, is_symbol_kind}
use Rattle.rare_scope.specs.Entries.{entry}
use Rattle.rare_scope.specs.LinearText.{WidthNames, AreBelow, fitting, linear_at}

abbrev pub relations : List (List ℕ × Relation)
relations = (codes ">=", AtLeast) ∷ (codes ">", Above) ∷ (codes "<=", AtMost) ∷ (codes "<", Below) ∷ (codes "=", Equal) ∷ []

abbrev pub relation_or : Sexpr → Option Relation → Read Relation
relation_or h (Some r) = Ok r
relation_or h None = refused h reason.BadForm

abbrev pub relation_at : Sexpr → Read Relation
relation_at h = relation_or h (if is_symbol_kind (kind_of h) then entry relations (text_of h) else None)

-- the first less the second, where it is within i128; else the constraint is refused
abbrev pub difference : Sexpr → LinearExpression → LinearExpression → Read LinearExpression
difference e a b = fitting e (minus a b)

-- what is at least 0 where the relation holds; of an equation the first of two
abbrev pub floor : Sexpr → LinearExpression → LinearExpression → Relation → Read LinearExpression
floor e a b AtLeast = difference e a b
floor e a b Above = go_on (difference e a b) (λ d. fitting e (less_one d))
floor e a b AtMost = difference e b a
floor e a b Below = go_on (difference e b a) (λ d. fitting e (less_one d))
floor e a b Equal = difference e a b

abbrev pub floors : Sexpr → LinearExpression → LinearExpression → Relation → Read (List LinearExpression)
floors e a b Equal = go_on (difference e a b) (λ d. go_on (difference e b a) (λ f. Ok (d ∷ f ∷ [])))
floors e a b r = go_on (floor e a b r) (λ d. Ok (d ∷ []))

abbrev pub constraint_of : WidthNames → Sexpr → List Sexpr → Read (List LinearExpression)
constraint_of w e (h ∷ x ∷ y ∷ []) = go_on (relation_at h) (λ r. go_on (linear_at w x) (λ a. go_on (linear_at w y) (λ b. floors e a b r)))
constraint_of w e xs = refused e reason.BadForm

-- the expressions that a constraint says are at least 0, or its first fault: one, and two of an equation
abbrev pub constraints_at : WidthNames → Sexpr → Read (List LinearExpression)
constraints_at w e = constraint_of w e (items_of e)

-- the names of what was read are below each bound that the numbers of the names are below
abbrev pub AllFloorsNamed : {F : Type 0} → WidthNames → Result (List LinearExpression) F → Type 0
AllFloorsNamed w result = (n : ℕ) → AreBelow n w → IfOk result (λ fs. All (λ f. NamesBelow n f.parts) fs)
