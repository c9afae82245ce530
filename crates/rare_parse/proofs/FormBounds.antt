-- The bounds that a rule's text spells are over its numbers.
use Rattle.std.proofs.Common.{◌≡◌, Bool, true, false, List, [], ◌∷◌, ◌++◌, Ok, refl, sym, ap, ◌∙◌, subst}
use Rattle.std.specs.Prelude.{if◌then◌else◌}
use Rattle.rare_base.specs.declared.answers.Reason.TheVariants as reason
use Rattle.rare_linear.specs.Linears.{LinearExpression}
use Rattle.rare_linear.specs.Entailment.{minus}
use Rattle.rare_linear.specs.declared.constraint.Constraint.{Constraint}
use Rattle.rare_sort.specs.SortRules.{less_one}
use Rattle.rare_sort.proofs.NeedsLemmas.{both, and_both}
use Rattle.rare_sexpr.specs.declared.tree.Sexpr.{Sexpr}
use Rattle.rare_sexpr.specs.Tree.{kind_of, items_of}
use Rattle.rare_scope.specs.ConstraintText.{relation_at, difference, floor, floors, constraint_of, constraints_at}
use Rattle.rare_scope.specs.LinearText.{fitting, linear_at}
use Rattle.rare_scope.specs.Reading.{refused, go_on, is_list_kind}
use Rattle.rare_scope.specs.declared.relation.Relation.{Relation}
use Rattle.rare_scope.specs.declared.relation.Relation.TheVariants.{AtLeast, Above, AtMost, Below, Equal}
use Rattle.rare_scope.proofs.InOrder.{went, same_Ok}
use Rattle.rare_rule.specs.ParamForms.{all_are_numbers, are_bounds}
use Rattle.rare_rule.specs.declared.param.Param.{Param}
use Rattle.rare_parse.specs.RuleNames.{rule_widths}
use Rattle.rare_parse.specs.RuleText.{bounds_of, floors_from, bounds_at}
use Rattle.rare_parse.proofs.FormNumbers.{IsOver, fitting_over, minus_over, less_one_over, linear_over}
use Rattle.rare_parse.proofs.FormSorts.{AreAmong, widths_fine}

module _ (ps : List Param) where
  -- the expressions are over numbers
  abbrev AreOver : List LinearExpression → Type 0
  AreOver es = all_are_numbers ps es ≡ true

  over-append : (es fs : List LinearExpression) → AreOver es → AreOver fs → AreOver (es ++ fs)
  over-append [] fs g h = h
  over-append (e ∷ es) fs g h = let x = both _ _ g in and_both _ _ x.0 (over-append es fs x.1 h)

  bounds_over : (es : List LinearExpression) → AreOver es → are_bounds ps (bounds_of es) ≡ true
  bounds_over [] h = refl
  bounds_over (e ∷ es) h = let x = both _ _ h in and_both _ _ x.0 (bounds_over es x.1)

  -- ---- a constraint

  difference_over : (e : Sexpr) (a b r : LinearExpression) → IsOver ps a → IsOver ps b → difference e a b ≡ Ok r → IsOver ps r
  difference_over e a b r g h is = fitting_over ps e (minus a b) r is (minus_over ps a b g h)

  strict_over : (e : Sexpr) (a b r : LinearExpression) → IsOver ps a → IsOver ps b → go_on (difference e a b) (λ d. fitting e (less_one d)) ≡ Ok r → IsOver ps r
  strict_over e a b r g h is =
      let d = went (difference e a b) (λ d. fitting e (less_one d)) r is in
      fitting_over ps e (less_one d.0) r d.2 (less_one_over ps d.0 (difference_over e a b d.0 g h d.1))

  floor_over : (e : Sexpr) (a b r : LinearExpression) (o : Relation) → IsOver ps a → IsOver ps b → floor e a b o ≡ Ok r → IsOver ps r
  floor_over e a b r AtLeast g h is = difference_over e a b r g h is
  floor_over e a b r Above g h is = strict_over e a b r g h is
  floor_over e a b r AtMost g h is = difference_over e b a r h g is
  floor_over e a b r Below g h is = strict_over e b a r h g is
  floor_over e a b r Equal g h is = difference_over e a b r g h is

  one_floor : (e : Sexpr) (a b : LinearExpression) (o : Relation) (fs : List LinearExpression) → IsOver ps a → IsOver ps b → go_on (floor e a b o) (λ d. Ok (d ∷ [])) ≡ Ok fs → AreOver fs
  one_floor e a b o fs g h is =
      let d = went (floor e a b o) (λ d. Ok (d ∷ [])) fs is in
      subst AreOver (same_Ok (d.0 ∷ []) fs d.2) (and_both _ _ (floor_over e a b d.0 o g h d.1) refl)

  two_floors : (e : Sexpr) (a b : LinearExpression) (fs : List LinearExpression) → IsOver ps a → IsOver ps b → floors e a b Equal ≡ Ok fs → AreOver fs
  two_floors e a b fs g h is =
      let d = went (difference e a b) (λ d. go_on (difference e b a) (λ f. Ok (d ∷ f ∷ []))) fs is in
      let f = went (difference e b a) (λ f. Ok (d.0 ∷ f ∷ [])) fs d.2 in
      subst AreOver (same_Ok (d.0 ∷ f.0 ∷ []) fs f.2)
      (and_both _ _ (difference_over e a b d.0 g h d.1) (and_both _ _ (difference_over e b a f.0 h g f.1) refl))

  floors_over : (e : Sexpr) (a b : LinearExpression) (o : Relation) (fs : List LinearExpression) → IsOver ps a → IsOver ps b → floors e a b o ≡ Ok fs → AreOver fs
  floors_over e a b Equal fs g h is = two_floors e a b fs g h is
  floors_over e a b o fs g h is = one_floor e a b o fs g h is

module _ (ps : List Param) (among : AreAmong ps ps) where
  -- what an expression of the rule reads as
  pub expression_over : (e : Sexpr) (l : LinearExpression) → linear_at (rule_widths ps) e ≡ Ok l → IsOver ps l
  expression_over e l is = linear_over ps (rule_widths ps) (widths_fine ps ps among) e l is

  three_over : (e h x y : Sexpr) (fs : List LinearExpression) → constraint_of (rule_widths ps) e (h ∷ x ∷ y ∷ []) ≡ Ok fs → AreOver ps fs
  three_over e h x y fs is =
      let r = went (relation_at h) (λ r. go_on (linear_at (rule_widths ps) x) (λ a. go_on (linear_at (rule_widths ps) y) (λ b. floors e a b r))) fs is in
      let a = went (linear_at (rule_widths ps) x) (λ a. go_on (linear_at (rule_widths ps) y) (λ b. floors e a b r.0)) fs r.2 in
      let b = went (linear_at (rule_widths ps) y) (λ b. floors e a.0 b r.0) fs a.2 in
      floors_over ps e a.0 b.0 r.0 fs (expression_over x a.0 a.1) (expression_over y b.0 b.1) b.2

  items_over : (e : Sexpr) (xs : List Sexpr) (fs : List LinearExpression) → constraint_of (rule_widths ps) e xs ≡ Ok fs → AreOver ps fs
  items_over e (h ∷ x ∷ y ∷ []) fs is = three_over e h x y fs is
  items_over e xs fs is = absurd cc

  -- ---- all constraints

  from_over : (done : List LinearExpression) (xs : List Sexpr) (fs : List LinearExpression) → AreOver ps done → floors_from ps done xs ≡ Ok fs → AreOver ps fs
  from_over done [] fs h is = subst (AreOver ps) (same_Ok done fs is) h
  from_over done (x ∷ xs) fs h is =
      let f = went (constraints_at (rule_widths ps) x) (λ f. floors_from ps (done ++ f) xs) fs is in
      from_over (done ++ f.0) xs fs (over-append ps done f.0 h (items_over x (items_of x) f.0 f.1)) f.2

  list_fine : (e : Sexpr) (bs : List Constraint) → go_on (floors_from ps [] (items_of e)) (λ fs. Ok (bounds_of fs)) ≡ Ok bs → are_bounds ps bs ≡ true
  list_fine e bs is =
      let fs = went (floors_from ps [] (items_of e)) (λ fs. Ok (bounds_of fs)) bs is in
      ap (are_bounds ps) (sym (same_Ok (bounds_of fs.0) bs fs.2)) ∙ bounds_over ps fs.0 (from_over [] (items_of e) fs.0 refl fs.1)

  pub bounds_fine : (e : Sexpr) (bs : List Constraint) → bounds_at ps e ≡ Ok bs → are_bounds ps bs ≡ true
  bounds_fine e bs is = go (is_list_kind (kind_of e)) is
    where
      go : (b : Bool) → (if b then go_on (floors_from ps [] (items_of e)) (λ fs. Ok (bounds_of fs)) else refused e reason.BadForm) ≡ Ok bs → are_bounds ps bs ≡ true
      go true is = list_fine e bs is
      go false is = absurd cc
