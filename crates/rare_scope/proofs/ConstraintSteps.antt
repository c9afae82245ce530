-- The steps of a reading of a constraint, and the names of what it reads as.
use Rattle.std.proofs.Common.{◌≡◌, ℕ, zero, suc, ◌<◌, ◌≤◌, Bool, true, false, List, [], ◌∷◌, length, slice_get, Some, Result, Ok, Err, IfOk, All, refl, sym, ap, ◌∙◌, subst, arith}
use Rattle.std.specs.Prelude.{pos, negsuc}
use Rattle.std.proofs.lemmas.List.Elements.{All-cons}
use Rattle.std.proofs.lemmas.Option.{none-some, same_Some}
use Rattle.rare_base.specs.declared.answers.Fault.{Fault}
use Rattle.rare_base.specs.declared.answers.Reason.TheVariants as reason
use Rattle.rare_linear.specs.Linears.{LinearExpression, NamesBelow, number, add, scale}
use Rattle.rare_linear.specs.Entailment.{minus}
use Rattle.rare_linear.proofs.Names.{NamesBelow-add, NamesBelow-scale}
use Rattle.rare_sexpr.specs.declared.tree.Sexpr.{Sexpr}
use Rattle.rare_sexpr.specs.Tree.{items_of}
use Rattle.rare_sort.specs.SortRules.{less_one}
use Rattle.rare_scope.specs.declared.relation.Relation.{Relation}
use Rattle.rare_scope.specs.declared.relation.Relation.TheVariants.{AtLeast, Above, AtMost, Below, Equal}
use Rattle.rare_scope.specs.Reading.{Read, refused, go_on}
use Rattle.rare_scope.specs.Answers.{Answers}
use Rattle.rare_scope.specs.LinearText.{WidthNames, AreBelow, fitting, linear_at}
use Rattle.rare_scope.specs.ConstraintText.{relation_at, difference, floor, floors, constraint_of, constraints_at, AllFloorsNamed}
use Rattle.rare_scope.proofs.InOrder.{went, same_Ok}
use Rattle.rare_scope.proofs.Naming.{fitting_is, linear_named}

other : (w : WidthNames) (e : Sexpr) (xs : List Sexpr) → ¬ (length xs ≡ 3) → constraint_of w e xs ≡ refused e reason.BadForm
other w e [] ne = refl
other w e (a ∷ []) ne = refl
other w e (a ∷ b ∷ []) ne = refl
other w e (a ∷ b ∷ c ∷ []) ne = absurd (ne refl)
other w e (a ∷ b ∷ c ∷ d ∷ xs) ne = refl

pub other_form : (w : WidthNames) (e : Sexpr) → ¬ (length (items_of e) ≡ 3) → constraints_at w e ≡ refused e reason.BadForm
other_form w e ne = other w e (items_of e) ne

three : (w : WidthNames) (e h x y : Sexpr) (xs : List Sexpr) → length xs ≡ 3 → slice_get xs 0 ≡ Some h → slice_get xs 1 ≡ Some x → slice_get xs 2 ≡ Some y →
    constraint_of w e xs ≡ go_on (relation_at h) (λ r. go_on (linear_at w x) (λ a. go_on (linear_at w y) (λ b. floors e a b r)))
three w e h x y [] len p q r = absurd (none-some h p)
three w e h x y (a ∷ []) len p q r = absurd (none-some x q)
three w e h x y (a ∷ b ∷ []) len p q r = absurd (none-some y r)
three w e h x y (a ∷ b ∷ c ∷ []) len p q r =
    ap (λ z. go_on (relation_at z) (λ r. go_on (linear_at w b) (λ l. go_on (linear_at w c) (λ m. floors e l m r)))) (same_Some a h p)
    ∙ ap (λ z. go_on (relation_at h) (λ r. go_on (linear_at w z) (λ l. go_on (linear_at w c) (λ m. floors e l m r)))) (same_Some b x q)
    ∙ ap (λ z. go_on (relation_at h) (λ r. go_on (linear_at w x) (λ l. go_on (linear_at w z) (λ m. floors e l m r)))) (same_Some c y r)
three w e h x y (a ∷ b ∷ c ∷ d ∷ xs) len p q r = absurd (omega (arith, len))

pub three_read : (w : WidthNames) (e h x y : Sexpr) → length (items_of e) ≡ 3 → slice_get (items_of e) 0 ≡ Some h → slice_get (items_of e) 1 ≡ Some x → slice_get (items_of e) 2 ≡ Some y →
    constraints_at w e ≡ go_on (relation_at h) (λ r. go_on (linear_at w x) (λ a. go_on (linear_at w y) (λ b. floors e a b r)))
three_read w e h x y len p q r = three w e h x y (items_of e) len p q r

-- ---- names

module _ (n : ℕ) where
  abbrev Named : LinearExpression → Type 0
  Named l = NamesBelow n l.parts

  minus_named : (a b : LinearExpression) → Named a → Named b → Named (minus a b)
  minus_named a b ha hb = NamesBelow-add n a (scale (negsuc 0) b) ha (NamesBelow-scale n (negsuc 0) b hb)

  difference_named : (e : Sexpr) (a b d : LinearExpression) → Named a → Named b → difference e a b ≡ Ok d → Named d
  difference_named e a b d ha hb is = subst Named (fitting_is e (minus a b) d is) (minus_named a b ha hb)

  strict_named : (e : Sexpr) (a b d : LinearExpression) → Named a → Named b → go_on (difference e a b) (λ d. fitting e (less_one d)) ≡ Ok d → Named d
  strict_named e a b d ha hb is =
      let first = went (difference e a b) (λ d. fitting e (less_one d)) d is in
      difference_named e first.0 (number (pos 1)) d (difference_named e a b first.0 ha hb first.1) tt first.2

  floor_named : (e : Sexpr) (a b d : LinearExpression) (r : Relation) → Named a → Named b → floor e a b r ≡ Ok d → Named d
  floor_named e a b d AtLeast ha hb is = difference_named e a b d ha hb is
  floor_named e a b d Above ha hb is = strict_named e a b d ha hb is
  floor_named e a b d AtMost ha hb is = difference_named e b a d hb ha is
  floor_named e a b d Below ha hb is = strict_named e b a d hb ha is
  floor_named e a b d Equal ha hb is = difference_named e a b d ha hb is

  no_names : All Named []
  no_names k d lt = absurd (omega (arith, lt))

  one_named : (d : LinearExpression) (fs : List LinearExpression) → Named d → ◌≡◌ {A = Read (List LinearExpression)} (Ok (d ∷ [])) (Ok fs) → All Named fs
  one_named d fs h is = subst (λ (xs : List LinearExpression). All Named xs) (same_Ok (d ∷ []) fs is) (All-cons Named d [] h no_names)

  two_named : (d f : LinearExpression) (fs : List LinearExpression) → Named d → Named f → ◌≡◌ {A = Read (List LinearExpression)} (Ok (d ∷ f ∷ [])) (Ok fs) → All Named fs
  two_named d f fs hd hf is = subst (λ (xs : List LinearExpression). All Named xs) (same_Ok (d ∷ f ∷ []) fs is) (All-cons Named d (f ∷ []) hd (All-cons Named f [] hf no_names))

  single_named : (e : Sexpr) (a b : LinearExpression) (r : Relation) (fs : List LinearExpression) → Named a → Named b → go_on (floor e a b r) (λ d. Ok (d ∷ [])) ≡ Ok fs → All Named fs
  single_named e a b r fs ha hb is =
      let first = went (floor e a b r) (λ d. Ok (d ∷ [])) fs is in
      one_named first.0 fs (floor_named e a b first.0 r ha hb first.1) first.2

  all_floors : (e : Sexpr) (a b : LinearExpression) (r : Relation) (fs : List LinearExpression) → Named a → Named b → floors e a b r ≡ Ok fs → All Named fs
  all_floors e a b AtLeast fs ha hb is = single_named e a b AtLeast fs ha hb is
  all_floors e a b Above fs ha hb is = single_named e a b Above fs ha hb is
  all_floors e a b AtMost fs ha hb is = single_named e a b AtMost fs ha hb is
  all_floors e a b Below fs ha hb is = single_named e a b Below fs ha hb is
  all_floors e a b Equal fs ha hb is =
      let first = went (difference e a b) (λ d. go_on (difference e b a) (λ f. Ok (d ∷ f ∷ []))) fs is in
      let second = went (difference e b a) (λ f. Ok (first.0 ∷ f ∷ [])) fs first.2 in
      two_named first.0 second.0 fs (difference_named e a b first.0 ha hb first.1) (difference_named e b a second.0 hb ha second.1) second.2

  constraint_named : (w : WidthNames) → AreBelow n w → (e : Sexpr) (xs : List Sexpr) (fs : List LinearExpression) → constraint_of w e xs ≡ Ok fs → All Named fs
  constraint_named w below e (h ∷ x ∷ y ∷ []) fs is =
      let r = went (relation_at h) (λ r. go_on (linear_at w x) (λ a. go_on (linear_at w y) (λ b. floors e a b r))) fs is in
      let a = went (linear_at w x) (λ a. go_on (linear_at w y) (λ b. floors e a b r.0)) fs r.2 in
      let b = went (linear_at w y) (λ b. floors e a.0 b r.0) fs a.2 in
      all_floors e a.0 b.0 r.0 fs (linear_named w n below x a.0 a.1) (linear_named w n below y b.0 b.1) b.2
  constraint_named w below e xs fs is = absurd cc

named_by : (w : WidthNames) (e : Sexpr) (result : Result (List LinearExpression) Fault) → Answers result (constraints_at w e) → (n : ℕ) → AreBelow n w → IfOk result (λ fs. All (λ f. NamesBelow n f.parts) fs)
named_by w e (Ok fs) is n below = constraint_named n w below e (items_of e) fs is
named_by w e (Err f) is n below = tt

pub floors_named : (w : WidthNames) (e : Sexpr) (result : Result (List LinearExpression) Fault) → Answers result (constraints_at w e) → AllFloorsNamed w result
floors_named w e result is n below = named_by w e result is n below
