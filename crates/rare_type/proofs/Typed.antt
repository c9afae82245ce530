-- How answers go on.
use Rattle.std.proofs.Common.{◌≡◌, Bool, true, false, not, ◌&&◌, List, [], ◌∷◌, ◌++◌, Result, Ok, Err, refl, sym, ap, ◌∙◌, subst}
use Rattle.rare_linear.specs.Linears.{LinearExpression}
use Rattle.rare_linear.specs.EntailmentTest.{is_within}
use Rattle.rare_linear.specs.PartialSums.{IsWithin}
use Rattle.rare_linear.proofs.EntailmentTestLemmas.{is_within-Decides}
use Rattle.rare_sort.specs.Rulings.{all_within}
use Rattle.rare_sort.specs.SortRules.{width_needs}
use Rattle.rare_sort.specs.declared.sort.Sort.{Sort}
use Rattle.rare_sort.specs.declared.sort.Sort.TheViews.{Array}
use Rattle.rare_sort.specs.declared.sort.Sort.TheBlock.{hidden-the_row-Sort-0}
use denote.Hole.Carrier
use Rattle.rare_type.specs.FirstCase.{Typing, and_then, unless}
use Rattle.rare_type.specs.declared.error.TypeError.{TypeError}
use Rattle.rare_type.specs.declared.error.TypeError.TheVariants as case
use Rattle.rare_type.specs.inner.Answering.{AnswersAs}
use Rattle.rare_type.specs.inner.Steps.{bounded, all_bounded}

-- a case that is the first of one typing is the first of another that goes on from it
pub passes : {A B C D : Type 0} (view : A → B) (other : C → D) (t : Typing B) (u : Typing D) (e : TypeError) →
    AnswersAs view t (Err e) → ((k : TypeError) → t ≡ Err k → u ≡ Err k) → AnswersAs other u (Err e)
passes view other t u case.Clash h f = f _ h
passes view other t u case.NonLinear h f = f _ h
passes view other t u case.TooLarge h f = f _ h
passes view other t u case.NeverHolds h f = f _ h
passes view other t u case.Memory h f = tt

-- a typing that goes on from another, which has a case
pub then_err : {A B : Type 0} (t : Typing A) (f : A → Typing B) (k : TypeError) → t ≡ Err k → and_then t f ≡ Err k
then_err t f k h = ap (λ x. and_then x f) h

pub then_ok : {A B : Type 0} (t : Typing A) (f : A → Typing B) (x : A) → t ≡ Ok x → and_then t f ≡ f x
then_ok t f x h = ap (λ y. and_then y f) h

not_true : (b : Bool) → (b ≡ true → ⊥) → b ≡ false
not_true true h = absurd (h refl)
not_true false h = refl

pub bounded_is : (e x : LinearExpression) → x ≡ e → IsWithin e → bounded e ≡ Ok x
bounded_is e x is h = ap (λ b. unless case.TooLarge (not b) (Ok e)) ((is_within-Decides e).1 h) ∙ ap Ok (sym is)

pub bounded_not : (e : LinearExpression) → ¬ IsWithin e → bounded e ≡ Err case.TooLarge
bounded_not e h = ap (λ b. unless case.TooLarge (not b) (Ok e)) (not_true (is_within e) (λ t. h ((is_within-Decides e).0 t)))

pub bounded_append : (xs ys : List LinearExpression) → all_bounded (xs ++ ys) ≡ and_then (all_bounded xs) (λ a. and_then (all_bounded ys) (λ b. Ok (a ++ b)))
bounded_append [] ys = go (all_within ys)
  where
    go : (b : Bool) → unless {A = List LinearExpression} case.TooLarge (not b) (Ok ys) ≡ and_then (unless case.TooLarge (not b) (Ok ys)) (λ b. Ok b)
    go true = refl
    go false = refl
bounded_append (x ∷ xs) ys = go (is_within x) (all_within xs) (all_within ys) (all_within (xs ++ ys)) (bounded_append xs ys)
  where
    go : (b c d e : Bool) →
        unless {A = List LinearExpression} case.TooLarge (not e) (Ok (xs ++ ys)) ≡ and_then (unless case.TooLarge (not c) (Ok xs)) (λ a. and_then (unless case.TooLarge (not d) (Ok ys)) (λ b. Ok (a ++ b))) →
        unless {A = List LinearExpression} case.TooLarge (not (b && e)) (Ok (x ∷ (xs ++ ys))) ≡ and_then (unless case.TooLarge (not (b && c)) (Ok (x ∷ xs))) (λ a. and_then (unless case.TooLarge (not d) (Ok ys)) (λ b. Ok (a ++ b)))
    go true true true true h = refl
    go true true true false h = cc
    go true true false true h = cc
    go true true false false h = refl
    go true false d true h = cc
    go true false d false h = refl
    go false c d e h = refl

pub goes_on : {A B C D : Type 0} (view : A → B) (other : C → D) (t : Typing B) (u : Typing D) (e : TypeError) (r : Result C TypeError) → r ≡ Err e →
    AnswersAs view t (Err e) → ((k : TypeError) → t ≡ Err k → u ≡ Err k) → AnswersAs other u r
goes_on view other t u e r is h f = subst (AnswersAs other u) (sym is) (passes view other t u e h f)

-- ---- the widths in the sort of an array

pub array_needs : (a b : Sort) → width_needs (Array a b) ≡ width_needs a ++ width_needs b
unfolding hidden-the_row-Sort-0 denote.Hole.Carrier.hidden
array_needs a b = refl

pub array_bounded : (s a b : Sort) → s ≡ Array a b →
    all_bounded (width_needs s) ≡ and_then (all_bounded (width_needs a)) (λ x. and_then (all_bounded (width_needs b)) (λ y. Ok (x ++ y)))
array_bounded s a b is = ap (λ z. all_bounded (width_needs z)) is ∙ ap all_bounded (array_needs a b) ∙ bounded_append (width_needs a) (width_needs b)

module _ (s a b k e : Sort) (is : s ≡ Array k e) (first : a ≡ k) (second : b ≡ e) where
  same : s ≡ Array a b
  same = is ∙ (λ i. Array (sym first i) (sym second i))

  pub first_err : (c : TypeError) → all_bounded (width_needs a) ≡ Err c → all_bounded (width_needs s) ≡ Err c
  first_err c h = array_bounded s a b same ∙ then_err _ _ c h

  pub second_err : (xs : List LinearExpression) (c : TypeError) → all_bounded (width_needs a) ≡ Ok xs → all_bounded (width_needs b) ≡ Err c → all_bounded (width_needs s) ≡ Err c
  second_err xs c h g = array_bounded s a b same ∙ then_ok _ _ xs h ∙ then_err _ _ c g

  pub both_ok : (xs ys : List LinearExpression) → all_bounded (width_needs a) ≡ Ok xs → all_bounded (width_needs b) ≡ Ok ys → all_bounded (width_needs s) ≡ Ok (xs ++ ys)
  both_ok xs ys h g = array_bounded s a b same ∙ then_ok _ _ xs h ∙ then_ok _ _ ys g
