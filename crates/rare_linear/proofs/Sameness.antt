-- What the tests of sameness tell.
use Rattle.std.proofs.Common.{◌≡◌, ◌↔◌, IsTrue, ℕ, Bool, true, false, ◌&&◌, List, [], ◌∷◌, refl, sym, ap, ◌∙◌}
use Rattle.std.proofs.lemmas.Bool.{eqb-true, eq-eqb}
use Rattle.std.proofs.lemmas.Bool.Decides.{Decides-int_eq}
use Rattle.std.proofs.lemmas.Cmp.{int_eq_equiv}
use Rattle.std.specs.Prelude.{ℤ, nat_eq}
use Rattle.std.specs.Ordering.{int_eq}
use lib.Pointwise.{pointwise}
use Rattle.rare_linear.specs.Linears.{LinearExpression, linear}

abbrev pub pair_eq : ℕ × ℤ → ℕ × ℤ → Bool
pair_eq x y = nat_eq x.0 y.0 && int_eq x.1 y.1

both : (a b : Bool) → (a && b) ≡ true → (a ≡ true) × (b ≡ true)
both true b e = (refl, e)
both false b e = cc

int_same : (x y : ℤ) → int_eq x y ≡ true → x ≡ y
int_same x y e = (Decides-int_eq x y).0 e

pair_same : (x y : ℕ × ℤ) → pair_eq x y ≡ true → x ≡ y
pair_same x y e =
    let q = both (nat_eq x.0 y.0) (int_eq x.1 y.1) e in
    ap (λ (k : ℕ). (k, x.1)) (eqb-true x.0 y.0 q.0) ∙ ap (λ (c : ℤ). (y.0, c)) (int_same x.1 y.1 q.1)

pub pairs_same : (xs ys : List (ℕ × ℤ)) → pointwise pair_eq xs ys ≡ true → xs ≡ ys
pairs_same [] [] e = refl
pairs_same [] (y ∷ ys) e = cc
pairs_same (x ∷ xs) [] e = cc
pairs_same (x ∷ xs) (y ∷ ys) e =
    let q = both (pair_eq x y) (pointwise pair_eq xs ys) e in
    ap (λ z. z ∷ xs) (pair_same x y q.0) ∙ ap (λ zs. y ∷ zs) (pairs_same xs ys q.1)

and_true : (b : Bool) → b ≡ true → (b && true) ≡ true
and_true true e = refl
and_true false e = cc

pair_refl : (x : ℕ × ℤ) → pair_eq x x ≡ true
pair_refl x = rw (int_eq_equiv.refl x.1) (and_true (nat_eq x.0 x.0) (eq-eqb x.0 x.0 refl))

pub pairs_refl : (xs : List (ℕ × ℤ)) → pointwise pair_eq xs xs ≡ true
pairs_refl [] = refl
pairs_refl (x ∷ xs) = rw (pair_refl x) (pairs_refl xs)

pub same_parts : (a b : LinearExpression) (r : Bool) → a.constant ≡ b.constant → r ≡ pointwise pair_eq a.parts b.parts → IsTrue r ↔ (a ≡ b)
same_parts a b r e are = (
  (λ t. ap (λ k. linear k a.parts) e ∙ ap (λ ps. linear b.constant ps) (pairs_same a.parts b.parts (sym are ∙ t))),
  (λ q. are ∙ ap (λ (z : LinearExpression). pointwise pair_eq a.parts z.parts) (sym q) ∙ pairs_refl a.parts),
)
