-- Results that are known by an equation.
use Rattle.std.proofs.Common.{◌≡◌, Result, Ok, Err, IfOk, subst, sym}

-- what is equal to something that has a property has it
pub ok_along : {X E : Type 0} (P : X → Type 0) (r : Result X E) (x : X) → IfOk r (λ y. y ≡ x) → P x → IfOk r P
ok_along P (Ok y) x e h = subst P (sym e) h
ok_along P (Err e) x u h = tt
