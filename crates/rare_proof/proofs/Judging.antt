-- Conditions of a step that are tried one after the other.
use Rattle.std.proofs.Common.{◌≡◌, List, [], ◌∷◌, ◌++◌, Option, Some, None, Result, Ok, Err, refl, sym, subst}
use Rattle.rare_proof.specs.declared.fault.AddError.{AddError}
use Rattle.rare_proof.specs.declared.fault.AddError.TheVariants.{Invalid, Memory}
use Rattle.rare_proof.specs.declared.fault.StepFault.{StepFault}
use Rattle.rare_proof.specs.Proofs.{Judges}
use Rattle.rare_proof.specs.Steps.{first_failing}

-- those that hold leave it to the others
pub over : (xs ys : List (Option StepFault)) → first_failing xs ≡ None → first_failing (xs ++ ys) ≡ first_failing ys
over [] ys e = refl
over (None ∷ xs) ys e = over xs ys e
over (Some f ∷ xs) ys e = absurd (let never : ⊥ = cc in never)

module _ (X : Type 0) where
  -- a condition that holds leaves it to the others
  pub passed : (o : Option StepFault) (os : List (Option StepFault)) (r : Result X AddError) → o ≡ None → Judges (first_failing os) r → Judges (first_failing (o ∷ os)) r
  passed None os r e h = h
  passed (Some f) os r e h = absurd (let never : ⊥ = cc in never)

  pub passed_all : (xs ys : List (Option StepFault)) (r : Result X AddError) → first_failing xs ≡ None → Judges (first_failing ys) r → Judges (first_failing (xs ++ ys)) r
  passed_all xs ys r e h = let P : Option StepFault → Type 0 = λ o. Judges o r in subst P (sym (over xs ys e)) h

  -- the first that fails
  pub stopped_all : (xs ys : List (Option StepFault)) (e : AddError) → Judges {X = X} (first_failing xs) (Err e) → Judges {X = X} (first_failing (xs ++ ys)) (Err e)
  stopped_all xs ys Memory h = tt
  stopped_all [] ys (Invalid f) h = absurd (let never : ⊥ = cc in never)
  stopped_all (None ∷ xs) ys (Invalid f) h = stopped_all xs ys (Invalid f) h
  stopped_all (Some g ∷ xs) ys (Invalid f) h = h
