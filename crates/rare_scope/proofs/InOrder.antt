-- Readings one after another.
use Rattle.std.proofs.Common.{◌≡◌, refl, ap, sym, ◌∙◌, Ok, Err}
use Rattle.rare_base.specs.declared.answers.Fault.{Fault}
use Rattle.rare_base.specs.declared.answers.Fault.TheVariants as fault
use Rattle.rare_scope.specs.Reading.{Read, go_on}
use Rattle.rare_scope.specs.Answers.{Fails}

-- a fault of a part is the fault of the whole
pub fails_on : {A B : Type 0} (f : Fault) (part : Read A) (g : A → Read B) (whole : Read B) → whole ≡ go_on part g → Fails f part → Fails f whole
fails_on (fault.Refused place why) part g whole is h = is ∙ ap (λ r. go_on r g) h
fails_on fault.Memory part g whole is h = tt

pub goes_on : {A B : Type 0} (part : Read A) (x : A) (g : A → Read B) (whole : Read B) → whole ≡ go_on part g → part ≡ Ok x → whole ≡ g x
goes_on part x g whole is h = is ∙ ap (λ r. go_on r g) h

pub same_Ok : {A : Type 0} (a b : A) → ◌≡◌ {A = Read A} (Ok a) (Ok b) → a ≡ b
same_Ok a b is = cc

-- what follows on a reading that gave something
pub went : {A B : Type 0} (part : Read A) (f : A → Read B) (y : B) → go_on part f ≡ Ok y → (x : A) × (part ≡ Ok x) × (f x ≡ Ok y)
went (Ok x) f y is = (x, refl, is)
went (Err r) f y is = cc
