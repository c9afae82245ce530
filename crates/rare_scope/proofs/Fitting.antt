-- Expressions that fit.
use Rattle.std.proofs.Common.{◌≡◌, refl, ap, sym, ◌∙◌, Bool, true, false, Ok, Err}
use Rattle.rare_base.specs.declared.answers.Reason.TheVariants as reason
use Rattle.rare_sexpr.specs.declared.tree.Sexpr.{Sexpr}
use Rattle.rare_linear.specs.Linears.{LinearExpression}
use Rattle.rare_linear.specs.PartialSums.{IsWithin}
use Rattle.rare_linear.specs.EntailmentTest.{is_within}
use Rattle.rare_linear.proofs.EntailmentTestLemmas.{is_within-Decides}
use Rattle.rare_scope.specs.Reading.{refused}
use Rattle.rare_scope.specs.LinearText.{fitting}

pub fits_yes : (e : Sexpr) (l x : LinearExpression) → x ≡ l → IsWithin l → fitting e l ≡ Ok x
fits_yes e l x same fits = rw ((is_within-Decides l).1 fits) (ap Ok (sym same))

not_true : (b : Bool) → (b ≡ true → ⊥) → b ≡ false
not_true true h = absurd (h refl)
not_true false h = refl

pub fits_no : (e : Sexpr) (l : LinearExpression) → ¬ IsWithin l → fitting e l ≡ refused e reason.TermLimit
fits_no e l out = rw (not_true (is_within l) (λ t. out ((is_within-Decides l).0 t))) refl
