-- Truth values: the operators `and` and `or`, and what `not` makes of them.
use Rattle.std.proofs.Common.{◌≡◌, ℕ, Bool, true, false, not, ◌&&◌, ◌||◌, [], ◌∷◌, refl, ap, ◌∙◌, sym}
use Rattle.std.proofs.Math.Bool.{and_assoc, and_comm, and_self, or_assoc, or_comm, or_self}
use Rattle.std.specs.Prelude.{ℤ}
use Rattle.rare_sort.specs.declared.head.Head.TheVariants as head
use Rattle.rare_meaning.specs.Values.{Value, Truth, Whole, Bits, Element, Array, ClosedSort, Truths, Fits, truth_of}
use Rattle.rare_meaning.specs.Settings.{Group, item, one}
use Rattle.rare_meaning.specs.Operators.{truth, and_value, or_value}
use Rattle.rare_meaning.proofs.MeaningLemmas.{meaning-node}
use Rattle.rare_rule.specs.Holds.{IsOneOf}
use Rattle.rare_rule.specs.Written.{apply}
use Rattle.rare_shapes.specs.Operators.{Operator}
use Rattle.rare_shapes.specs.RuleShapes.{truths}
use Rattle.rare_shapes.specs.ShapeLaws.{Skips, Operators}
use Rattle.rare_shapes.proofs.Shapes.{IsConstant, Maps}
use Rattle.rare_shapes.proofs.ApplyLemmas.{means_one}

pub truth_is : (v : Value) → Fits v Truths → Truth (truth_of v) ≡ v
truth_is (Truth b) h = refl
truth_is (Whole z) h = absurd h
truth_is (Bits w n) h = absurd h
truth_is (Element s n) h = absurd h
truth_is (Array m) h = absurd h

-- with the truth value that a parameter is
pub at_truth : {g : Group} {P : Type 0} → IsOneOf Truths g → ((b : Bool) → g ≡ one (truth b) → P) → P
at_truth h use_it =
    let i = h.only.0 in
    let is_of = h.only.2 in
    use_it (truth_of i.value) (h.only.1 ∙ λ j. one (item (is_of.sorted j) (sym (truth_is i.value is_of.fits) j)))

abbrev pub truth_and : Operator head.And Truths
truth_and = record {
  op = and_value;
  unit = Truth true;
  applies = λ e g leads. refl;
  fits = λ a b. tt;
  unit_fits = tt;
  assoc = λ a b c. ap Truth (and_assoc (truth_of a) (truth_of b) (truth_of c));
  comm = λ a b. ap Truth (and_comm (truth_of a) (truth_of b));
  neutral = truth_is;
}

abbrev pub truth_or : Operator head.Or Truths
truth_or = record {
  op = or_value;
  unit = Truth false;
  applies = λ e g leads. refl;
  fits = λ a b. tt;
  unit_fits = tt;
  assoc = λ a b c. ap Truth (or_assoc (truth_of a) (truth_of b) (truth_of c));
  comm = λ a b. ap Truth (or_comm (truth_of a) (truth_of b));
  neutral = truth_is;
}

abbrev pub ands : Operators truths head.And
ands number names = truth_and

abbrev pub ors : Operators truths head.Or
ors number names = truth_or

pub skips_none : Skips truths
skips_none names e ps h = h

pub true_is : IsConstant truths (apply head.True []) (λ s. Truth true)
true_is names e = record { means = meaning-node e head.True [] []; fits = tt }

pub false_is : IsConstant truths (apply head.False []) (λ s. Truth false)
false_is names e = record { means = meaning-node e head.False [] []; fits = tt }

abbrev pub turned : ClosedSort → Value → Value
turned s v = Truth (not (truth_of v))

pub not_maps : Maps truths head.Not turned
not_maps names e t v x = record { means = means_one e head.Not t (one (item Truths v)) x.means; fits = tt }

pub and_same : (number : ℕ → ℤ) (names : ℕ → ClosedSort) (v : Value) → Fits v Truths → and_value v v ≡ v
and_same number names v h = ap Truth (and_self (truth_of v)) ∙ truth_is v h

pub or_same : (number : ℕ → ℤ) (names : ℕ → ClosedSort) (v : Value) → Fits v Truths → or_value v v ≡ v
or_same number names v h = ap Truth (or_self (truth_of v)) ∙ truth_is v h

pub and_turned : (b : Bool) → (b && not b) ≡ false
and_turned true = refl
and_turned false = refl

pub or_turned : (b : Bool) → (b || not b) ≡ true
or_turned true = refl
or_turned false = refl

pub not_both : (a b : Bool) → not (a && b) ≡ (not a || not b)
not_both true b = refl
not_both false b = refl

pub not_either : (a b : Bool) → not (a || b) ≡ (not a && not b)
not_either true b = refl
not_either false b = refl
