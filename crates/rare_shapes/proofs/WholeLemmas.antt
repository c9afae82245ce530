-- Whole numbers: the operators `+` and `*`.
use Rattle.std.proofs.Common.{◌≡◌, ℕ, [], ◌∷◌, refl, ap, ◌∙◌, sym, arith}
use Rattle.std.proofs.Math.IntN.{+ℤ_assoc, +ℤ_comm, +ℤ_idl, *ℤ_comm}
use Rattle.std.proofs.lemmas.Int.{ints}
use Rattle.std.specs.Prelude.{ℤ, pos, ◌+ℤ◌, ◌*ℤ◌, neg_ℤ}
use Rattle.rare_linear.proofs.Products.{mul_assoc, one-mul}
use Rattle.rare_sort.specs.declared.head.Head.TheVariants as head
use Rattle.rare_meaning.specs.Values.{Value, Truth, Whole, Bits, Element, Array, ClosedSort, Wholes, Fits, whole_of}
use Rattle.rare_meaning.specs.Settings.{Group, item, one}
use Rattle.rare_meaning.specs.Operators.{whole, add_value, mul_value}
use Rattle.rare_meaning.proofs.MeaningLemmas.{meaning-node}
use Rattle.rare_rule.specs.Holds.{IsOneOf}
use Rattle.rare_rule.specs.Written.{apply}
use Rattle.rare_shapes.specs.Operators.{Operator}
use Rattle.rare_shapes.specs.RuleShapes.{wholes}
use Rattle.rare_shapes.specs.ShapeLaws.{Skips, Operators}
use Rattle.rare_shapes.proofs.Shapes.{IsConstant, Maps}
use Rattle.rare_shapes.proofs.ApplyLemmas.{means_one}

pub whole_is : (v : Value) → Fits v Wholes → Whole (whole_of v) ≡ v
whole_is (Truth b) h = absurd h
whole_is (Whole z) h = refl
whole_is (Bits w n) h = absurd h
whole_is (Element s n) h = absurd h
whole_is (Array m) h = absurd h

-- with the whole number that a parameter is
pub at_whole : {g : Group} {P : Type 0} → IsOneOf Wholes g → ((z : ℤ) → g ≡ one (whole z) → P) → P
at_whole h use_it =
    let i = h.only.0 in
    let is_of = h.only.2 in
    use_it (whole_of i.value) (h.only.1 ∙ λ j. one (item (is_of.sorted j) (sym (whole_is i.value is_of.fits) j)))

abbrev pub whole_sum : Operator head.Add Wholes
whole_sum = record {
  op = add_value;
  unit = Whole (pos 0);
  applies = λ e g leads. refl;
  fits = λ a b. tt;
  unit_fits = tt;
  assoc = λ a b c. ap Whole (+ℤ_assoc (whole_of a) (whole_of b) (whole_of c));
  comm = λ a b. ap Whole (+ℤ_comm (whole_of a) (whole_of b));
  neutral = λ a h. ap Whole (+ℤ_idl (whole_of a)) ∙ whole_is a h;
}

abbrev pub whole_product : Operator head.Mul Wholes
whole_product = record {
  op = mul_value;
  unit = Whole (pos 1);
  applies = λ e g leads. refl;
  fits = λ a b. tt;
  unit_fits = tt;
  assoc = λ a b c. ap Whole (mul_assoc (whole_of a) (whole_of b) (whole_of c));
  comm = λ a b. ap Whole (*ℤ_comm (whole_of a) (whole_of b));
  neutral = λ a h. ap Whole (one-mul (whole_of a)) ∙ whole_is a h;
}

abbrev pub sums : Operators wholes head.Add
sums number names = whole_sum

abbrev pub products : Operators wholes head.Mul
products number names = whole_product

pub skips_none : Skips wholes
skips_none names e ps h = h

pub numeral_is : (n : ℕ) → IsConstant wholes (apply (head.Numeral n) []) (λ s. Whole (pos n))
numeral_is n names e = record { means = meaning-node e (head.Numeral n) [] []; fits = tt }

abbrev pub negated : ClosedSort → Value → Value
negated s v = Whole (neg_ℤ (whole_of v))

pub neg_maps : Maps wholes head.Neg negated
neg_maps names e t v x = record { means = means_one e head.Neg t (one (item Wholes v)) x.means; fits = tt }

pub add_negated : (z : ℤ) → z +ℤ neg_ℤ z ≡ pos 0
add_negated z = omega (arith, ints)

pub zero_times : (z : ℤ) → pos 0 *ℤ z ≡ pos 0
zero_times z = omega (arith, ints)
