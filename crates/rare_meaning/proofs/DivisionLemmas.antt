-- Quotient and remainder of whole numbers.
use Rattle.std.proofs.Common.{◌≡◌, ℕ, zero, suc, ◌*◌, ◌/◌, ◌≢◌, refl, sym, ap, ◌∙◌, arith}
use Rattle.std.proofs.lemmas.Int.{ints, by_lt_z}
use Rattle.std.proofs.lemmas.Nat.{mod_below}
use Rattle.std.proofs.Math.Nat.{div-add-mod, mul-suc}
use Rattle.std.proofs.Math.IntN.{pos-*ℤ-pos, pos-*ℤ-negsuc, negsuc-*ℤ-pos, negsuc-*ℤ-negsuc, *ℤ_comm, zero-*ℤ}
use Rattle.std.specs.Prelude.{ℤ, pos, negsuc, ◌+ℤ◌, ◌-ℤ◌, ◌*ℤ◌, ◌≤ℤ◌, ◌<ℤ◌, neg_ℤ, unsigned_abs}
use Rattle.rare_linear.proofs.Products.{add-mul, mul-add, one-mul, times_more}
use Rattle.rare_meaning.specs.Operators.{quotient_of, remainder_of}
use Rattle.rare_meaning.specs.MeaningLaws.{IntDivisionLaw}

negated : (k q : ℕ) → negsuc k *ℤ neg_ℤ (pos q) ≡ pos (suc k * q)
negated k zero = negsuc-*ℤ-pos k 0 ∙ (let none : suc k * 0 ≡ 0 = omega arith in rw none refl)
negated k (suc q) = negsuc-*ℤ-negsuc k q

product : (z w : ℤ → ℤ) (m n : ℤ) → n ≢ pos 0 → m ≡ (n *ℤ quotient_of z m n) +ℤ remainder_of w m n
product z w m (pos zero) h = absurd (h refl)
product z w (pos a) (pos (suc k)) h = omega (arith, ints, pos-*ℤ-pos (suc k) (a / suc k), div-add-mod a (suc k))
product z w (negsuc a) (pos (suc k)) h =
    omega (arith, ints, pos-*ℤ-negsuc (suc k) (a / suc k), mul-suc (suc k) (a / suc k), div-add-mod a (suc k), mod_below a (suc k) (omega arith))
product z w (pos a) (negsuc k) h = omega (arith, ints, negated k (a / suc k), div-add-mod a (suc k))
product z w (negsuc a) (negsuc k) h =
    omega (arith, ints, negsuc-*ℤ-pos k (suc (a / suc k)), mul-suc (suc k) (a / suc k), div-add-mod a (suc k), mod_below a (suc k) (omega arith))

least : (z : ℤ → ℤ) (m n : ℤ) → n ≢ pos 0 → pos 0 ≤ℤ remainder_of z m n
least z m (pos zero) h = absurd (h refl)
least z (pos a) (pos (suc k)) h = omega (arith, ints)
least z (negsuc a) (pos (suc k)) h = omega (arith, ints)
least z (pos a) (negsuc k) h = omega (arith, ints)
least z (negsuc a) (negsuc k) h = omega (arith, ints)

greatest : (z : ℤ → ℤ) (m n : ℤ) → n ≢ pos 0 → remainder_of z m n <ℤ pos (unsigned_abs n)
greatest z m (pos zero) h = absurd (h refl)
greatest z (pos a) (pos (suc k)) h = omega (arith, ints, mod_below a (suc k) (omega arith))
greatest z (negsuc a) (pos (suc k)) h = omega (arith, ints)
greatest z (pos a) (negsuc k) h = omega (arith, ints, mod_below a (suc k) (omega arith))
greatest z (negsuc a) (negsuc k) h = omega (arith, ints)

-- ---- there are no others

-- a greater quotient is too great
not_less : (p q₁ q₂ r₁ r₂ : ℤ) → pos 0 ≤ℤ p → (p *ℤ q₁) +ℤ r₁ ≡ (p *ℤ q₂) +ℤ r₂ → r₁ <ℤ p → pos 0 ≤ℤ r₂ → ¬ (q₁ <ℤ q₂)
not_less p q₁ q₂ r₁ r₂ nonneg same small least less =
    let one : p *ℤ pos 1 ≡ p = *ℤ_comm p (pos 1) ∙ one-mul p in
    let more : (p *ℤ (q₁ +ℤ pos 1)) ≤ℤ (p *ℤ q₂) = times_more p (q₁ +ℤ pos 1) q₂ nonneg (omega (arith, ints)) in
    omega (arith, ints, more, mul-add p q₁ (pos 1), one)

same_quotient : (p q₁ q₂ r₁ r₂ : ℤ) → pos 0 ≤ℤ p → (p *ℤ q₁) +ℤ r₁ ≡ (p *ℤ q₂) +ℤ r₂ → r₁ <ℤ p → r₂ <ℤ p → pos 0 ≤ℤ r₁ → pos 0 ≤ℤ r₂ → q₁ ≡ q₂
same_quotient p q₁ q₂ r₁ r₂ nonneg same small₁ small₂ least₁ least₂ =
    by_lt_z q₁ q₂ (λ less. absurd (not_less p q₁ q₂ r₁ r₂ nonneg same small₁ least₂ less))
    (λ more. by_lt_z q₂ q₁ (λ less. absurd (not_less p q₂ q₁ r₂ r₁ nonneg (sym same) small₂ least₁ less)) (λ least. omega (arith, ints, more, least)))

-- a factor below 0
below_zero : (k : ℕ) (q : ℤ) → negsuc k *ℤ q ≡ pos 0 -ℤ (pos (suc k) *ℤ q)
below_zero k q =
    let none : negsuc k +ℤ pos (suc k) ≡ pos 0 = omega (arith, ints) in
    let all : (negsuc k +ℤ pos (suc k)) *ℤ q ≡ pos 0 = ap (λ z. z *ℤ q) none ∙ zero-*ℤ q in
    omega (arith, ints, add-mul (negsuc k) (pos (suc k)) q, all)

both_same : (n q₁ q₂ r₁ r₂ : ℤ) → n ≢ pos 0 → (n *ℤ q₁) +ℤ r₁ ≡ (n *ℤ q₂) +ℤ r₂ → pos 0 ≤ℤ r₁ → pos 0 ≤ℤ r₂ →
    r₁ <ℤ pos (unsigned_abs n) → r₂ <ℤ pos (unsigned_abs n) → (q₁ ≡ q₂) × (r₁ ≡ r₂)
both_same (pos n) q₁ q₂ r₁ r₂ h same least₁ least₂ small₁ small₂ =
    let q : q₁ ≡ q₂ = same_quotient (pos n) q₁ q₂ r₁ r₂ (omega (arith, ints)) same small₁ small₂ least₁ least₂ in
    (q, omega (arith, ints, same, ap (λ z. pos n *ℤ z) q))
both_same (negsuc k) q₁ q₂ r₁ r₂ h same least₁ least₂ small₁ small₂ =
    let crossed : (pos (suc k) *ℤ q₂) +ℤ r₁ ≡ (pos (suc k) *ℤ q₁) +ℤ r₂ = omega (arith, ints, same, below_zero k q₁, below_zero k q₂) in
    let q : q₂ ≡ q₁ = same_quotient (pos (suc k)) q₂ q₁ r₁ r₂ (omega (arith, ints)) crossed small₁ small₂ least₁ least₂ in
    (sym q, omega (arith, ints, crossed, ap (λ z. pos (suc k) *ℤ z) q))

only : (z w : ℤ → ℤ) (m n q r : ℤ) → n ≢ pos 0 → m ≡ (n *ℤ q) +ℤ r → pos 0 ≤ℤ r → r <ℤ pos (unsigned_abs n) →
    (q ≡ quotient_of z m n) × (r ≡ remainder_of w m n)
only z w m n q r h is low high =
    both_same n q (quotient_of z m n) r (remainder_of w m n) h (sym is ∙ product z w m n h) low (least w m n h) high (greatest w m n h)

pub int_division_law : IntDivisionLaw
int_division_law = record { product = product; least = least; greatest = greatest; only = only }
