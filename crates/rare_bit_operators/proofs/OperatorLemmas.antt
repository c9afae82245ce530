-- Laws of the operators bit by bit and of arithmetic modulo 2 ^ n: associativity, commutativity, and special operands.
use Rattle.std.proofs.Common.{◌≡◌, ℕ, ◌+◌, ◌-◌, ◌*◌, ◌%◌, ◌^◌, ◌<◌, ap, ◌∙◌, sym, arith}
use Rattle.std.proofs.lemmas.Nat.{mod_below, pow_pos}
use Rattle.std.proofs.lemmas.Nat.Bits.{bit_at_ones}
use Rattle.std.proofs.Math.Nat.{add_comm, add_assoc, mul_comm, mul_assoc, zero-add, zero-mul, one-mul, zero-mod, mod-eq_of_lt, mod_self}
use Rattle.rare_bits.specs.Bits.{bit, bvadd, bvneg, bvmul, bvnot, bvand, bvor, bvxor}
use Rattle.rare_bit_operators.specs.OperatorLaws.{AndLaws, OrLaws, XorLaws, NotTwice, SumLaws, ProductLaws}
use Rattle.rare_bits.proofs.BitsLemmas.{same_bits, bit-below, bit-bvnot, bit-bvand, bit-bvor, bit-bvxor, bvnot-below, bvand-below, bvor-below, bvxor-below, bvnot-sub}
use Rattle.rare_bits.proofs.ModularLemmas.{bvadd-reduces, bvmul-reduces}

-- ---- bits of special words

bit-zero : (k : ℕ) → bit k 0 ≡ 0
bit-zero k = omega (arith, zero-mod (2 ^ k))

bit-ones : (n k : ℕ) → k < n → bit k (2 ^ n - 1) ≡ 1
bit-ones n k lt = bit_at_ones n k lt

pub ones-below : (n : ℕ) → 2 ^ n - 1 < 2 ^ n
ones-below n = omega (arith, pow_pos n)

-- ---- and

pub bvand_assoc : (n a b c : ℕ) → bvand n (bvand n a b) c ≡ bvand n a (bvand n b c)
bvand_assoc n a b c =
    same_bits n _ _ (bvand-below n (bvand n a b) c) (bvand-below n a (bvand n b c)) (λ k lt.
    omega (arith, bit-bvand n (bvand n a b) c k lt, bit-bvand n a b k lt, bit-bvand n a (bvand n b c) k lt, bit-bvand n b c k lt))

pub bvand_comm : (n a b : ℕ) → bvand n a b ≡ bvand n b a
bvand_comm n a b =
    same_bits n _ _ (bvand-below n a b) (bvand-below n b a) (λ k lt.
    omega (arith, bit-bvand n a b k lt, bit-bvand n b a k lt))

pub bvand-ones : (n a : ℕ) → a < 2 ^ n → bvand n (2 ^ n - 1) a ≡ a
bvand-ones n a h =
    same_bits n _ _ (bvand-below n (2 ^ n - 1) a) h (λ k lt.
    omega (arith, bit-bvand n (2 ^ n - 1) a k lt, bit-ones n k lt, bit-below k a))

pub bvand-zero : (n a : ℕ) → bvand n 0 a ≡ 0
bvand-zero n a =
    same_bits n _ _ (bvand-below n 0 a) (pow_pos n) (λ k lt.
    omega (arith, bit-bvand n 0 a k lt, bit-zero k))

pub bvand-same : (n a : ℕ) → a < 2 ^ n → bvand n a a ≡ a
bvand-same n a h = same_bits n _ _ (bvand-below n a a) h (λ k lt. omega (arith, bit-bvand n a a k lt))

pub bvand-bvnot : (n a : ℕ) → bvand n a (bvnot n a) ≡ 0
bvand-bvnot n a =
    same_bits n _ _ (bvand-below n a (bvnot n a)) (pow_pos n) (λ k lt.
    omega (arith, bit-bvand n a (bvnot n a) k lt, bit-bvnot n a k lt, bit-zero k, bit-below k a))

-- ---- or

pub bvor_assoc : (n a b c : ℕ) → bvor n (bvor n a b) c ≡ bvor n a (bvor n b c)
bvor_assoc n a b c =
    same_bits n _ _ (bvor-below n (bvor n a b) c) (bvor-below n a (bvor n b c)) (λ k lt.
    omega (arith, bit-bvor n (bvor n a b) c k lt, bit-bvor n a b k lt, bit-bvor n a (bvor n b c) k lt, bit-bvor n b c k lt))

pub bvor_comm : (n a b : ℕ) → bvor n a b ≡ bvor n b a
bvor_comm n a b =
    same_bits n _ _ (bvor-below n a b) (bvor-below n b a) (λ k lt.
    omega (arith, bit-bvor n a b k lt, bit-bvor n b a k lt))

pub bvor-zero : (n a : ℕ) → a < 2 ^ n → bvor n 0 a ≡ a
bvor-zero n a h =
    same_bits n _ _ (bvor-below n 0 a) h (λ k lt. omega (arith, bit-bvor n 0 a k lt, bit-zero k))

pub bvor-ones : (n a : ℕ) → bvor n (2 ^ n - 1) a ≡ 2 ^ n - 1
bvor-ones n a =
    same_bits n _ _ (bvor-below n (2 ^ n - 1) a) (ones-below n) (λ k lt.
    omega (arith, bit-bvor n (2 ^ n - 1) a k lt, bit-ones n k lt, bit-below k a))

pub bvor-bvnot : (n a : ℕ) → bvor n a (bvnot n a) ≡ 2 ^ n - 1
bvor-bvnot n a =
    same_bits n _ _ (bvor-below n a (bvnot n a)) (ones-below n) (λ k lt.
    omega (arith, bit-bvor n a (bvnot n a) k lt, bit-bvnot n a k lt, bit-ones n k lt, bit-below k a))

-- ---- xor

pub bvxor_assoc : (n a b c : ℕ) → bvxor n (bvxor n a b) c ≡ bvxor n a (bvxor n b c)
bvxor_assoc n a b c =
    same_bits n _ _ (bvxor-below n (bvxor n a b) c) (bvxor-below n a (bvxor n b c)) (λ k lt.
    omega (arith, bit-bvxor n (bvxor n a b) c k lt, bit-bvxor n a b k lt, bit-bvxor n a (bvxor n b c) k lt, bit-bvxor n b c k lt))

pub bvxor_comm : (n a b : ℕ) → bvxor n a b ≡ bvxor n b a
bvxor_comm n a b =
    same_bits n _ _ (bvxor-below n a b) (bvxor-below n b a) (λ k lt.
    omega (arith, bit-bvxor n a b k lt, bit-bvxor n b a k lt))

pub bvxor-zero : (n a : ℕ) → a < 2 ^ n → bvxor n 0 a ≡ a
bvxor-zero n a h =
    same_bits n _ _ (bvxor-below n 0 a) h (λ k lt. omega (arith, bit-bvxor n 0 a k lt, bit-zero k, bit-below k a))

pub bvxor-ones : (n a : ℕ) → bvxor n (2 ^ n - 1) a ≡ bvnot n a
bvxor-ones n a =
    same_bits n _ _ (bvxor-below n (2 ^ n - 1) a) (bvnot-below n a) (λ k lt.
    omega (arith, bit-bvxor n (2 ^ n - 1) a k lt, bit-bvnot n a k lt, bit-ones n k lt, bit-below k a))

pub bvxor-same : (n a : ℕ) → bvxor n a a ≡ 0
bvxor-same n a =
    same_bits n _ _ (bvxor-below n a a) (pow_pos n) (λ k lt.
    omega (arith, bit-bvxor n a a k lt, bit-zero k, bit-below k a))

-- ---- not

pub bvnot-bvnot : (n a : ℕ) → a < 2 ^ n → bvnot n (bvnot n a) ≡ a
bvnot-bvnot n a h =
    same_bits n _ _ (bvnot-below n (bvnot n a)) h (λ k lt.
    omega (arith, bit-bvnot n (bvnot n a) k lt, bit-bvnot n a k lt, bit-below k a))

pub bvnot-bvand : (n a b : ℕ) → bvnot n (bvand n a b) ≡ bvor n (bvnot n a) (bvnot n b)
bvnot-bvand n a b =
    same_bits n _ _ (bvnot-below n (bvand n a b)) (bvor-below n (bvnot n a) (bvnot n b)) (λ k lt.
    omega (arith, bit-bvnot n (bvand n a b) k lt, bit-bvand n a b k lt, bit-bvor n (bvnot n a) (bvnot n b) k lt, bit-bvnot n a k lt, bit-bvnot n b k lt))

-- ---- sums

pub bvadd-below : (n a b : ℕ) → bvadd n a b < 2 ^ n
bvadd-below n a b = mod_below (a + b) (2 ^ n) (pow_pos n)

pub bvadd_assoc : (n a b c : ℕ) → bvadd n (bvadd n a b) c ≡ bvadd n a (bvadd n b c)
bvadd_assoc n a b c = (bvadd-reduces n (a + b) c).0 ∙ ap (λ s. s % 2 ^ n) (add_assoc a b c) ∙ sym (bvadd-reduces n a (b + c)).1

pub bvmul-zero : (n a : ℕ) → bvmul n 0 a ≡ 0
bvmul-zero n a = ap (λ s. s % 2 ^ n) (zero-mul a) ∙ zero-mod (2 ^ n)

-- ---- negated words

pub bvneg-below : (n a : ℕ) → bvneg n a < 2 ^ n
bvneg-below n a = mod_below (2 ^ n - a) (2 ^ n) (pow_pos n)

pub bvadd-bvneg : (n a : ℕ) → a < 2 ^ n → bvadd n a (bvneg n a) ≡ 0
bvadd-bvneg n a lt =
    let whole : a + (2 ^ n - a) ≡ 2 ^ n = omega arith in
    (bvadd-reduces n a (2 ^ n - a)).1 ∙ ap (λ s. s % 2 ^ n) whole ∙ mod_self (2 ^ n)

-- the complement, and 1 more
pub bvneg-bvnot : (n a : ℕ) → a < 2 ^ n → bvneg n a ≡ bvadd n (bvnot n a) (1 % 2 ^ n)
bvneg-bvnot n a lt =
    let more : 2 ^ n - a ≡ bvnot n a + 1 = omega (arith, bvnot-sub n a lt) in
    ap (λ s. s % 2 ^ n) more ∙ sym (bvadd-reduces n (bvnot n a) 1).1

pub bvadd_comm : (n a b : ℕ) → bvadd n a b ≡ bvadd n b a
bvadd_comm n a b = ap (λ s. s % 2 ^ n) (add_comm a b)

pub bvadd-zero : (n a : ℕ) → a < 2 ^ n → bvadd n 0 a ≡ a
bvadd-zero n a lt = ap (λ s. s % 2 ^ n) (zero-add a) ∙ mod-eq_of_lt lt

pub bvmul-below : (n a b : ℕ) → bvmul n a b < 2 ^ n
bvmul-below n a b = mod_below (a * b) (2 ^ n) (pow_pos n)

pub bvmul_assoc : (n a b c : ℕ) → bvmul n (bvmul n a b) c ≡ bvmul n a (bvmul n b c)
bvmul_assoc n a b c = (bvmul-reduces n (a * b) c).0 ∙ ap (λ s. s % 2 ^ n) (mul_assoc a b c) ∙ sym (bvmul-reduces n a (b * c)).1

pub bvmul_comm : (n a b : ℕ) → bvmul n a b ≡ bvmul n b a
bvmul_comm n a b = ap (λ s. s % 2 ^ n) (mul_comm a b)

pub bvmul-one : (n a : ℕ) → a < 2 ^ n → bvmul n (1 % 2 ^ n) a ≡ a
bvmul-one n a lt = (bvmul-reduces n 1 a).0 ∙ ap (λ s. s % 2 ^ n) (one-mul a) ∙ mod-eq_of_lt lt

pub one-below : (n : ℕ) → 1 % 2 ^ n < 2 ^ n
one-below n = mod_below 1 (2 ^ n) (pow_pos n)

-- ---- the laws

pub bvand_laws : AndLaws
bvand_laws = record { assoc = bvand_assoc; comm = bvand_comm; ones = bvand-ones; zero = bvand-zero; same = bvand-same; complement = bvand-bvnot; dual = bvnot-bvand }

pub bvor_laws : OrLaws
bvor_laws = record { assoc = bvor_assoc; comm = bvor_comm; zero = bvor-zero; ones = bvor-ones; complement = bvor-bvnot }

pub bvxor_laws : XorLaws
bvxor_laws = record { assoc = bvxor_assoc; comm = bvxor_comm; zero = bvxor-zero; ones = bvxor-ones; same = bvxor-same }

pub bvnot_twice : NotTwice
bvnot_twice = bvnot-bvnot

pub bvadd_laws : SumLaws
bvadd_laws = record { assoc = bvadd_assoc; comm = bvadd_comm; zero = bvadd-zero; negated = bvadd-bvneg; complement = bvneg-bvnot }

pub bvmul_laws : ProductLaws
bvmul_laws = record { assoc = bvmul_assoc; comm = bvmul_comm; one = bvmul-one; zero = bvmul-zero }
