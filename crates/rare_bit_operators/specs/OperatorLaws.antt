-- Laws of single operators at every width: associativity, commutativity, and what they make of special operands.
use Rattle.std.specs.Prelude.{◌≡◌, ℕ, ◌-◌, ◌%◌, ◌^◌, ◌<◌}
use Rattle.rare_bits.specs.Bits.{bvadd, bvneg, bvmul, bvnot, bvand, bvor, bvxor}

pub record AndLaws : Type 0 where
  pub assoc : (n a b c : ℕ) → bvand n (bvand n a b) c ≡ bvand n a (bvand n b c)
  pub comm : (n a b : ℕ) → bvand n a b ≡ bvand n b a
  pub ones : (n a : ℕ) → a < 2 ^ n → bvand n (2 ^ n - 1) a ≡ a
  pub zero : (n a : ℕ) → bvand n 0 a ≡ 0
  pub same : (n a : ℕ) → a < 2 ^ n → bvand n a a ≡ a
  pub complement : (n a : ℕ) → bvand n a (bvnot n a) ≡ 0
  pub dual : (n a b : ℕ) → bvnot n (bvand n a b) ≡ bvor n (bvnot n a) (bvnot n b)

pub record OrLaws : Type 0 where
  pub assoc : (n a b c : ℕ) → bvor n (bvor n a b) c ≡ bvor n a (bvor n b c)
  pub comm : (n a b : ℕ) → bvor n a b ≡ bvor n b a
  pub zero : (n a : ℕ) → a < 2 ^ n → bvor n 0 a ≡ a
  pub ones : (n a : ℕ) → bvor n (2 ^ n - 1) a ≡ 2 ^ n - 1
  pub complement : (n a : ℕ) → bvor n a (bvnot n a) ≡ 2 ^ n - 1

pub record XorLaws : Type 0 where
  pub assoc : (n a b c : ℕ) → bvxor n (bvxor n a b) c ≡ bvxor n a (bvxor n b c)
  pub comm : (n a b : ℕ) → bvxor n a b ≡ bvxor n b a
  pub zero : (n a : ℕ) → a < 2 ^ n → bvxor n 0 a ≡ a
  pub ones : (n a : ℕ) → bvxor n (2 ^ n - 1) a ≡ bvnot n a
  pub same : (n a : ℕ) → bvxor n a a ≡ 0

abbrev pub NotTwice : Type 0
NotTwice = (n a : ℕ) → a < 2 ^ n → bvnot n (bvnot n a) ≡ a

-- a negated number is its complement and 1 more
pub record SumLaws : Type 0 where
  pub assoc : (n a b c : ℕ) → bvadd n (bvadd n a b) c ≡ bvadd n a (bvadd n b c)
  pub comm : (n a b : ℕ) → bvadd n a b ≡ bvadd n b a
  pub zero : (n a : ℕ) → a < 2 ^ n → bvadd n 0 a ≡ a
  pub negated : (n a : ℕ) → a < 2 ^ n → bvadd n a (bvneg n a) ≡ 0
  pub complement : (n a : ℕ) → a < 2 ^ n → bvneg n a ≡ bvadd n (bvnot n a) (1 % 2 ^ n)

pub record ProductLaws : Type 0 where
  pub assoc : (n a b c : ℕ) → bvmul n (bvmul n a b) c ≡ bvmul n a (bvmul n b c)
  pub comm : (n a b : ℕ) → bvmul n a b ≡ bvmul n b a
  pub one : (n a : ℕ) → a < 2 ^ n → bvmul n (1 % 2 ^ n) a ≡ a
  pub zero : (n a : ℕ) → bvmul n 0 a ≡ 0
