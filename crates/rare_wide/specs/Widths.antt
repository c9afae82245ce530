-- Widths, and the bit vectors of a width as numbers.
use Rattle.std.specs.Prelude.{ℕ, ◌^◌, ◌<◌, ◌≤◌}

-- the widest bit vectors that are computed
abbrev pub most_bits : ℕ
most_bits = 128

-- a width from 1 on, and the number of a bit vector of that width
pub record IsBitVector (width a : ℕ) : Type 0 where
  pub low : 1 ≤ width
  pub high : width ≤ most_bits
  pub below : a < 2 ^ width
