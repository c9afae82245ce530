-- Which values a sort without names has.
use Rattle.std.specs.Prelude.{◌≡◌, ℕ, ◌^◌, ◌<◌, ◌≤◌, ℤ, pos, Bool as Test}
use Rattle.rare_linear.specs.Linears.{LinearExpression, number}
use Rattle.rare_sort.specs.declared.sort.Sort.{Sort, Bool, Int, BitVec, Array', Named}
use Rattle.rare_meaning.specs.Settings.{Item}
use Rattle.rare_meaning.specs.Operators.{truth, whole, bits}

-- a bit vector of this width, which is at least 1
pub record IsWordOf (w : LinearExpression) (i : Item) : Type 0 where
  pub width : ℕ
  pub bits_of : ℕ
  pub named : w ≡ number (pos width)
  pub some : 1 ≤ width
  pub below : bits_of < 2 ^ width
  pub is : i ≡ bits width bits_of

abbrev pub IsValueOf : Sort → Item → Type 0
IsValueOf Bool i = (b : Test) × (i ≡ truth b)
IsValueOf Int i = (z : ℤ) × (i ≡ whole z)
IsValueOf (BitVec w) i = IsWordOf w i
IsValueOf (Array' p k q e) i = ⊥
IsValueOf (Named k) i = ⊥
