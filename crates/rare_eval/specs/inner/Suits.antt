-- What the arguments of a well-sorted application are, as far as code needs it.
use Rattle.std.specs.Prelude.{◌≡◌, ℕ, ◌≤◌, ◌<◌, ℤ, pos, ◌≤ℤ◌, ◌⊎◌, Bool, true, List, [], ◌∷◌, length}
use Rattle.rare_sort.specs.Each.{Each}
use Rattle.rare_sort.specs.Families.{family}
use Rattle.rare_sort.specs.declared.sort.Sort.{Sort, Bool as Truth}
use Rattle.rare_sort.specs.declared.head.Head.{Head}
use Rattle.rare_sort.specs.declared.head.Head.TheVariants as head
use Rattle.rare_sort.specs.declared.family.Family.{Family}
use Rattle.rare_sort.specs.declared.family.Family.TheVariants as kind
use Rattle.rare_sort.specs.declared.family.Count.TheVariants as count
use Rattle.rare_meaning.specs.ClosedSorts.{to_nat}
use Rattle.rare_meaning.specs.Settings.{Item}
use Rattle.rare_eval.specs.inner.Groups.{is_on_word}
use Rattle.rare_meaning.specs.Operators.{truth, bits}

-- a bit vector of this width
abbrev pub IsWord : ℕ → Item → Type 0
IsWord w i = (n : ℕ) × (i ≡ bits w n)

-- bit vectors of one width
abbrev pub AreWords : List Item → Type 0
AreWords is = (w : ℕ) × Each (IsWord w) is

abbrev pub IsAnyWord : Item → Type 0
IsAnyWord i = (w : ℕ) × IsWord w i

abbrev pub IsTruthItem : Item → Type 0
IsTruthItem i = (b : Bool) × (i ≡ truth b)

abbrev pub SuitsFamily : Family → List Item → Type 0
SuitsFamily (kind.Fixed (count.Exactly n) s t) is = length is ≤ n
SuitsFamily (kind.Fixed count.Several s t) is = Unit {0}
SuitsFamily kind.Alike is = Unit {0}
SuitsFamily kind.Choice is = length is ≤ 3
SuitsFamily (kind.BitVectors (count.Exactly n) o) is = (length is ≤ n) × AreWords is
SuitsFamily (kind.BitVectors count.Several o) is = AreWords is
SuitsFamily kind.Concat is = Each IsAnyWord is
SuitsFamily kind.Extract is = length is ≤ 1
SuitsFamily kind.Extend is = length is ≤ 1
SuitsFamily kind.Rotate is = length is ≤ 1
SuitsFamily kind.Repeat is = length is ≤ 1
SuitsFamily kind.Bits is = length is ≤ 0
SuitsFamily kind.Literal is = length is ≤ 0
SuitsFamily f is = ⊥

-- what the first arguments are; no more than two under `distinct`, or truth values
abbrev pub Suits : Head → List Item → Type 0
Suits head.Distinct is = (length is ≤ 2) ⊎ Each IsTruthItem is
Suits h is = SuitsFamily (family h) is

-- what two values are, of an operator that is computed on two
abbrev pub Meet : Family → Item → Item → Type 0
Meet (kind.BitVectors c o) i j = (w : ℕ) × IsWord w i × IsWord w j
Meet kind.Concat i j = IsAnyWord i × IsAnyWord j
Meet f i j = Unit {0}

-- what an operator on a bit vector of this width asks of its indices
abbrev pub AreMet : Head → (first second : ℤ) → ℕ → Type 0
AreMet head.Extract j i w = (pos 0 ≤ℤ i) × (i ≤ℤ j) × (to_nat j < w)
AreMet head.ZeroExtend k i w = pos 0 ≤ℤ k
AreMet head.SignExtend k i w = pos 0 ≤ℤ k
AreMet head.RotateLeft k i w = pos 0 ≤ℤ k
AreMet head.RotateRight k i w = pos 0 ≤ℤ k
AreMet head.Repeat k i w = pos 1 ≤ℤ k
AreMet h j i w = Unit {0}

-- a bit vector, where the operator takes one
abbrev pub IsWordFor : Head → Item → Type 0
IsWordFor h i = is_on_word h ≡ true → IsAnyWord i

-- the first sort is that of truth values
abbrev pub StartsWithTruth : List Sort → Type 0
StartsWithTruth [] = ⊥
StartsWithTruth (s ∷ ss) = s ≡ Truth

-- no more than two arguments, or truth values
abbrev pub FewOrTruths : List Sort → Type 0
FewOrTruths ss = (length ss ≤ 2) ⊎ StartsWithTruth ss
