-- Sorts at numbers for their names (SMT-LIB 2.6, theory FixedSizeBitVectors: a sort of bit vectors for each width).
use Rattle.std.specs.Prelude.{ℕ, ℤ, pos, negsuc}
use Rattle.rare_linear.specs.Linears.{linear_value}
use Rattle.rare_meaning.specs.Values.{ClosedSort, Truths, Wholes, BitVectors, Elements, Arrays}
use Rattle.rare_sort.specs.declared.sort.Sort.{Sort, Bool, Int, BitVec, Array', Named, Row_of-Sort, end_of-Sort, more_of-Sort}

-- a number below 0 counts as 0; what is well sorted has none in the place of a width or an index
abbrev pub to_nat : ℤ → ℕ
to_nat (pos n) = n
to_nat (negsuc n) = 0

module _ (number : ℕ → ℤ) (named : ℕ → ClosedSort) where
  abbrev mutual
    -- the sort at values of its names
    pub closed_sort : Sort → ClosedSort
    closed_sort Bool = Truths
    closed_sort Int = Wholes
    closed_sort (BitVec w) = BitVectors (to_nat (linear_value number w))
    closed_sort (Array' _ keys _ entries) = Arrays (closed_part keys) (closed_part entries)
    closed_sort (Named k) = named k

    pub closed_part : {n : _} → Row_of-Sort n → ClosedSort
    closed_part end_of-Sort = Truths
    closed_part (more_of-Sort s rest) = closed_sort s

-- a sort of a problem: a declared sort is itself
abbrev pub sort_under : (ℕ → ℤ) → Sort → ClosedSort
sort_under number s = closed_sort number Elements s
