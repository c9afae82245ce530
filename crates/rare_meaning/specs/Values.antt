-- The values of the four theories (SMT-LIB 2.6, theories Core, Ints, ArraysEx and FixedSizeBitVectors). An array is a finite map
-- whose missing entries are the zero of its entries' sort, and the elements of a declared sort are the natural numbers.
use Rattle.std.specs.Prelude.{◌≡◌, ℕ, ℤ, pos, negsuc, ◌<◌, ◌^◌, Bool, true, false, not, List, [], ◌∷◌, ◌++◌, IsTrue, ⊤, if◌then◌else◌, unwrap_or}
use Rattle.std.specs.declared.cmp.Ordering.{Ordering}
use Rattle.std.specs.Ordering.{nat_cmp, eq_by_cmp}
use Rattle.std.specs.Cmp.Lexicographic.{slice_cmp}
use Rattle.std.specs.FinMap.Entries.{find, put, where_key, is_sorted}

mutual
  pub data Value : Type 0 where
    Truth : Bool → Value
    Whole : ℤ → Value
    Bits : (width number : ℕ) → Value
    Element : (sort number : ℕ) → Value
    Array : Entries → Value

  -- the entries of an array that are not zero, by rising keys
  pub data Entries : Type 0 where
    no_entry : Entries
    entry : (key value : Value) → (rest : Entries) → Entries

-- a sort whose widths are numbers
pub data ClosedSort : Type 0 where
  Truths : ClosedSort
  Wholes : ClosedSort
  BitVectors : (width : ℕ) → ClosedSort
  Elements : (sort : ℕ) → ClosedSort
  Arrays : (keys entries : ClosedSort) → ClosedSort

abbrev pub zero_of : ClosedSort → Value
zero_of Truths = Truth false
zero_of Wholes = Whole (pos 0)
zero_of (BitVectors n) = Bits n 0
zero_of (Elements s) = Element s 0
zero_of (Arrays k e) = Array no_entry

-- ---- sameness and an order of values

abbrev pub spelled_int : ℤ → List ℕ
spelled_int (pos n) = 0 ∷ n ∷ []
spelled_int (negsuc n) = 1 ∷ n ∷ []

abbrev pub bit_of : Bool → ℕ
bit_of true = 1
bit_of false = 0

-- a value written as numbers, so that different values are written differently
abbrev mutual
  pub spelled : Value → List ℕ
  spelled (Truth b) = 0 ∷ bit_of b ∷ []
  spelled (Whole z) = 1 ∷ spelled_int z
  spelled (Bits w n) = 2 ∷ w ∷ n ∷ []
  spelled (Element s n) = 3 ∷ s ∷ n ∷ []
  spelled (Array m) = 4 ∷ spelled_entries m

  pub spelled_entries : Entries → List ℕ
  spelled_entries no_entry = 0 ∷ []
  spelled_entries (entry k v rest) = 1 ∷ (spelled k ++ (spelled v ++ spelled_entries rest))

-- one order of all values, in which the keys of an array rise
abbrev pub value_order : Value → Value → Ordering
value_order a b = slice_cmp nat_cmp (spelled a) (spelled b)

-- whether two values are one
abbrev pub value_eq : Value → Value → Bool
value_eq a b = eq_by_cmp value_order a b

-- ---- arrays

abbrev pub entry_list : Entries → List (Value × Value)
entry_list no_entry = []
entry_list (entry k v rest) = (k, v) ∷ entry_list rest

abbrev pub entries_from : List (Value × Value) → Entries
entries_from [] = no_entry
entries_from (e ∷ es) = entry e.0 e.1 (entries_from es)

-- the value at a key, where there is no entry the zero
abbrev pub entry_at : Value → Value → Entries → Value
entry_at zero k m = unwrap_or (find value_order k (entry_list m)) zero

-- the entries after a write of v at k; an entry that is zero is left out
abbrev pub written_list : Value → Value → Value → List (Value × Value) → List (Value × Value)
written_list zero k v es =
    if value_eq v zero then (where_key value_order (λ x. not (value_eq k x)) es) else (put value_order k v es)

abbrev pub written : Value → Value → Value → Entries → Entries
written zero k v m = entries_from (written_list zero k v (entry_list m))

-- ---- parts of values and of closed sorts

abbrev pub truth_of : Value → Bool
truth_of (Truth b) = b
truth_of _ = false

abbrev pub whole_of : Value → ℤ
whole_of (Whole z) = z
whole_of _ = pos 0

abbrev pub bits_number : Value → ℕ
bits_number (Bits w n) = n
bits_number _ = 0

abbrev pub entries_of : Value → Entries
entries_of (Array m) = m
entries_of _ = no_entry

abbrev pub width_of : ClosedSort → ℕ
width_of (BitVectors n) = n
width_of _ = 0

abbrev pub entry_sort : ClosedSort → ClosedSort
entry_sort (Arrays k e) = e
entry_sort _ = Truths

-- ---- values of a sort

abbrev mutual
  -- the value is of this sort
  pub Fits : Value → ClosedSort → Type 0
  Fits (Truth b) Truths = ⊤
  Fits (Whole z) Wholes = ⊤
  Fits (Bits v a) (BitVectors w) = (v ≡ w) × (a < 2 ^ w)
  Fits (Element v a) (Elements w) = v ≡ w
  Fits (Array m) (Arrays k e) = IsTrue (is_sorted value_order (entry_list m)) × FitEach m k e
  Fits _ _ = ⊥

  -- keys and entries fit, and no entry is zero
  pub FitEach : Entries → ClosedSort → ClosedSort → Type 0
  FitEach no_entry k e = ⊤
  FitEach (entry a v rest) k e = Fits a k × Fits v e × (value_eq v (zero_of e) ≡ false) × FitEach rest k e
