-- Settings: what width names, symbols, division by 0 and the parameters of a rule stand for (SMT-LIB 2.6, section on structures
-- and satisfiability; theory Ints for division and remainder by 0, which are functions of the dividend).
use Rattle.std.specs.Prelude.{ℕ, ℤ, false, List, [], ◌∷◌, map}
use Rattle.rare_sort.specs.declared.sort.Sort.{Sort}
use Rattle.rare_meaning.specs.Values.{Value, Truth, ClosedSort, Truths}
use Rattle.rare_meaning.specs.ClosedSorts.{sort_under}

-- a value with its sort
pub record Item : Type 0 where
  pub sort : ClosedSort
  pub value : Value

-- what stands in one argument's place: one item, or those of a list variable, whose elements have a sort also where there are none
pub record Group : Type 0 where
  pub element : ClosedSort
  pub items : List Item

-- a valuation and an interpretation in one
pub record Setting : Type 0 where
  -- the number of a width name; in a rule also that of an index, and the total width of a list
  pub number : ℕ → ℤ
  pub symbol_sort : ℕ → ClosedSort
  pub symbol_value : ℕ → List Value → Value
  pub quotient_by_zero : ℤ → ℤ
  pub remainder_by_zero : ℤ → ℤ
  -- a parameter of a rule, and the hole of its context
  pub group : ℕ → Group
  pub hole : Group

abbrev pub item : ClosedSort → Value → Item
item s v = record { sort = s; value = v }

abbrev pub group_of : ClosedSort → List Item → Group
group_of s is = record { element = s; items = is }

-- the sort of the elements is read only where there are none
abbrev pub one : Item → Group
one i = group_of Truths (i ∷ [])

-- it stands for an argument that is missing; what is well sorted has all its arguments
abbrev pub nothing : Item
nothing = item Truths (Truth false)

-- a sort of a problem in the setting
abbrev pub sort_in : Setting → Sort → ClosedSort
sort_in e s = sort_under e.number s

abbrev pub sorts_in : Setting → List Sort → List ClosedSort
sorts_in e ss = map (sort_in e) ss

-- the same functions, with other numbers, parameters and hole
abbrev pub with_others : (ℕ → ℤ) → (ℕ → Group) → Group → Setting → Setting
with_others number group hole e = record {
  number = number;
  symbol_sort = e.symbol_sort;
  symbol_value = e.symbol_value;
  quotient_by_zero = e.quotient_by_zero;
  remainder_by_zero = e.remainder_by_zero;
  group = group;
  hole = hole;
}
