-- Functions as finite maps, written as lists: where there is no entry, a symbol gives the zero of its sort, and a quotient or a
-- remainder by 0 is 0. That these are enough among the structures of SMT-LIB 2.6 is not claimed.
use Rattle.std.specs.Prelude.{◌≡◌, ℕ, nat_eq, ℤ, pos, ◌&&◌, Bool, true, false, List, [], ◌∷◌, map, Option, Some, None, slice_get, if◌then◌else◌}
use Rattle.std.specs.Ordering.{int_eq}
use Rattle.rare_sort.specs.Each.{Each, EachPair}
use Rattle.rare_sort.specs.declared.sort.Signature.{Signature}
use Rattle.rare_meaning.specs.Values.{Value, ClosedSort, Truths, value_eq, zero_of, Fits}
use Rattle.rare_meaning.specs.ClosedSorts.{sort_under}
use Rattle.rare_meaning.specs.Settings.{Setting, one, nothing}

-- the value of a symbol at these values of its arguments
pub record Entry : Type 0 where
  pub symbol : ℕ
  pub args : List Value
  pub value : Value

-- the quotient or the remainder of the dividend by 0
pub record Point : Type 0 where
  pub dividend : ℤ
  pub value : ℤ

-- of two entries for one place the first counts
pub record Maps : Type 0 where
  pub symbols : List Entry
  pub quotients : List Point
  pub remainders : List Point

abbrev pub values_eq : List Value → List Value → Bool
values_eq [] [] = true
values_eq (v ∷ vs) (w ∷ ws) = value_eq v w && values_eq vs ws
values_eq [] (w ∷ ws) = false
values_eq (v ∷ vs) [] = false

abbrev pub value_in : List Entry → ℕ → List Value → Value → Value
value_in [] symbol args zero = zero
value_in (e ∷ es) symbol args zero =
    if nat_eq e.symbol symbol && values_eq e.args args then e.value else (value_in es symbol args zero)

abbrev pub value_by_zero : List Point → ℤ → ℤ
value_by_zero [] z = pos 0
value_by_zero (p ∷ ps) z = if int_eq p.dividend z then p.value else (value_by_zero ps z)

-- the functions of the setting are these maps
pub record IsReadFrom (m : Maps) (e : Setting) : Type 0 where
  pub symbols : (k : ℕ) (vs : List Value) → e.symbol_value k vs ≡ value_in m.symbols k vs (zero_of (e.symbol_sort k))
  pub quotients : (z : ℤ) → e.quotient_by_zero z ≡ value_by_zero m.quotients z
  pub remainders : (z : ℤ) → e.remainder_by_zero z ≡ value_by_zero m.remainders z

-- ---- maps that fit, and their setting

-- the entry has values of the sorts of its symbol
pub record IsFittingEntry (symbols : List Signature) (number : ℕ → ℤ) (x : Entry) : Type 0 where
  pub signature : Signature
  pub declared : slice_get symbols x.symbol ≡ Some signature
  pub args : EachPair Fits x.args (map (sort_under number) signature.args)
  pub value : Fits x.value (sort_under number signature.gives)

abbrev pub FitSymbols : List Signature → (ℕ → ℤ) → Maps → Type 0
FitSymbols symbols number m = Each (IsFittingEntry symbols number) m.symbols

abbrev pub result_sort : (ℕ → ℤ) → Option Signature → ClosedSort
result_sort number (Some g) = sort_under number g.gives
result_sort number None = Truths

-- the interpretation by these maps at these numbers
abbrev pub setting_of : List Signature → (ℕ → ℤ) → Maps → Setting
setting_of symbols number m = record {
  number = number;
  symbol_sort = λ k. result_sort number (slice_get symbols k);
  symbol_value = λ k vs. value_in m.symbols k vs (zero_of (result_sort number (slice_get symbols k)));
  quotient_by_zero = value_by_zero m.quotients;
  remainder_by_zero = value_by_zero m.remainders;
  group = λ k. one nothing;
  hole = one nothing;
}
