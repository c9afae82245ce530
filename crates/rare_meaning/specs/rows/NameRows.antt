-- Values of symbols and of the parameters of a rule, and of finite maps, worked by hand.
use Rattle.std.specs.Prelude.{◌≡◌, ℕ, pos, List, [], ◌∷◌}
use Rattle.rare_sort.specs.declared.head.Head.TheVariants as head
use Rattle.rare_meaning.specs.Values.{Value, Whole, zero_of}
use Rattle.rare_meaning.specs.Settings.{Item, Group, Setting, item}
use Rattle.rare_meaning.specs.FiniteMaps.{Entry, Point, Maps, IsReadFrom, value_in, value_by_zero}
use Rattle.rare_meaning.specs.Operators.{whole}
use Rattle.rare_meaning.specs.Meaning.{here}
use Rattle.rare_meaning.specs.rows.Rows.{negative, Yields}

abbrev pub no_entries : Maps
no_entries = record { symbols = []; quotients = []; remainders = [] }

-- of symbol 2: 5 at 1, and a second entry for the same place
abbrev pub five_at_one : List Entry
five_at_one = record { symbol = 2; args = Whole (pos 1) ∷ []; value = Whole (pos 5) } ∷ record { symbol = 2; args = Whole (pos 1) ∷ []; value = Whole (pos 6) } ∷ []

abbrev pub three_at_seven : List Point
three_at_seven = record { dividend = pos 7; value = pos 3 } ∷ []

abbrev pub sample_value : ℕ → List Value → Value
sample_value k vs = value_in five_at_one k vs (Whole (pos 0))

pub record NameRows (e : Setting) : Type 0 where
  pub symbol : Yields e (head.Free 2) [] (whole (pos 1) ∷ []) (item (e.symbol_sort 2) (e.symbol_value 2 (Whole (pos 1) ∷ [])))
  pub constant : Yields e (head.Free 0) [] [] (item (e.symbol_sort 0) (e.symbol_value 0 []))
  pub parameter : (g : Group) → here e (head.Param 3) [] g ≡ e.group 3
  pub hole : (g : Group) → here e head.Hole [] g ≡ e.hole
  pub entry : sample_value 2 (Whole (pos 1) ∷ []) ≡ Whole (pos 5)
  -- no entry at these values, of this symbol, for so many arguments
  pub no_entry : (sample_value 2 (Whole (pos 2) ∷ []) ≡ Whole (pos 0)) × (sample_value 1 (Whole (pos 1) ∷ []) ≡ Whole (pos 0)) × (sample_value 2 [] ≡ Whole (pos 0))
  pub point : value_by_zero three_at_seven (pos 7) ≡ pos 3
  pub no_point : value_by_zero three_at_seven (negative 7) ≡ pos 0
  -- where functions are finite maps, what has no entry is the zero
  pub missing : IsReadFrom no_entries e → (is : List Item) → Yields e (head.Free 2) [] is (item (e.symbol_sort 2) (zero_of (e.symbol_sort 2)))
  pub missing_quotient : IsReadFrom no_entries e → Yields e head.Div [] (whole (pos 7) ∷ whole (pos 0) ∷ []) (whole (pos 0))
  pub missing_remainder : IsReadFrom no_entries e → Yields e head.Mod [] (whole (pos 7) ∷ whole (pos 0) ∷ []) (whole (pos 0))
