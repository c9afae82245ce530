-- Values of the operators of the theory ArraysEx, worked by hand (SMT-LIB 2.6, theory ArraysEx).
use Rattle.std.specs.Prelude.{true, false, pos, [], ◌∷◌}
use Rattle.rare_sort.specs.declared.head.Head.TheVariants as head
use Rattle.rare_meaning.specs.Values.{Whole, Array, no_entry, entry, Wholes, BitVectors, Arrays}
use Rattle.rare_meaning.specs.Settings.{Item, Setting, item}
use Rattle.rare_meaning.specs.Operators.{truth, whole, bits, store}
use Rattle.rare_meaning.specs.rows.Rows.{negative, Yields}

-- from Int to Int: the array without entries, and that with 5 at -2
abbrev pub zeros : Item
zeros = item (Arrays Wholes Wholes) (Array no_entry)

abbrev pub five : Item
five = item (Arrays Wholes Wholes) (Array (entry (Whole (negative 2)) (Whole (pos 5)) no_entry))

-- with 9 at 7 too; the keys that are not negative come first
abbrev pub nine : Item
nine = item (Arrays Wholes Wholes) (Array (entry (Whole (pos 7)) (Whole (pos 9)) (entry (Whole (negative 2)) (Whole (pos 5)) no_entry)))

-- 9 written at 7, and then 8 at 3; and the other way round
abbrev pub nine_then_eight : Item
nine_then_eight = store (store five (Whole (pos 7)) (Whole (pos 9))) (Whole (pos 3)) (Whole (pos 8))

abbrev pub eight_then_nine : Item
eight_then_nine = store (store five (Whole (pos 3)) (Whole (pos 8))) (Whole (pos 7)) (Whole (pos 9))

-- from Int to arrays of bit vectors: nothing but zeros
abbrev pub rows_of_zeros : Item
rows_of_zeros = item (Arrays Wholes (Arrays (BitVectors 4) (BitVectors 8))) (Array no_entry)

pub record ArrayRows (e : Setting) : Type 0 where
  pub read : Yields e head.Select [] (five ∷ whole (negative 2) ∷ []) (whole (pos 5))
  pub read_missing : Yields e head.Select [] (five ∷ whole (pos 7) ∷ []) (whole (pos 0))
  pub write : Yields e head.Store [] (five ∷ whole (pos 7) ∷ whole (pos 9) ∷ []) nine
  pub write_over : Yields e head.Store [] (five ∷ whole (negative 2) ∷ whole (pos 6) ∷ []) (item (Arrays Wholes Wholes) (Array (entry (Whole (negative 2)) (Whole (pos 6)) no_entry)))
  pub write_zero : Yields e head.Store [] (five ∷ whole (negative 2) ∷ whole (pos 0) ∷ []) zeros
  -- reading over writing
  pub read_written : Yields e head.Select [] (store five (Whole (pos 7)) (Whole (pos 9)) ∷ whole (pos 7) ∷ []) (whole (pos 9))
  pub read_beside : Yields e head.Select [] (store five (Whole (pos 7)) (Whole (pos 9)) ∷ whole (negative 2) ∷ []) (whole (pos 5))
  pub read_over_two : Yields e head.Select [] (nine_then_eight ∷ whole (pos 7) ∷ []) (whole (pos 9))
  -- equal where all entries are, whatever was written before
  pub equal_histories : Yields e head.Equal [] (nine_then_eight ∷ eight_then_nine ∷ []) (truth true)
  pub equal_erased : Yields e head.Equal [] (store five (Whole (negative 2)) (Whole (pos 0)) ∷ zeros ∷ []) (truth true)
  pub unequal : Yields e head.Equal [] (nine ∷ five ∷ []) (truth false)
  pub distinct : Yields e head.Distinct [] (nine ∷ five ∷ zeros ∷ []) (truth true)
  -- an array in an array
  pub nested_read : Yields e head.Select [] (rows_of_zeros ∷ whole (pos 1) ∷ []) (item (Arrays (BitVectors 4) (BitVectors 8)) (Array no_entry))
  pub nested_zero : Yields e head.Select [] (item (Arrays (BitVectors 4) (BitVectors 8)) (Array no_entry) ∷ bits 4 3 ∷ []) (bits 8 0)
