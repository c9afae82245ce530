-- The numbers that the digits of numerals and of literals spell (SMT-LIB 2.6, section on the lexicon).
use Rattle.std.specs.Prelude.{ℕ, ◌+◌, ◌*◌, ◌-◌, ◌^◌, nat_lt, nat_le, List, [], ◌∷◌, Option, Some, None, if◌then◌else◌}

-- the largest number of a linear expression, and the largest of a literal
abbrev pub LARGEST_SMALL : ℕ
LARGEST_SMALL = 2 ^ 127 - 1

abbrev pub LARGEST_WIDE : ℕ
LARGEST_WIDE = 2 ^ 128 - 1

-- what a digit counts: 0 to 9, and a to f or A to F from 10 on
abbrev pub digit_value : ℕ → ℕ
digit_value b = if nat_lt b 58 then b - 48 else (if nat_lt b 97 then b - 55 else b - 87)

-- the number of digits to a base, behind the number of those before
abbrev pub digits_from : ℕ → ℕ → List ℕ → ℕ
digits_from base n [] = n
digits_from base n (b ∷ bs) = digits_from base (base * n + digit_value b) bs

-- the number that digits to a base spell
abbrev pub digits_number : ℕ → List ℕ → ℕ
digits_number base text = digits_from base 0 text

abbrev pub up_to : ℕ → ℕ → Option ℕ
up_to largest n = if nat_le n largest then Some n else None

-- the number that digits to a base spell, where it is at most 2^128 - 1
abbrev pub wide_number : ℕ → List ℕ → Option ℕ
wide_number base text = up_to LARGEST_WIDE (digits_number base text)

-- the number that a numeral spells, where it is at most 2^127 - 1
abbrev pub small_number : List ℕ → Option ℕ
small_number text = up_to LARGEST_SMALL (digits_number 10 text)
