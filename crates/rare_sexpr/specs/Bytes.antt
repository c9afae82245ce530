-- The bytes of a text, and their places
-- (SMT-LIB 2.6, sections on the lexicon and on s-expressions).
use Rattle.std.specs.Prelude.{ℕ, ◌+◌, Bool, not, ◌&&◌, ◌||◌, List, [], ◌∷◌, nat_eq, nat_le, if◌then◌else◌}
use Rattle.rare_base.specs.declared.answers.Place.{Place}

-- a space, a tab, a line feed or a carriage return
abbrev pub is_blank : ℕ → Bool
is_blank b = nat_eq b 32 || nat_eq b 9 || nat_eq b 10 || nat_eq b 13

abbrev pub is_in_range : ℕ → ℕ → ℕ → Bool
is_in_range low high b = nat_le low b && nat_le b high

-- ~ ! @ $ % ^ & * _
abbrev pub is_mark : ℕ → Bool
is_mark b =
    nat_eq b 126 || nat_eq b 33 || nat_eq b 64 || nat_eq b 36 || nat_eq b 37 || nat_eq b 94 || nat_eq b 38 || nat_eq b 42 || nat_eq b 95

-- - + = < > . ? /
abbrev pub is_sign : ℕ → Bool
is_sign b = nat_eq b 45 || nat_eq b 43 || nat_eq b 61 || nat_eq b 60 || nat_eq b 62 || nat_eq b 46 || nat_eq b 63 || nat_eq b 47

abbrev pub is_digit : ℕ → Bool
is_digit b = is_in_range 48 57 b

abbrev pub is_hex_digit : ℕ → Bool
is_hex_digit b = is_digit b || (is_in_range 97 102 b || is_in_range 65 70 b)

abbrev pub is_binary_digit : ℕ → Bool
is_binary_digit b = nat_eq b 48 || nat_eq b 49

-- of a simple symbol: a letter, a digit, or one of the marks and signs
abbrev pub is_symbol_byte : ℕ → Bool
is_symbol_byte b = is_in_range 97 122 b || is_in_range 65 90 b || is_digit b || is_sign b || is_mark b

-- what may stand behind a bare atom: a blank, a parenthesis, `;`, a quote or a bar
abbrev pub ends_atom : ℕ → Bool
ends_atom b = nat_eq b 32 || nat_eq b 9 || nat_eq b 10 || nat_eq b 13 || nat_eq b 40 || nat_eq b 41 || nat_eq b 59 || nat_eq b 34 || nat_eq b 124

-- what a comment ends with: a line feed or a carriage return
abbrev pub ends_comment : ℕ → Bool
ends_comment b = nat_eq b 10 || nat_eq b 13

-- what may stand between the bars of a quoted symbol: neither a bar nor a backslash
abbrev pub is_in_bars : ℕ → Bool
is_in_bars b = not (nat_eq b 124 || nat_eq b 92)

-- the place behind a byte at this place: a line ends with a line feed alone
abbrev pub after : ℕ → Place → Place
after b p = if nat_eq b 10 then record { line = p.line + 1; column = 1 } else record { line = p.line; column = p.column + 1 }

-- the place behind these bytes
abbrev pub behind : Place → List ℕ → Place
behind p [] = p
behind p (b ∷ bs) = behind (after b p) bs
