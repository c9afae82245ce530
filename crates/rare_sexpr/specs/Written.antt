-- How a symbol and a string are written
-- (SMT-LIB 2.6, sections on the lexicon and on s-expressions).
use Rattle.std.specs.Prelude.{◌≡◌, ℕ, Bool, false, not, ◌&&◌, List, [], ◌∷◌, ◌++◌, take, nat_eq, if◌then◌else◌}
use Rattle.std.specs.List.{list_all}
use Rattle.rare_sexpr.specs.Bytes.{is_symbol_byte, is_digit}

abbrev pub are_symbol_bytes : List ℕ → Bool
are_symbol_bytes = list_all is_symbol_byte

-- one or more symbol bytes, no digit first
abbrev pub is_simple : List ℕ → Bool
is_simple [] = false
is_simple (b ∷ bs) = not (is_digit b) && are_symbol_bytes (b ∷ bs)

-- bare, or between bars
abbrev pub written_symbol : List ℕ → List ℕ
written_symbol symbol = if is_simple symbol then symbol else 124 ∷ symbol ++ 124 ∷ []

-- a quote in a string is written twice
abbrev pub doubled : List ℕ → List ℕ
doubled [] = []
doubled (b ∷ bs) = if nat_eq b 34 then 34 ∷ 34 ∷ doubled bs else b ∷ doubled bs

abbrev pub written_string : List ℕ → List ℕ
written_string bytes = 34 ∷ doubled bytes ++ 34 ∷ []

-- the old bytes, and perhaps the front of these
abbrev pub IsCut : List ℕ → List ℕ → List ℕ → Type 0
IsCut old text new = (n : ℕ) × (new ≡ old ++ take n text)
