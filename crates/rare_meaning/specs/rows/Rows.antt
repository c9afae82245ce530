-- How a row of a table of values is read: an operator, applied to these arguments, gives this value, in every setting.
use Rattle.std.specs.Prelude.{◌≡◌, ℕ, ℤ, pos, neg_ℤ, Bool, List, [], ◌∷◌, map}
use Rattle.rare_sort.specs.Each.{Each}
use Rattle.rare_sort.specs.declared.head.Head.{Head}
use Rattle.rare_meaning.specs.Settings.{Item, Group, Setting, one}
use Rattle.rare_meaning.specs.Splicing.{joined}
use Rattle.rare_meaning.specs.Operators.{truth, whole, bits}
use Rattle.rare_meaning.specs.Meaning.{here}

-- the application with these indices to what stands in the places of its arguments
abbrev pub YieldsFor : Setting → Head → List ℤ → List Group → Item → Type 0
YieldsFor e h ns gs value = here e h ns (joined gs) ≡ one value

-- each argument is one item
abbrev pub Yields : Setting → Head → List ℤ → List Item → Item → Type 0
Yields e h ns is value = YieldsFor e h ns (map one is) value

-- 0 minus a number
abbrev pub negative : ℕ → ℤ
negative n = neg_ℤ (pos n)

-- ---- tables: the arguments, and then the value

abbrev pub OnTruths : Setting → Head → List (List Bool × Bool) → Type 0
OnTruths e h rows = Each (λ r. Yields e h [] (map truth r.0) (truth r.1)) rows

abbrev pub OnInts : Setting → Head → List (List ℤ × ℤ) → Type 0
OnInts e h rows = Each (λ r. Yields e h [] (map whole r.0) (whole r.1)) rows

abbrev pub IntTests : Setting → Head → List (List ℤ × Bool) → Type 0
IntTests e h rows = Each (λ r. Yields e h [] (map whole r.0) (truth r.1)) rows

-- bit vectors of width 4
abbrev pub OnBits : Setting → Head → List (List ℕ × ℕ) → Type 0
OnBits e h rows = Each (λ r. Yields e h [] (map (bits 4) r.0) (bits 4 r.1)) rows

abbrev pub BitTests : Setting → Head → List (List ℕ × Bool) → Type 0
BitTests e h rows = Each (λ r. Yields e h [] (map (bits 4) r.0) (truth r.1)) rows

-- one bit vector by an index: index, number, width and number of the result
abbrev pub ByIndex : Setting → Head → List (ℕ × ℕ × ℕ × ℕ) → Type 0
ByIndex e h rows = Each (λ r. Yields e h (pos r.0 ∷ []) (bits 4 r.1 ∷ []) (bits r.2 r.3)) rows
