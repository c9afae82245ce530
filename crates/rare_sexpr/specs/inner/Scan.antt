-- One atom, byte by byte, from its first byte on.
use Rattle.std.specs.Prelude.{◌≡◌, ℕ, ◌+◌, ◌<◌, ◌≤◌, Bool, true, not, List, [], ◌∷◌, length, get_or, nat_eq, Option, Some, None, if◌then◌else◌}
use Rattle.rare_sexpr.specs.declared.tree.AtomKind.{AtomKind}
use Rattle.rare_sexpr.specs.declared.tree.AtomKind.TheVariants as kind
use Rattle.rare_sexpr.specs.declared.bytes.Class.{Class}
use Rattle.rare_sexpr.specs.declared.bytes.Class.TheVariants as class_is
use Rattle.rare_base.specs.declared.answers.Reason.{Reason}
use Rattle.rare_base.specs.declared.answers.Reason.TheVariants as reason
use Rattle.rare_sexpr.specs.declared.scan.Part.{Part}
use Rattle.rare_sexpr.specs.declared.scan.Part.TheVariants as part
use Rattle.rare_sexpr.specs.declared.scan.Advance.{Advance}
use Rattle.rare_sexpr.specs.declared.scan.Advance.TheVariants as advance_is
use Rattle.rare_sexpr.specs.Bytes.{is_symbol_byte, is_digit, is_hex_digit, is_binary_digit, ends_atom}
use Rattle.rare_sexpr.specs.inner.Classes.{class}

-- what a byte of this class begins
abbrev pub begins_class : Class → Option Part
begins_class class_is.Letter = Some part.Symbol
begins_class class_is.Digit = Some part.Numeral
begins_class class_is.Colon = Some part.Colon
begins_class class_is.Hash = Some part.Hash
begins_class class_is.Quote = Some part.Inside
begins_class class_is.Bar = Some part.Bars
begins_class class_is.Blank = None
begins_class class_is.LineFeed = None
begins_class class_is.Open = None
begins_class class_is.Close = None
begins_class class_is.Semicolon = None
begins_class class_is.Other = None

abbrev pub begins_part : ℕ → Option Part
begins_part b = begins_class (class b)

abbrev pub behind_bare : ℕ → AtomKind → Advance
behind_bare b k = if ends_atom b then advance_is.Stops k else advance_is.Wrong

-- what the next byte is
abbrev pub advance : Part → ℕ → Advance
advance part.Symbol b = if is_symbol_byte b then advance_is.Goes part.Symbol else behind_bare b kind.Symbol
advance part.Colon b = if is_symbol_byte b then advance_is.Goes part.Keyword else advance_is.Wrong
advance part.Keyword b = if is_symbol_byte b then advance_is.Goes part.Keyword else behind_bare b kind.Keyword
advance part.Numeral b = if is_digit b then advance_is.Goes part.Numeral else if nat_eq b 46 then advance_is.Goes part.Point else behind_bare b kind.Numeral
advance part.Point b = if is_digit b then advance_is.Goes part.Fraction else advance_is.Wrong
advance part.Fraction b = if is_digit b then advance_is.Goes part.Fraction else behind_bare b kind.Decimal
advance part.Hash b = if nat_eq b 98 then advance_is.Goes part.HashB else if nat_eq b 120 then advance_is.Goes part.HashX else advance_is.Wrong
advance part.HashB b = if is_binary_digit b then advance_is.Goes part.Binary else advance_is.Wrong
advance part.Binary b = if is_binary_digit b then advance_is.Goes part.Binary else behind_bare b kind.Binary
advance part.HashX b = if is_hex_digit b then advance_is.Goes part.Hex else advance_is.Wrong
advance part.Hex b = if is_hex_digit b then advance_is.Goes part.Hex else behind_bare b kind.Hex
advance part.Bars b = if nat_eq b 124 then advance_is.Takes kind.Symbol else if nat_eq b 92 then advance_is.Wrong else advance_is.Goes part.Bars
advance part.Inside b = if nat_eq b 34 then advance_is.Goes part.Behind else advance_is.Goes part.Inside
advance part.Behind b = if nat_eq b 34 then advance_is.Goes part.Inside else advance_is.Stops kind.Quoted

-- an atom of so many bytes, a byte that fits none, or the end of the text inside
pub data Word : Type 0 where
  whole : AtomKind → ℕ → Word
  bad : ℕ → Word
  cut : Reason → Word

abbrev pub at_end : Part → ℕ → Word
at_end part.Symbol n = whole kind.Symbol n
at_end part.Keyword n = whole kind.Keyword n
at_end part.Numeral n = whole kind.Numeral n
at_end part.Fraction n = whole kind.Decimal n
at_end part.Binary n = whole kind.Binary n
at_end part.Hex n = whole kind.Hex n
at_end part.Behind n = whole kind.Quoted n
at_end part.Bars n = cut reason.OpenSymbol
at_end part.Inside n = cut reason.OpenString
at_end part.Colon n = cut reason.BadCharacter
at_end part.Point n = cut reason.BadCharacter
at_end part.Hash n = cut reason.BadCharacter
at_end part.HashB n = cut reason.BadCharacter
at_end part.HashX n = cut reason.BadCharacter

abbrev pub on_advance : Advance → ℕ → (Part → Word) → Word
on_advance (advance_is.Goes p) n next = next p
on_advance (advance_is.Takes k) n next = whole k (n + 1)
on_advance (advance_is.Stops k) n next = whole k n
on_advance advance_is.Wrong n next = bad n

-- what the rest of the bytes gives where so many were taken
abbrev pub scan : Part → ℕ → List ℕ → Word
scan p n [] = at_end p n
scan p n (b ∷ bs) = on_advance (advance p b) n (λ q. scan q (n + 1) bs)

-- in a string before its end
abbrev pub is_inside : ℕ → Bool
is_inside b = not (nat_eq b 34)

-- all bytes from one on and before another pass a test
pub record IsRun (test : ℕ → Bool) (word : List ℕ) (at end : ℕ) : Type 0 where
  pub begin : at ≤ end
  pub within : end ≤ length word
  pub each : (i : ℕ) → at ≤ i → i < end → test (get_or word i 0) ≡ true
