-- The words of a text: parentheses and atoms, with blanks and comments between them
-- (SMT-LIB 2.6, sections on the lexicon and on s-expressions).
use Rattle.std.specs.Prelude.{ℕ, zero, suc, ◌-◌, Bool, true, false, List, [], ◌∷◌, length, take, drop, Option, Some, None, nat_eq, if◌then◌else◌}
use Rattle.rare_base.specs.declared.answers.Place.{Place}
use Rattle.rare_sexpr.specs.declared.tree.AtomKind.{AtomKind}
use Rattle.rare_sexpr.specs.declared.tree.AtomKind.TheVariants as kind
use Rattle.rare_sexpr.specs.declared.bytes.Class.{Class}
use Rattle.rare_sexpr.specs.declared.bytes.Class.TheVariants.{Blank, LineFeed, Open, Close, Semicolon, Colon, Hash, Digit, Letter, Quote, Bar, Other}
use Rattle.rare_base.specs.declared.answers.Reason.{Reason}
use Rattle.rare_base.specs.declared.answers.Reason.TheVariants as reason
use Rattle.rare_sexpr.specs.declared.scan.Part.{Part}
use Rattle.rare_sexpr.specs.Bytes.{after, behind, ends_comment}
use Rattle.rare_sexpr.specs.inner.Classes.{class}
use Rattle.rare_sexpr.specs.inner.Scan.{Word, whole, bad, cut, scan, begins_class}

-- a word and the place of its first byte
pub data Token : Type 0 where
  opens : Place → Token
  closes : Place → Token
  atom : Place → AtomKind → List ℕ → Token
  -- here is the first fault
  wrong : Place → Reason → Token

-- between two quotes each pair of quotes stands for one
abbrev pub single : List ℕ → List ℕ
single [] = []
single (b ∷ []) = b ∷ []
single (b ∷ c ∷ bs) = if nat_eq b 34 then b ∷ single bs else b ∷ single (c ∷ bs)

-- without the first byte and the last
abbrev pub inner : List ℕ → List ℕ
inner word = take (length word - 2) (drop 1 word)

abbrev pub symbol_text : List ℕ → List ℕ
symbol_text [] = []
symbol_text (b ∷ bs) = if nat_eq b 124 then inner (b ∷ bs) else b ∷ bs

-- the text of an atom
abbrev pub text_of_word : AtomKind → List ℕ → List ℕ
text_of_word kind.Symbol word = symbol_text word
text_of_word kind.Keyword word = drop 1 word
text_of_word kind.Numeral word = word
text_of_word kind.Decimal word = word
text_of_word kind.Binary word = drop 2 word
text_of_word kind.Hex word = drop 2 word
text_of_word kind.Quoted word = single (inner word)

-- between words, in a comment, and before a byte and so many more of a word that was read
pub data Mode : Type 0 where
  between : Mode
  comment : Mode
  skips : ℕ → Mode

abbrev pub on_word : Word → Place → List ℕ → (ℕ → List Token) → List Token
on_word (whole k n) p bytes next = atom p k (text_of_word k (take n bytes)) ∷ next n
on_word (bad n) p bytes next = wrong (behind p (take n bytes)) reason.BadCharacter ∷ []
on_word (cut r) p bytes next = wrong p r ∷ []

abbrev pub begun : Option Part → Place → List ℕ → List ℕ → (ℕ → List Token) → List Token
begun (Some q) p bytes rest next = on_word (scan q 1 rest) p bytes next
begun None p bytes rest next = wrong p reason.BadCharacter ∷ []

-- before so many bytes, and behind the first of so many
abbrev pub skipping : ℕ → Mode
skipping zero = between
skipping (suc n) = skips n

abbrev pub skip_rest : ℕ → Mode
skip_rest zero = between
skip_rest (suc n) = skipping n

-- what a byte between words begins
abbrev pub begins : Class → ℕ → Place → List ℕ → (Mode → List Token) → List Token
begins Blank b p bs next = next between
begins LineFeed b p bs next = next between
begins Open b p bs next = opens p ∷ next between
begins Close b p bs next = closes p ∷ next between
begins Semicolon b p bs next = next comment
begins Colon b p bs next = begun (begins_class Colon) p (b ∷ bs) bs (λ n. next (skip_rest n))
begins Hash b p bs next = begun (begins_class Hash) p (b ∷ bs) bs (λ n. next (skip_rest n))
begins Letter b p bs next = begun (begins_class Letter) p (b ∷ bs) bs (λ n. next (skip_rest n))
begins Digit b p bs next = begun (begins_class Digit) p (b ∷ bs) bs (λ n. next (skip_rest n))
begins Quote b p bs next = begun (begins_class Quote) p (b ∷ bs) bs (λ n. next (skip_rest n))
begins Bar b p bs next = begun (begins_class Bar) p (b ∷ bs) bs (λ n. next (skip_rest n))
begins Other b p bs next = wrong p reason.BadCharacter ∷ []

abbrev pub on_byte : Mode → ℕ → Place → List ℕ → (Mode → List Token) → List Token
on_byte between b p bs next = begins (class b) b p bs next
on_byte comment b p bs next = if ends_comment b then next between else next comment
on_byte (skips n) b p bs next = next (skipping n)

-- the words of a text that goes on at this place, up to the first fault
abbrev pub words : Mode → Place → List ℕ → List Token
words m p [] = []
words m p (b ∷ bs) = on_byte m b p bs (λ m'. words m' (after b p) bs)

abbrev pub gap_mode : Bool → Mode
gap_mode true = comment
gap_mode false = between

-- what a byte is to a gap: it goes on, in a comment or not, or it ends
abbrev pub gap_class : Class → Option Bool
gap_class Blank = Some false
gap_class LineFeed = Some false
gap_class Semicolon = Some true
gap_class Open = None
gap_class Close = None
gap_class Colon = None
gap_class Hash = None
gap_class Letter = None
gap_class Digit = None
gap_class Quote = None
gap_class Bar = None
gap_class Other = None

abbrev pub gap_step : Bool → ℕ → Option Bool
gap_step true b = if ends_comment b then Some false else Some true
gap_step false b = gap_class (class b)
