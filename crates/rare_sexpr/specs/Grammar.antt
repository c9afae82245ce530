-- Which bytes spell expressions
-- (SMT-LIB 2.6, sections on the lexicon and on s-expressions).
use Rattle.std.specs.Prelude.{◌≡◌, ℕ, suc, ◌<◌, Bool, true, false, not, List, [], ◌∷◌, ◌++◌, length, nat_eq}
use Rattle.std.specs.List.{list_all}
use Rattle.rare_base.specs.declared.answers.Place.{Place}
use Rattle.rare_sexpr.specs.declared.tree.AtomKind.{AtomKind}
use Rattle.rare_sexpr.specs.declared.tree.AtomKind.TheVariants.{Symbol, Keyword, Numeral, Decimal, Binary, Hex, Quoted}
use Rattle.rare_sexpr.specs.declared.tree.Sexpr.{Sexpr}
use Rattle.rare_sexpr.specs.Tree.{atom_of, list_of}
use Rattle.rare_sexpr.specs.Limits.{most_nested_lists}
use Rattle.rare_sexpr.specs.Written.{doubled}
use Rattle.rare_sexpr.specs.Bytes.{is_blank, is_symbol_byte, is_digit, is_hex_digit, is_binary_digit, is_in_bars, ends_atom, ends_comment, behind}

-- no line feed and no carriage return
abbrev pub is_one_line : List ℕ → Bool
is_one_line = list_all (λ b. not (ends_comment b))

-- blanks, and comments each with the byte that ends it
pub data IsGap : List ℕ → Type 0 where
  none : IsGap []
  blank : (b : ℕ) (bs : List ℕ) → is_blank b ≡ true → IsGap bs → IsGap (b ∷ bs)
  comment : (text : List ℕ) (b : ℕ) (bs : List ℕ) → is_one_line text ≡ true → ends_comment b ≡ true → IsGap bs → IsGap (59 ∷ (text ++ b ∷ bs))

-- such bytes at the end of a text, where a comment may run to the end
pub data IsLastGap : List ℕ → Type 0 where
  whole : (gap : List ℕ) → IsGap gap → IsLastGap gap
  cut : (gap text : List ℕ) → IsGap gap → is_one_line text ≡ true → IsLastGap (gap ++ 59 ∷ text)

-- one or more of these bytes
pub record Are (test : ℕ → Bool) (bytes : List ℕ) : Type 0 where
  pub some : 0 < length bytes
  pub each : list_all test bytes ≡ true

abbrev pub has_no_digit_first : List ℕ → Bool
has_no_digit_first [] = true
has_no_digit_first (b ∷ bs) = not (is_digit b)

-- the bytes of an atom without bars or quotes, of this kind and text
pub data Bare : AtomKind → List ℕ → List ℕ → Type 0 where
  symbol : (text : List ℕ) → Are is_symbol_byte text → has_no_digit_first text ≡ true → Bare Symbol text text
  keyword : (text : List ℕ) → Are is_symbol_byte text → Bare Keyword text (58 ∷ text)
  numeral : (text : List ℕ) → Are is_digit text → Bare Numeral text text
  decimal : (text part : List ℕ) → Are is_digit text → Are is_digit part → Bare Decimal (text ++ 46 ∷ part) (text ++ 46 ∷ part)
  binary : (text : List ℕ) → Are is_binary_digit text → Bare Binary text (35 ∷ 98 ∷ text)
  hex : (text : List ℕ) → Are is_hex_digit text → Bare Hex text (35 ∷ 120 ∷ text)

-- the end of the text, or a byte that may stand behind a bare atom
abbrev pub may_follow_bare : List ℕ → Bool
may_follow_bare [] = true
may_follow_bare (b ∷ rest) = ends_atom b

abbrev pub has_quote_first : List ℕ → Bool
has_quote_first [] = false
has_quote_first (b ∷ rest) = nat_eq b 34

-- the bytes of an atom of this kind and text, which this rest may follow
pub data Atom : AtomKind → List ℕ → List ℕ → List ℕ → Type 0 where
  bare : (k : AtomKind) (text word rest : List ℕ) → Bare k text word → may_follow_bare rest ≡ true → Atom k text word rest
  bars : (text rest : List ℕ) → list_all is_in_bars text ≡ true → Atom Symbol text (124 ∷ (text ++ 124 ∷ [])) rest
  quotes : (text rest : List ℕ) → has_quote_first rest ≡ false → Atom Quoted text (34 ∷ (doubled text ++ 34 ∷ [])) rest

-- Expressions one behind the other, of at most so many nested lists. At this place stand their bytes, a
-- gap before each, and these bytes follow the last.
pub data Spell : ℕ → List Sexpr → Place → List ℕ → List ℕ → Type 0 where
  none : (d : ℕ) (p : Place) (rest : List ℕ) → Spell d [] p [] rest
  atom : (d : ℕ) (k : AtomKind) (text : List ℕ) (es : List Sexpr) (p : Place) (gap word more rest : List ℕ) → IsGap gap → Atom k text word (more ++ rest) → Spell d es (behind p (gap ++ word)) more rest →
      Spell d (atom_of (behind p gap) k text ∷ es) p (gap ++ (word ++ more)) rest
  list : (d : ℕ) (items es : List Sexpr) (p : Place) (gap inner last more rest : List ℕ) → IsGap gap → Spell d items (behind p (gap ++ 40 ∷ [])) inner (last ++ 41 ∷ (more ++ rest)) → IsGap last →
      Spell (suc d) es (behind p (gap ++ (40 ∷ (inner ++ (last ++ 41 ∷ []))))) more rest →
      Spell (suc d) (list_of (behind p gap) items ∷ es) p (gap ++ (40 ∷ (inner ++ (last ++ 41 ∷ more)))) rest

-- a gap and the bytes of one expression, of at most 5,000 nested lists, which this rest may follow
abbrev pub Spells : Sexpr → Place → List ℕ → List ℕ → Type 0
Spells e p bytes rest = Spell most_nested_lists (e ∷ []) p bytes rest
