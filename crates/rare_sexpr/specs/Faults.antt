-- Which bytes are a fault, at which place and why
-- (SMT-LIB 2.6, sections on the lexicon and on s-expressions).
use Rattle.std.specs.Prelude.{◌≡◌, ℕ, suc, ◌<◌, false, true, List, [], ◌∷◌, ◌++◌, length}
use Rattle.std.specs.List.{list_all}
use Rattle.rare_base.specs.declared.answers.Place.{Place}
use Rattle.rare_base.specs.declared.answers.Reason.{Reason}
use Rattle.rare_base.specs.declared.answers.Reason.TheVariants.{Unbalanced, BadCharacter, OpenString, OpenSymbol, TooDeep}
use Rattle.rare_base.specs.Answers.{Refusal}
use Rattle.rare_sexpr.specs.declared.tree.AtomKind.{AtomKind}
use Rattle.rare_sexpr.specs.declared.tree.Sexpr.{Sexpr}
use Rattle.rare_sexpr.specs.Limits.{most_nested_lists}
use Rattle.rare_sexpr.specs.Written.{doubled}
use Rattle.rare_sexpr.specs.Bytes.{is_in_bars, ends_atom, behind}
use Rattle.rare_sexpr.specs.Grammar.{IsGap, IsLastGap, Bare, Spell}

-- it can go on to a bare atom
abbrev pub BeginsBare : List ℕ → Type 0
BeginsBare front = (k : AtomKind) × (text : List ℕ) × (more : List ℕ) × Bare k text (front ++ more)

-- a bare atom, or nothing yet
abbrev pub MayEnd : List ℕ → Type 0
MayEnd [] = Unit {0}
MayEnd (b ∷ front) = (k : AtomKind) × (text : List ℕ) × Bare k text (b ∷ front)

-- From the first byte of a word on: at which byte, counted from 0, it is no word, and why.
pub data IsBadWord : List ℕ → ℕ → Reason → Type 0 where
  -- the front fits, with the next byte it doesn't, and this byte ends nothing
  byte : (front : List ℕ) (b : ℕ) (rest : List ℕ) → BeginsBare front → ¬ (BeginsBare (front ++ b ∷ [])) → (MayEnd front → ends_atom b ≡ false) → IsBadWord (front ++ b ∷ rest) (length front) BadCharacter
  end : (front : List ℕ) → 0 < length front → BeginsBare front → ((k : AtomKind) (text : List ℕ) → ¬ (Bare k text front)) → IsBadWord front 0 BadCharacter
  backslash : (text rest : List ℕ) → list_all is_in_bars text ≡ true → IsBadWord (124 ∷ (text ++ 92 ∷ rest)) (length (124 ∷ text)) BadCharacter
  no_bar : (text : List ℕ) → list_all is_in_bars text ≡ true → IsBadWord (124 ∷ text) 0 OpenSymbol
  no_quote : (text : List ℕ) → IsBadWord (34 ∷ doubled text) 0 OpenString

-- only in an open list may expressions stand before a fault: on the outermost level they are commands
abbrev pub MayStandBefore : List Sexpr → List Place → Type 0
MayStandBefore es [] = es ≡ []
MayStandBefore es (q ∷ qs) = Unit {0}

-- The first fault of a text that goes on at this place, in open lists at these places, the outermost
-- first, where so many more may be opened.
pub data HasFaultIn : ℕ → List Place → Place → List ℕ → Refusal → Type 0 where
  closed : (d : ℕ) (p : Place) (gap rest : List ℕ) → IsGap gap → HasFaultIn d [] p (gap ++ 41 ∷ rest) (record { place = behind p gap; reason = Unbalanced })
  ended : (d : ℕ) (es : List Sexpr) (q : Place) (qs : List Place) (p : Place) (front last : List ℕ) → Spell d es p front last → IsLastGap last → HasFaultIn d (q ∷ qs) p (front ++ last) (record { place = q; reason = Unbalanced })
  deep : (es : List Sexpr) (qs : List Place) (p : Place) (front gap rest : List ℕ) → MayStandBefore es qs → Spell 0 es p front (gap ++ 40 ∷ rest) → IsGap gap → HasFaultIn 0 qs p (front ++ (gap ++ 40 ∷ rest)) (record { place = behind p (front ++ gap); reason = TooDeep })
  word : (d : ℕ) (es : List Sexpr) (qs : List Place) (p : Place) (front gap good bad : List ℕ) (reason : Reason) → MayStandBefore es qs → Spell d es p front (gap ++ (good ++ bad)) → IsGap gap → IsBadWord (good ++ bad) (length good) reason →
      HasFaultIn d qs p (front ++ (gap ++ (good ++ bad))) (record { place = behind p (front ++ (gap ++ good)); reason = reason })
  within : (d : ℕ) (es : List Sexpr) (qs : List Place) (p : Place) (front gap rest : List ℕ) (r : Refusal) → MayStandBefore es qs → Spell (suc d) es p front (gap ++ 40 ∷ rest) → IsGap gap → HasFaultIn d (qs ++ behind p (front ++ gap) ∷ []) (behind p (front ++ (gap ++ 40 ∷ []))) rest r →
      HasFaultIn (suc d) qs p (front ++ (gap ++ 40 ∷ rest)) r

-- these bytes, with no command before it, are a fault
abbrev pub IsFault : Place → List ℕ → Refusal → Type 0
IsFault p bytes r = HasFaultIn most_nested_lists [] p bytes r
