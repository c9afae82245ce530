-- How a text is read, word by word.
use Rattle.std.specs.Prelude.{◌≡◌, ℕ, ◌≤◌, ◌<◌, Bool, true, false, List, [], ◌∷◌, ◌++◌, length, take, drop, get_or, nat_lt, Some}
use Rattle.rare_base.specs.declared.answers.Place.{Place}
use Rattle.rare_base.specs.declared.answers.Reason.{Reason}
use Rattle.rare_base.specs.declared.answers.Reason.TheVariants.{Unbalanced, BadCharacter, TooDeep}
use Rattle.rare_sexpr.specs.declared.tree.AtomKind.{AtomKind}
use Rattle.rare_sexpr.specs.declared.tree.Sexpr.{Sexpr}
use Rattle.rare_sexpr.specs.declared.bytes.Class.TheVariants.{Open, Close, Other}
use Rattle.rare_sexpr.specs.declared.scan.Part.{Part}
use Rattle.rare_sexpr.specs.declared.stack.Opened.{Opened}
use Rattle.rare_sexpr.specs.Tree.{atom_of, list_of}
use Rattle.rare_sexpr.specs.Bytes.{after, behind}
use Rattle.rare_sexpr.specs.Limits.{most_nested_lists}
use Rattle.rare_sexpr.specs.Commands.{Commands}
use Rattle.rare_sexpr.specs.inner.Classes.{class}
use Rattle.rare_sexpr.specs.inner.Scan.{Word, whole, bad, cut, scan, begins_part}
use Rattle.rare_sexpr.specs.inner.Words.{text_of_word, words, gap_mode}
use Rattle.rare_sexpr.specs.inner.Gaps.{Passes}
use Rattle.rare_sexpr.specs.inner.Reading.{commands, outermost}

-- the open lists, the innermost first, the items of all of them so far, whether a comment goes on, and
-- the bytes that are left, with the place of the first of them
pub record TextState : Type 0 where
  pub opens : List Opened
  pub items : List Sexpr
  pub in_comment : Bool
  pub place : Place
  pub bytes : List ℕ

-- the commands that are left
abbrev pub left : TextState → Commands
left s = commands s.opens s.items (words (gap_mode s.in_comment) s.place s.bytes)

-- the next byte begins an atom that comes to this
pub record HasAtom (s : TextState) (w : Word) : Type 0 where
  pub between : s.in_comment ≡ false
  pub part : Part
  pub begins : begins_part (get_or s.bytes 0 0) ≡ Some part
  pub comes : scan part 1 (drop 1 s.bytes) ≡ w
  pub some : 0 < length s.bytes

-- an atom of so many bytes
pub record HasWord (s : TextState) (k : AtomKind) (n : ℕ) : Type 0 where
  pub atom : HasAtom s (whole k n)
  pub some : 0 < n
  pub within : n ≤ length s.bytes

-- the atom
abbrev pub atom_in : TextState → AtomKind → ℕ → Sexpr
atom_in s k n = atom_of s.place k (text_of_word k (take n s.bytes))

-- one word, or a part of a gap, is read
pub data Takes : TextState → TextState → Type 0 where
  gap : (s t : TextState) (passed : List ℕ) → s.bytes ≡ passed ++ t.bytes → t.place ≡ behind s.place passed → Passes s.in_comment passed t.in_comment → t.opens ≡ s.opens → t.items ≡ s.items → Takes s t
  opens : (s t : TextState) (b : ℕ) → s.in_comment ≡ false → s.bytes ≡ b ∷ t.bytes → class b ≡ Open → nat_lt (length s.opens) most_nested_lists ≡ true →
      t ≡ record { opens = record { place = s.place; before = length s.items } ∷ s.opens; items = s.items; in_comment = false; place = after b s.place; bytes = t.bytes } → Takes s t
  closes : (s t : TextState) (b : ℕ) (o q : Opened) (os : List Opened) → s.in_comment ≡ false → s.bytes ≡ b ∷ t.bytes → class b ≡ Close → s.opens ≡ o ∷ q ∷ os →
      t ≡ record { opens = q ∷ os; items = take o.before s.items ++ list_of o.place (drop o.before s.items) ∷ []; in_comment = false; place = after b s.place; bytes = t.bytes } → Takes s t
  atom : (s t : TextState) (k : AtomKind) (n : ℕ) (o : Opened) (os : List Opened) → HasWord s k n → s.opens ≡ o ∷ os →
      t ≡ record { opens = s.opens; items = s.items ++ atom_in s k n ∷ []; in_comment = false; place = behind s.place (take n s.bytes); bytes = drop n s.bytes } → Takes s t

-- one behind the other
pub data Reads : TextState → TextState → Type 0 where
  stays : (s : TextState) → Reads s s
  goes : (s t u : TextState) → Reads s t → Takes t u → Reads s u

-- the next word ends a command, behind which these bytes are left, at this place
pub data GivesCommand : TextState → Sexpr → Place → List ℕ → Type 0 where
  atom : (s : TextState) (k : AtomKind) (n : ℕ) → HasWord s k n → s.opens ≡ [] → GivesCommand s (atom_in s k n) (behind s.place (take n s.bytes)) (drop n s.bytes)
  closes : (s : TextState) (b : ℕ) (rest : List ℕ) (o : Opened) → s.in_comment ≡ false → s.bytes ≡ b ∷ rest → class b ≡ Close → s.opens ≡ o ∷ [] →
      GivesCommand s (list_of o.place (drop o.before s.items)) (after b s.place) rest

-- the next word, or the end of the text, is a fault
pub data Refuses : TextState → Place → Reason → Type 0 where
  closed : (s : TextState) (b : ℕ) (rest : List ℕ) → s.in_comment ≡ false → s.bytes ≡ b ∷ rest → class b ≡ Close → s.opens ≡ [] → Refuses s s.place Unbalanced
  ended : (s : TextState) → s.bytes ≡ [] → 0 < length s.opens → Refuses s (outermost s.opens s.place) Unbalanced
  deep : (s : TextState) (b : ℕ) (rest : List ℕ) → s.in_comment ≡ false → s.bytes ≡ b ∷ rest → class b ≡ Open → nat_lt (length s.opens) most_nested_lists ≡ false → Refuses s s.place TooDeep
  no_word : (s : TextState) (b : ℕ) (rest : List ℕ) → s.in_comment ≡ false → s.bytes ≡ b ∷ rest → class b ≡ Other → Refuses s s.place BadCharacter
  byte : (s : TextState) (n : ℕ) → HasAtom s (bad n) → Refuses s (behind s.place (take n s.bytes)) BadCharacter
  end : (s : TextState) (r : Reason) → HasAtom s (cut r) → Refuses s s.place r
