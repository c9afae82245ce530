-- What the skipping of a gap found.
use Rattle.std.specs.Prelude.{◌≡◌, ℕ, ◌+◌, ◌≤◌, ◌<◌, ◌-◌, Bool, true, false, not, ◌||◌, nat_eq, List, [], ◌∷◌, ◌++◌, length, drop, get_or, None}
use Rattle.rare_base.specs.declared.answers.Place.{Place}
use Rattle.rare_sexpr.specs.declared.gaps.Gap.{Gap}
use Rattle.rare_sexpr.specs.Bytes.{is_blank, ends_comment, behind}
use Rattle.rare_sexpr.specs.inner.Scan.{IsRun}
use Rattle.rare_sexpr.specs.inner.Words.{gap_step}

-- bytes of blanks and comments, from between words or in a comment to between words or in one
pub data Passes : Bool → List ℕ → Bool → Type 0 where
  none : (c : Bool) → Passes c [] c
  blank : (b : ℕ) (bs : List ℕ) (d : Bool) → is_blank b ≡ true → Passes false bs d → Passes false (b ∷ bs) d
  opens : (bs : List ℕ) (d : Bool) → Passes true bs d → Passes false (59 ∷ bs) d
  text : (b : ℕ) (bs : List ℕ) (d : Bool) → ends_comment b ≡ false → Passes true bs d → Passes true (b ∷ bs) d
  ends : (b : ℕ) (bs : List ℕ) (d : Bool) → ends_comment b ≡ true → Passes false bs d → Passes true (b ∷ bs) d

-- bytes were passed from one on, to another
pub record HasSkipped (bytes : List ℕ) (from : ℕ) (p : Place) (c : Bool) (i : ℕ) (q : Place) (d : Bool) : Type 0 where
  pub begin : from ≤ i
  pub within : i ≤ length bytes
  pub line : q.line + from ≤ p.line + i
  pub column : q.column + from ≤ p.column + i
  pub passed : List ℕ
  pub split : drop from bytes ≡ passed ++ drop i bytes
  pub place : q ≡ behind p passed
  pub passes : Passes c passed d

-- a gap was passed, and the next byte, if there is one, is none of it
pub record IsGapEnd (bytes : List ℕ) (from : ℕ) (p : Place) (c : Bool) (g : Gap) : Type 0 where
  pub skipped : HasSkipped bytes from p c g.at g.place g.in_comment
  pub stops : g.at < length bytes → gap_step g.in_comment (get_or bytes g.at 0) ≡ None

-- a blank that is no line feed
abbrev pub is_line_blank : ℕ → Bool
is_line_blank b = nat_eq b 32 || nat_eq b 9 || nat_eq b 13

-- a byte of a comment
abbrev pub is_in_comment : ℕ → Bool
is_in_comment b = not (ends_comment b)

-- a byte of the line that leaves a gap as it is
abbrev pub is_in_run : Bool → ℕ → Bool
is_in_run true = is_in_comment
is_in_run false = is_line_blank

-- so many bytes further on the line
abbrev pub along : Place → ℕ → Place
along p n = record { line = p.line; column = p.column + n }

-- a run of such bytes was passed
pub record HasRun (bytes : List ℕ) (old new : Gap) : Type 0 where
  pub run : IsRun (is_in_run old.in_comment) bytes old.at new.at
  pub place : new.place ≡ along old.place (new.at - old.at)
  pub same : new.in_comment ≡ old.in_comment
