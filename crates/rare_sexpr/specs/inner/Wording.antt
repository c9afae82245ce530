-- What the first word of some bytes is.
use Rattle.std.specs.Prelude.{◌≡◌, ℕ, ◌≤◌, ◌<◌, Bool, true, false, List, [], ◌++◌, length, drop, get_or, Some}
use Rattle.rare_sexpr.specs.declared.bytes.Class.TheVariants.{Open, Close, Other}
use Rattle.rare_sexpr.specs.declared.scan.Part.{Part}
use Rattle.rare_sexpr.specs.declared.tree.AtomKind.{AtomKind}
use Rattle.rare_sexpr.specs.declared.word.Found.{Found}
use Rattle.rare_sexpr.specs.declared.word.Found.TheVariants as found
use Rattle.rare_sexpr.specs.inner.Classes.{class}
use Rattle.rare_sexpr.specs.inner.Scan.{Word, whole, bad, cut, scan, begins_part}

-- these bytes begin an atom, and come to this, however the text goes on
abbrev pub Comes : List ℕ → Bool → Word → Type 0
Comes bytes told w = (first : Part) × (begins_part (get_or bytes 0 0) ≡ Some first) × ((more : List ℕ) → (told ≡ true → more ≡ []) → scan first 1 (drop 1 bytes ++ more) ≡ w)

-- the front of these bytes was read to this part of an atom
abbrev pub Resumes : List ℕ → ℕ → Part → Type 0
Resumes bytes at q = (first : Part) × (begins_part (get_or bytes 0 0) ≡ Some first) × ((more : List ℕ) → scan first 1 (drop 1 bytes ++ more) ≡ scan q at (drop at bytes ++ more))

-- the first word of these bytes, behind which the text ends or not
abbrev pub IsWord : List ℕ → Bool → Found → Type 0
IsWord bytes told found.Open = class (get_or bytes 0 0) ≡ Open
IsWord bytes told found.Close = class (get_or bytes 0 0) ≡ Close
IsWord bytes told found.NoWord = class (get_or bytes 0 0) ≡ Other
IsWord bytes told (found.Atom k n) = (0 < n) × (n ≤ length bytes) × Comes bytes told (whole k n)
IsWord bytes told (found.Bad n) = (n < length bytes) × Comes bytes told (bad n)
IsWord bytes told (found.Cut r) = (told ≡ true) × Comes bytes told (cut r)
IsWord bytes told (found.More q) = (told ≡ false) × Resumes bytes (length bytes) q

-- these bytes begin with an atom of so many
abbrev pub IsAtomOf : List ℕ → ℕ → Type 0
IsAtomOf bytes n = (told : Bool) × (k : AtomKind) × IsWord bytes told (found.Atom k n)
