-- Which reads were asked of a library, and how the reads of files follow one another.
use Rattle.std.specs.Prelude.{◌≡◌, ℕ, ◌+◌, ◌-◌, ◌^◌, ◌≤◌, zero, suc, min, List, [], ◌∷◌, ◌++◌, map, Option, Some, None, IfSome}
use Rattle.std.specs.List.{last_or}

-- a read: of which name, from which place, of how many bytes at most, and how many it gave, unless it failed
pub record Read : Type 0 where
  pub name : List ℕ
  pub at : ℕ
  pub room : ℕ
  pub gave : Option ℕ

abbrev pub read_of : List ℕ → ℕ → ℕ → Option ℕ → Read
read_of name at room gave = record { name = name; at = at; room = room; gave = gave }

-- these reads came behind those before, where the reads are still told
abbrev pub Added : Option (List Read) → Option (List Read) → List Read → Type 0
Added before None reads = Unit {0}
Added None (Some after) reads = ⊥
Added (Some before) (Some after) reads = after ≡ before ++ reads

-- the most bytes that a file may have
abbrev pub most_file_bytes : ℕ
most_file_bytes = 2 ^ 28

-- the most bytes that one read asks for
abbrev pub most_read_bytes : ℕ
most_read_bytes = 2 ^ 16

-- how many bytes the next read asks for behind the first ones of a file: as many as it may, and none behind the one that shows
-- that the file is too long
abbrev pub room_at : ℕ → ℕ
room_at at = min most_read_bytes (most_file_bytes + 1 - at)

-- the next read of a file behind its first bytes
pub record AsksNext (name : List ℕ) (at : ℕ) (r : Read) : Type 0 where
  pub file : r.name ≡ name
  pub place : r.at ≡ at
  pub within : at ≤ most_file_bytes
  pub piece : r.room ≡ room_at at
  pub bound : IfSome r.gave (λ n. n ≤ r.room)

-- what follows on a read that gave so much: nothing where it failed, and where it gave no byte what follows on the file's end
abbrev pub Follows : Option ℕ → List Read → Type 0 → (ℕ → Type 0) → Type 0
Follows None later at_end behind = later ≡ []
Follows (Some zero) later at_end behind = at_end
Follows (Some (suc n)) later at_end behind = behind (suc n)

-- reads of these files in turn, the first from this place on: each byte once, and each file to its end before the next is opened
abbrev pub InTurn : List (List ℕ) → ℕ → List Read → Type 0
InTurn names at [] = Unit {0}
InTurn [] at (r ∷ reads) = ⊥
InTurn (name ∷ names) at (r ∷ reads) = AsksNext name at r × Follows r.gave reads (InTurn names 0 reads) (λ n. InTurn (name ∷ names) (at + n) reads)

-- the last of the reads gave no byte
abbrev pub FoundEnd : List Read → Type 0
FoundEnd reads = last_or None (map (λ r. r.gave) reads) ≡ Some (Some 0)

-- the reads of a call are of these files in turn
pub record ReadInTurn (before after : Option (List Read)) (names : List (List ℕ)) : Type 0 where
  pub reads : List Read
  pub told : Added before after reads
  pub turn : InTurn names 0 reads

-- the reads of a call are of this file, up to its end
pub record ReadToEnd (before after : Option (List Read)) (name : List ℕ) : Type 0 where
  pub reads : List Read
  pub told : Added before after reads
  pub turn : InTurn (name ∷ []) 0 reads
  pub end : FoundEnd reads
