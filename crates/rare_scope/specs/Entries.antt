-- Tables of words.
use Rattle.std.specs.Prelude.{ℕ, List, [], ◌∷◌, bytes_eq, Option, Some, None, if◌then◌else◌}

-- the entry of a table at a word: the first counts
abbrev pub entry : {A : Type 0} → List (List ℕ × A) → List ℕ → Option A
entry [] text = None
entry (w ∷ ws) text = if bytes_eq text w.0 then Some w.1 else entry ws text
