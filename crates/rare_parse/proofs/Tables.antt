-- Entries of tables.
use Rattle.std.proofs.Common.{◌≡◌, ℕ, Bool, true, false, List, [], ◌∷◌, map, bytes_eq, refl, if◌then◌else◌}
use Rattle.std.specs.Prelude.{Some, ◌||◌, is_some}
use Rattle.rare_scope.specs.Entries.{entry}
use Rattle.rare_scope.specs.Reserved.{is_among}

-- a word has an entry where it is among the words
pub entry_among : {A : Type 0} (ws : List (List ℕ × A)) (text : List ℕ) → is_some (entry ws text) ≡ is_among (map (λ w. w.0) ws) text
entry_among [] text = refl
entry_among (w ∷ ws) text = go (bytes_eq text w.0) (entry_among ws text)
  where
    go : (b : Bool) → is_some (entry ws text) ≡ is_among (map (λ w. w.0) ws) text → is_some (if b then Some w.1 else entry ws text) ≡ (b || is_among (map (λ w. w.0) ws) text)
    go true rest = refl
    go false rest = rest

pub right_or : (a b : Bool) → a ≡ false → b ≡ (a || b)
right_or true b is = absurd cc
right_or false b is = refl
