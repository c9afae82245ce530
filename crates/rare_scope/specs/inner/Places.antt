-- How a scope keeps its names: a table of names, their meanings beside it, and the places of each kind.
use Rattle.std.specs.Prelude.{◌≡◌, ℕ, ◌<◌, List, map, zip, length, get_or, All, [], ◌++◌}
use Rattle.rare_scope.specs.declared.meaning.Meaning.{Meaning}
use Rattle.rare_scope.specs.Names.{Held, names_with, sort_number, symbol_number, width_number, IsScope}

abbrev pub held_by : List (List ℕ) → List Meaning → Held
held_by names meanings = zip names meanings

abbrev pub names_at : List (List ℕ) → List ℕ → List (List ℕ)
names_at names places = map (λ p. get_or names p []) places

-- these are the places of the names of a kind
pub record ArePlaces (number : Meaning → List ℕ) (ns : List (List ℕ)) (ms : List Meaning) (places : List ℕ) : Type 0 where
  pub within : All (λ p. p < length ns) places
  pub names : names_with number (held_by ns ms) ≡ names_at ns places

pub record IsHeld (ns : List (List ℕ)) (ms : List Meaning) (ss ys ws : List ℕ) : Type 0 where
  pub even : length ns ≡ length ms
  pub scope : IsScope (held_by ns ms)
  pub sorts : ArePlaces sort_number ns ms ss
  pub symbols : ArePlaces symbol_number ns ms ys
  pub widths : ArePlaces width_number ns ms ws

-- the places of a kind with that of one name more, where its meaning is of the kind
abbrev pub placed : (Meaning → List ℕ) → Meaning → ℕ → List ℕ → List ℕ
placed number m place places = places ++ map (λ k. place) (number m)
