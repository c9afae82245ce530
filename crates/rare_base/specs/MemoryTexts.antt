-- Texts by their names, and the numbers of calls that fail.
use Rattle.std.specs.Prelude.{ℕ, Bool, nat_eq, List, [], ◌∷◌, Option, Some, None, if◌then◌else◌, bytes_eq}
use Rattle.std.specs.List.{list_any}
use Rattle.rare_base.specs.declared.memory.NamedText.{NamedText}

-- the first text of a name
abbrev pub text_named : List NamedText → List ℕ → Option (List ℕ)
text_named [] w = None
text_named (t ∷ ts) w = if bytes_eq t.name w then Some t.bytes else text_named ts w

-- whether the number of a call is one of those that fail
abbrev pub is_failing : List ℕ → ℕ → Bool
is_failing fail call = list_any (λ k. nat_eq k call) fail
