-- Laws of texts that spell expressions.
use Rattle.std.specs.Prelude.{ℕ, List, ◌∷◌, ◌++◌}
use Rattle.rare_base.specs.declared.answers.Place.{Place}
use Rattle.rare_sexpr.specs.declared.tree.Sexpr.{Sexpr}
use Rattle.rare_sexpr.specs.Bytes.{behind}
use Rattle.rare_sexpr.specs.Grammar.{IsGap, Spell}

-- expressions, and behind their bytes those of others
abbrev pub TextsAreJoined : Type 0
TextsAreJoined =
    (d : ℕ) (es fs : List Sexpr) (p : Place) (bytes more rest : List ℕ) → Spell d es p bytes (more ++ rest) → Spell d fs (behind p bytes) more rest →
    Spell d (es ++ fs) p (bytes ++ more) rest

-- a gap before an expression
abbrev pub GapsMayStandBefore : Type 0
GapsMayStandBefore =
    (d : ℕ) (e : Sexpr) (es : List Sexpr) (p : Place) (gap bytes rest : List ℕ) → IsGap gap → Spell d (e ∷ es) (behind p gap) bytes rest → Spell d (e ∷ es) p (gap ++ bytes) rest
