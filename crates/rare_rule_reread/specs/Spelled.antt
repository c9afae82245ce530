-- Expressions that texts spell.
use Rattle.std.specs.Prelude.{ℕ, ◌<◌, ◌^◌, List, [], ◌∷◌, length}
use Rattle.rare_base.specs.declared.answers.Place.{Place}
use Rattle.rare_sexpr.specs.declared.tree.Sexpr.{Sexpr}
use Rattle.rare_sexpr.specs.Grammar.{Spell}

-- an expression that some text spells, which is no longer than what a memory holds
pub record IsSpelled (e : Sexpr) : Type 0 where
  pub depth : ℕ
  pub place : Place
  pub bytes : List ℕ
  pub rest : List ℕ
  pub spells : Spell depth (e ∷ []) place bytes rest
  pub short : length bytes < 2 ^ 64
