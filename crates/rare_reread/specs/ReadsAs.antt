-- Texts that read as an expression, whatever stands before and behind them
-- (SMT-LIB 2.6, sections on the lexicon and on s-expressions).
use Rattle.std.specs.Prelude.{◌≡◌, ℕ, ◌≤◌, true, List, [], ◌∷◌, ◌++◌}
use Rattle.rare_base.specs.declared.answers.Place.{Place}
use Rattle.rare_sexpr.specs.declared.tree.Sexpr.{Sexpr}
use Rattle.rare_sexpr.specs.Tree.{list_of}
use Rattle.rare_sexpr.specs.Grammar.{may_follow_bare, Spell}

-- at each place, and before all that may follow, the bytes spell an expression that is so, of at most n nested lists
pub record ReadsAs (n : ℕ) (bytes : List ℕ) (Is : Sexpr → Type 0) : Type 0 where
  pub expression : Place → Sexpr
  pub is : (p : Place) → Is (expression p)
  pub spells : (d : ℕ) (p : Place) (rest : List ℕ) → n ≤ d → may_follow_bare rest ≡ true → Spell d (expression p ∷ []) p bytes rest

-- the same of expressions one behind the other
pub record RunsAs (n : ℕ) (bytes : List ℕ) (Are : List Sexpr → Type 0) : Type 0 where
  pub expressions : Place → List Sexpr
  pub are : (p : Place) → Are (expressions p)
  pub spells : (d : ℕ) (p : Place) (rest : List ℕ) → n ≤ d → may_follow_bare rest ≡ true → Spell d (expressions p) p bytes rest
  pub follows : (rest : List ℕ) → may_follow_bare rest ≡ true → may_follow_bare (bytes ++ rest) ≡ true

-- a list with this item first, and behind it items that are so
pub record IsListOf (Is : Sexpr → Type 0) (Are : List Sexpr → Type 0) (e : Sexpr) : Type 0 where
  pub place : Place
  pub first : Sexpr
  pub items : List Sexpr
  pub is : Is first
  pub are : Are items
  pub list : e ≡ list_of place (first ∷ items)
