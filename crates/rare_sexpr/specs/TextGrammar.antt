-- Which commands a whole text spells, and which fault stands behind them
-- (SMT-LIB 2.6, sections on the lexicon and on s-expressions).
use Rattle.std.specs.Prelude.{ℕ, List, ◌++◌}
use Rattle.rare_base.specs.declared.answers.Place.{Place}
use Rattle.rare_base.specs.Answers.{Refusal}
use Rattle.rare_sexpr.specs.declared.tree.Sexpr.{Sexpr}
use Rattle.rare_sexpr.specs.Bytes.{behind}
use Rattle.rare_sexpr.specs.Grammar.{IsLastGap, Spells}
use Rattle.rare_sexpr.specs.Faults.{IsFault}
use Rattle.rare_sexpr.specs.Commands.{Commands, put_first, no_commands, refused}

-- the commands of these bytes, which begin at this place, one behind the other, and the fault behind them
pub data AreCommands : Place → List ℕ → Commands → Type 0 where
  -- blanks and comments, up to the end
  none : (p : Place) (bytes : List ℕ) → IsLastGap bytes → AreCommands p bytes no_commands
  -- a command, and then those of the rest
  command : (p : Place) (word rest : List ℕ) (e : Sexpr) (c : Commands) → Spells e p word rest → AreCommands (behind p word) rest c → AreCommands p (word ++ rest) (put_first e c)
  -- a fault
  fault : (p : Place) (bytes : List ℕ) (r : Refusal) → IsFault p bytes r → AreCommands p bytes (refused r.place r.reason)
