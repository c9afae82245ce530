-- The commands of a text: its expressions on the outermost level, and the fault behind them.
use Rattle.std.specs.Prelude.{List, [], ◌∷◌, slice_get, Option, Some, None}
use Rattle.rare_base.specs.declared.answers.Place.{Place}
use Rattle.rare_base.specs.declared.answers.Reason.{Reason}
use Rattle.rare_base.specs.Answers.{Refusal}
use Rattle.rare_sexpr.specs.declared.tree.Sexpr.{Sexpr}

-- commands, and the first fault behind them
pub record Commands : Type 0 where
  pub list : List Sexpr
  pub fault : Option Refusal

abbrev pub put_first : Sexpr → Commands → Commands
put_first e c = record c { list = e ∷ c.list }

abbrev pub first_command : Commands → Option Sexpr
first_command c = slice_get c.list 0

abbrev pub no_commands : Commands
no_commands = record { list = []; fault = None }

-- no commands, and this fault
abbrev pub refused : Place → Reason → Commands
refused p r = record { list = []; fault = Some (record { place = p; reason = r }) }
