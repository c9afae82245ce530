-- A text that comes in pieces.
use Rattle.std.specs.Prelude.{ℕ, Bool, false, List, [], ◌++◌, Option, Some, None}
use Rattle.rare_base.specs.declared.answers.Place.{Place}
use Rattle.rare_base.specs.Answers.{Refusal, first_place}
use Rattle.rare_sexpr.specs.Commands.{Commands}
use Rattle.rare_sexpr.specs.Readings.{commands_from}

-- the bytes not yet taken, the place of the first of them, how many bytes were fed, whether the end
-- was told, and the refusal that stands
pub record Stream : Type 0 where
  pub rest : List ℕ
  pub place : Place
  pub fed : ℕ
  pub ended : Bool
  pub refusal : Option Refusal

abbrev pub new_stream : Stream
new_stream = record { rest = []; place = first_place; fed = 0; ended = false; refusal = None }

abbrev pub unless_refused : Option Refusal → Place → List ℕ → Commands
unless_refused (Some r) place bytes = record { list = []; fault = Some r }
unless_refused None place bytes = commands_from place bytes

-- the commands that are left, with the bytes that follow
abbrev pub commands_left : Stream → List ℕ → Commands
commands_left s more = unless_refused s.refusal s.place (s.rest ++ more)
