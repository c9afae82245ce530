-- The commands of a text, as a function. Which they are, the law `texts_are_spelled` says: those that
-- the grammar gives.
use Rattle.std.specs.Prelude.{ℕ, List}
use Rattle.rare_base.specs.declared.answers.Place.{Place}
use Rattle.rare_base.specs.Answers.{first_place}
use Rattle.rare_sexpr.specs.Commands.{Commands}
use Rattle.rare_sexpr.specs.inner.Reading.{reading_from}

-- the commands of a text that begins at this place
abbrev pub commands_from : Place → List ℕ → Commands
commands_from = reading_from

-- the commands of a whole text
abbrev pub commands_of : List ℕ → Commands
commands_of = commands_from first_place
