-- How the id that a function returned goes with a reading of a term.
use Rattle.std.specs.Prelude.{◌≡◌, ◌<◌, List, length, Result, Ok, Err}
use Rattle.rare_base.specs.declared.answers.Fault.{Fault}
use Rattle.rare_sort.specs.Ids.{tree_at}
use Rattle.rare_sort.specs.declared.tree.TermId.{TermId}
use Rattle.rare_sort.specs.declared.tree.Tree.{Tree}
use Rattle.rare_scope.specs.Answers.{Fails}
use Rattle.rare_scope.specs.Reading.{Read}

-- the id of the term that was read, or the first fault
abbrev pub AnswersTerm : List Tree → Result TermId Fault → Read Tree → Type 0
AnswersTerm ts (Ok id) read = (id.0 < length ts) × (read ≡ Ok (tree_at ts id.0))
AnswersTerm ts (Err f) read = Fails f read
