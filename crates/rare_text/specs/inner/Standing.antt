-- A problem that is being read, and the terms that it is read into.
use Rattle.std.specs.Prelude.{◌≡◌, length, Result, Ok, Err}
use Rattle.rare_base.specs.declared.answers.Fault.{Fault}
use Rattle.rare_sort.specs.DeclaredSorts.{widths}
use Rattle.rare_sort.specs.declared.declarations.Declarations.{Declarations}
use Rattle.rare_term.specs.State.{State}
use Rattle.rare_scope.specs.Answers.{Fails}
use Rattle.rare_scope.specs.Names.{Held, AreMeant, sort_names, symbol_names, width_names}
use Rattle.rare_scope.specs.Reading.{Read}
use Rattle.rare_text.specs.declared.problem.Problem.{Problem}
use Rattle.rare_text.specs.declared.reader.ProblemReader.{ProblemReader}
use Rattle.rare_text.specs.Problems.{StatedProblem}
use Rattle.rare_text.specs.Samples.{AreSamples}
use Rattle.rare_text.specs.Stated.{HaveIds, HaveOneSort, stated_problem}

-- as many sorts, symbols and widths are declared as have names
pub record AreCounted (d : Declarations) (held : Held) : Type 0 where
  pub sorts : length (sort_names held) ≡ d.sorts
  pub symbols : length (symbol_names held) ≡ length d.symbols
  pub widths : length (width_names held) ≡ widths d

-- the problem is one of these terms: its names are of them, and so are the sides of its rewrites, which have one sort; its samples are
-- those of the widths
pub record IsProblemOf (s : State) (p : Problem) : Type 0 where
  pub meant : AreMeant s p.scope
  pub counted : AreCounted s.declared p.scope
  pub ids : HaveIds (length s.trees) p.rewrites
  pub sorted : HaveOneSort s p.rewrites
  pub samples : AreSamples s.declared p.samples

-- the problem that is held now is the one that was read, or the first fault is answered
abbrev pub AnswersReader : State → Result ProblemReader Fault → Read StatedProblem → Type 0
AnswersReader s (Ok r) read = IsProblemOf s r.problem × (read ≡ Ok (stated_problem s r.problem))
AnswersReader s (Err f) read = Fails f read
