use Rattle.std.proofs.Common.{◌≡◌, [], true, length}
use Rattle.rare_sexpr.specs.Streams.{commands_left}
use Rattle.rare_sort.specs.Ids.{Extends}
use Rattle.rare_text.specs.ProblemText.{problem_of}
use Rattle.rare_text.specs.Stated.{stated_problem}
use Rattle.rare_text.specs.inner.Standing.{IsProblemOf}
use Rattle.rare_text.proofs.Problems.{problem_with}
use Rattle.rare_text.proofs.read.read_problem.Given as goal

-- the problem of the whole text is what the commands that are left make of the problem so far
abbrev pub invariant-loop-e : goal.invariant-loop-e
invariant-loop-e g l =
    let t = g.T.Terms.state l.terms in
    record {
      ended : l.source.ended ≡ true;
      held : IsProblemOf t l.reader.problem;
      grows : Extends (g.T.Terms.state l.fn.terms).trees t.trees;
      read : problem_of l.bytes ≡ problem_with (stated_problem t l.reader.problem) (commands_left l.source []);
    }

abbrev pub decreases-loop-e : goal.decreases-loop-e
decreases-loop-e g l = length l.source.rest
