use Rattle.std.proofs.Common.{◌≡◌, drop}
use Rattle.rare_sort.specs.Ids.{Extends}
use Rattle.rare_text.specs.Problems.{with_floors}
use Rattle.rare_text.specs.Stated.{stated_problem}
use Rattle.rare_text.specs.inner.Standing.{IsProblemOf}
use Rattle.rare_text.proofs.assumptions.with_each_floor.Given as goal

-- the whole problem is what the constraints that are left make of the problem so far
abbrev pub invariant-loop-floor : goal.invariant-loop-floor
invariant-loop-floor g l =
    let s = g.T.Terms.state l.fn.terms in
    let t = g.T.Terms.state l.terms in
    record {
      held : IsProblemOf t l.reader.problem;
      samples : l.reader.problem.samples ≡ l.fn.reader.problem.samples;
      read : with_floors (drop l.floor-index l.floors) (stated_problem t l.reader.problem) ≡ with_floors l.floors (stated_problem s l.fn.reader.problem);
      grows : Extends s.trees t.trees;
    }
