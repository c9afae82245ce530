-- The problem that a `Problem` holds, by the trees of its terms.
use Rattle.std.specs.Prelude.{◌≡◌, ℕ, ◌<◌, List, map, All, Result, Ok, Err}
use Rattle.rare_base.specs.declared.answers.Fault.{Fault}
use Rattle.rare_sort.specs.Ids.{tree_at}
use Rattle.rare_sort.specs.SortOf.{sort_of}
use Rattle.rare_sort.specs.declared.tree.Tree.{Tree}
use Rattle.rare_term.specs.State.{State}
use Rattle.rare_scope.specs.Answers.{Fails}
use Rattle.rare_scope.specs.Names.{names_of}
use Rattle.rare_scope.specs.Reading.{Read}
use Rattle.rare_text.specs.declared.problem.Rewrite.{Rewrite}
use Rattle.rare_text.specs.declared.problem.Problem.{Problem}
use Rattle.rare_text.specs.Problems.{StatedProblem, StatedRewrite}

abbrev pub stated_rewrite : List Tree → Rewrite → StatedRewrite
stated_rewrite ts r = record { name = r.name; left = tree_at ts r.left.0; right = tree_at ts r.right.0 }

-- the problem that was read into these terms
abbrev pub stated_problem : State → Problem → StatedProblem
stated_problem s p = record {
  declared = s.declared;
  names = names_of s.trees p.scope;
  samples = p.samples;
  rewrites = map (stated_rewrite s.trees) p.rewrites;
}

-- the sides of rewrites are ids below a number
abbrev pub HaveIds : ℕ → List Rewrite → Type 0
HaveIds n rs = All (λ r. (r.left.0 < n) × (r.right.0 < n)) rs

-- the sides of each rewrite have one sort
abbrev pub HaveOneSort : State → List Rewrite → Type 0
HaveOneSort s rs = All (λ r. sort_of s.declared.symbols (tree_at s.trees r.left.0) ≡ sort_of s.declared.symbols (tree_at s.trees r.right.0)) rs

-- the problem that was read, or the first fault; want of memory is free
abbrev pub AnswersProblem : State → Result Problem Fault → Read StatedProblem → Type 0
AnswersProblem s (Ok p) read = read ≡ Ok (stated_problem s p)
AnswersProblem s (Err f) read = Fails f read
