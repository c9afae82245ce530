-- The problem of a text, command by command.
use Rattle.std.proofs.Common.{◌≡◌, [], Ok, refl, sym, ap, subst, arith}
use Rattle.std.proofs.lemmas.Int.{ints}
use Rattle.rare_base.specs.declared.answers.Fault.{Fault}
use Rattle.rare_sexpr.specs.Commands.{Commands, put_first}
use Rattle.rare_sexpr.specs.declared.tree.Sexpr.{Sexpr}
use Rattle.rare_sort.specs.DeclaredSorts.{nothing_declared}
use Rattle.rare_term.specs.State.{State}
use Rattle.rare_scope.specs.Answers.{Fails}
use Rattle.rare_scope.specs.Reading.{Read, go_on}
use Rattle.rare_scope.proofs.InOrder.{fails_on}
use Rattle.rare_text.specs.declared.problem.Problem.{Problem}
use Rattle.rare_text.specs.ProblemText.{with_command, problem_from}
use Rattle.rare_text.specs.Problems.{StatedProblem, no_problem}
use Rattle.rare_text.specs.Stated.{stated_problem}
use Rattle.rare_text.specs.inner.Standing.{IsProblemOf}

-- the problem with these commands behind it
abbrev pub problem_with : StatedProblem → Commands → Read StatedProblem
problem_with p c = problem_from p c.list c.fault

pub one_taken : (p q : StatedProblem) (e : Sexpr) (rest : Commands) → with_command p e ≡ Ok q → problem_with p (put_first e rest) ≡ problem_with q rest
one_taken p q e rest is = ap (λ r. go_on r (λ x. problem_with x rest)) is

pub one_refused : (p : StatedProblem) (e : Sexpr) (rest : Commands) (f : Fault) → Fails f (with_command p e) → Fails f (problem_with p (put_first e rest))
one_refused p e rest f h = fails_on f (with_command p e) (λ x. problem_with x rest) (problem_with p (put_first e rest)) refl h

none_held : (s : State) → s.declared ≡ nothing_declared → IsProblemOf (record { trees = s.trees; declared = nothing_declared }) (record { rewrites = []; scope = []; samples = [] })
none_held s none = record {
  meant = λ k d lt. absurd (omega (arith, lt));
  counted = record { sorts = refl; symbols = refl; widths = refl };
  ids = λ k d lt. absurd (omega (arith, lt));
  sorted = λ k d lt. absurd (omega (arith, lt));
  samples = record {
    one_each = refl;
    positive = λ k d lt. absurd (omega (arith, lt));
    allowed = record { widths = λ k. omega (arith, ints); hold = λ k d lt. absurd (omega (arith, lt)) };
  };
}

-- before the first command
pub starts : (s : State) (p : Problem) → s.declared ≡ nothing_declared → p.scope ≡ [] → p.samples ≡ [] → p.rewrites ≡ [] → IsProblemOf s p × (stated_problem s p ≡ no_problem)
starts s p none scope samples rewrites =
    let whole : s ≡ record { trees = s.trees; declared = nothing_declared } = λ i. record { trees = s.trees; declared = none i } in
    let empty : p ≡ record { rewrites = []; scope = []; samples = [] } = λ i. record { rewrites = rewrites i; scope = scope i; samples = samples i } in
    let Q : State → Problem → Type 0 = λ t q. IsProblemOf t q × (stated_problem t q ≡ no_problem) in
    subst (λ t. Q t p) (sym whole) (subst (λ q. Q (record { trees = s.trees; declared = nothing_declared }) q) (sym empty) (none_held s none, refl))
