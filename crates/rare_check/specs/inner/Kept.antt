-- What the fields of a checker stand for.
use Rattle.std.specs.Prelude.{◌≡◌, ℕ, ◌≤◌, true, false, nat_eq, List, length, map, take, Option}
use Rattle.std.specs.List.{list_any}
use Rattle.rare_base.specs.declared.answers.Fault.{Fault}
use Rattle.rare_sexpr.specs.Commands.{Commands}
use Rattle.rare_sexpr.specs.Streams.{Stream}
use Rattle.rare_term.specs.State.{State}
use Rattle.rare_scope.specs.Names.{Held, AreMeant, names_of}
use Rattle.rare_scope.specs.Reading.{Read}
use Rattle.rare_text.specs.Problems.{StatedProblem, StatedRewrite}
use Rattle.rare_text.specs.Stated.{HaveIds, stated_problem, stated_rewrite}
use Rattle.rare_text.specs.declared.problem.Problem.{Problem}
use Rattle.rare_text.specs.declared.problem.Rewrite.{Rewrite}
use Rattle.rare_check.specs.declared.judged.Judged.{Judged}
use Rattle.rare_check.specs.declared.report.Report.{Report}
use Rattle.rare_check.specs.Checking.{Checking, answer_from}
use Rattle.rare_check.specs.inner.Judging.{AreNamedRules, IsJudged, bad_in, earlier_of}
use Rattle.rare_check.specs.inner.Progress.{progress_of}
use Rattle.rare_check.specs.inner.Truth.{AreSound}
use Rattle.rare_check.specs.Verdicts.{ShippedHold}
use Rattle.rare_meaning.specs.Interpretations.{FunctionClass}
use Rattle.rare_rule.specs.Books.{AreTyped, BookRule}

abbrev pub stated_rewrites : State → List Rewrite → List StatedRewrite
stated_rewrites s rewrites = map (stated_rewrite s.trees) rewrites

-- the problem before the proof: the first of the names so far are its names
abbrev pub problem_before : State → ℕ → Problem → StatedProblem
problem_before s known p = record (stated_problem s p) { names = take known (names_of s.trees p.scope) }

abbrev pub checking_of : State → List BookRule → ℕ → Problem → Judged → Stream → Option Fault → Checking
checking_of s book known problem judged left stopped = record {
  problem = problem_before s known problem;
  book = book;
  names = names_of s.trees problem.scope;
  earlier = earlier_of s.trees judged;
  concluded = judged.concluded.keys;
  named = judged.named.keys;
  bad = bad_in judged;
  left = left;
  stopped = stopped;
}

-- the answer with these commands behind those before
abbrev pub answer_with : State → List BookRule → List Rewrite → Held → Judged → Commands → Read Report
answer_with s book rewrites scope judged commands =
    answer_from s.declared book (stated_rewrites s rewrites) (names_of s.trees scope) (progress_of s.trees judged) judged.named.keys commands

-- the rewrites, the names and the commands so far are of these terms, shipped rules hold, and what is concluded is true where the rules
-- that are named hold
pub record IsHeld (s : State) (book : List BookRule) (rewrites : List Rewrite) (scope : Held) (judged : Judged) : Type 0 where
  pub typed : AreTyped book
  pub shipped : (c : FunctionClass) → ShippedHold c book
  pub sides : HaveIds (length s.trees) rewrites
  pub meant : AreMeant s scope
  pub steps : IsJudged s book judged
  pub rules : AreNamedRules judged.named.keys judged.proof
  pub sound : AreSound s.declared book (stated_rewrites s rewrites) judged.named.keys judged.concluded.keys

pub record IsKept (s : State) (book : List BookRule) (known : ℕ) (problem : Problem) (judged : Judged) (left : Stream) : Type 0 where
  pub held : IsHeld s book problem.rewrites problem.scope judged
  pub before : known ≤ length problem.scope
  pub untold : left.ended ≡ false

-- what stays while the terms and the names grow: the rewrites and the names before
pub record Keeps (old : State) (scope : Held) (new : State) (grown : Held) (rewrites : List Rewrite) : Type 0 where
  pub declared : new.declared ≡ old.declared
  pub sides : stated_rewrites new rewrites ≡ stated_rewrites old rewrites
  pub names : (known : ℕ) → known ≤ length scope → take known (names_of new.trees grown) ≡ take known (names_of old.trees scope)
  pub longer : length scope ≤ length grown

-- the same but for rules that are named, of which none is lost
pub record IsNotedBehind (old new : Judged) : Type 0 where
  pub same : record new { named = old.named } ≡ old
  pub more : (k : ℕ) → list_any (nat_eq k) old.named.keys ≡ true → list_any (nat_eq k) new.named.keys ≡ true
