use Rattle.std.proofs.Common.{◌∙◌, [], refl, ap}
use Rattle.rare_sexpr.specs.Streams.{commands_left}
use Rattle.rare_text.specs.Stated.{stated_problem}
use Rattle.rare_text.proofs.Growing.{extends_on}
use Rattle.rare_text.proofs.Problems.{problem_with, one_taken}
use Rattle.rare_text.proofs.read.read_problem.Goals as goal

pub loop-e-preserved : goal.loop-e-preserved
loop-e-preserved g c =
    let p = stated_problem (g.T.Terms.state c.loop-e.terms) c.loop-e.reader.problem in
    let q = stated_problem (g.T.Terms.state c.take_command.new.terms) c.in_ok-reader-in-Ok-Command.reader.problem in
    let next = rw c.in-Ok-Command.field-0-is at c.in-Ok-Command.ensures.next in
    let made = c.in_ok-reader-in-Ok-Command.ensures in
    record {
      ended = next.kept.1 ∙ c.loop-e.invariant.ended;
      held = made.read.0;
      grows = extends_on _ _ _ c.loop-e.invariant.grows made.grows;
      read =
          c.loop-e.invariant.read ∙ ap (problem_with p) (next.rest [] (λ _. refl)) ∙ one_taken p q c.in-Ok-Command.e (commands_left c.next_command.new.self []) made.read.1;
    }

pub loop-e-preserved-in_ok-reader-in-Ok-Command : goal.loop-e-preserved-in_ok-reader-in-Ok-Command
loop-e-preserved-in_ok-reader-in-Ok-Command g c =
    let p = stated_problem (g.T.Terms.state c.loop-e.terms) c.loop-e.reader.problem in
    let q = stated_problem (g.T.Terms.state c.take_command.new.terms) c.in_ok-reader-in-Ok-Command.reader.problem in
    let next = rw c.in-Ok-Command.field-0-is at c.in-Ok-Command.ensures.next in
    let made = c.in_ok-reader-in-Ok-Command.ensures in
    record {
      ended = next.kept.1 ∙ c.loop-e.invariant.ended;
      held = made.read.0;
      grows = extends_on _ _ _ c.loop-e.invariant.grows made.grows;
      read =
          c.loop-e.invariant.read ∙ ap (problem_with p) (next.rest [] (λ _. refl)) ∙ one_taken p q c.in-Ok-Command.e (commands_left c.next_command.new.self []) made.read.1;
    }
