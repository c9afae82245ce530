use Rattle.std.proofs.Common.{◌≡◌, ℕ, List, [], true, length}
use Rattle.rare_sexpr.specs.Streams.{commands_left}
use Rattle.rare_check.specs.inner.Kept.{IsHeld, Keeps, answer_with}
use Rattle.rare_check.proofs.checking.take_commands.Given as goal

abbrev pub invariant-loop-e : goal.invariant-loop-e
invariant-loop-e g l = record {
  held : IsHeld (g.T.Terms.state l.terms) l.book l.rewrites l.scope l.judged;
  keeps : Keeps (g.T.Terms.state l.fn.terms) l.fn.scope (g.T.Terms.state l.terms) l.scope l.rewrites;
  fed : l.reader.fed ≡ l.fn.reader.fed;
  ended : l.reader.ended ≡ l.fn.reader.ended;
  answer :
      (more : List ℕ) → (l.fn.reader.ended ≡ true → more ≡ []) →
      answer_with (g.T.Terms.state l.fn.terms) l.book l.rewrites l.fn.scope l.fn.judged (commands_left l.fn.reader more)
      ≡ answer_with (g.T.Terms.state l.terms) l.book l.rewrites l.scope l.judged (commands_left l.reader more);
}

abbrev pub decreases-loop-e : goal.decreases-loop-e
decreases-loop-e g l = length l.reader.rest
