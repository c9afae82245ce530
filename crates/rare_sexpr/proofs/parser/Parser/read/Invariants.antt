use Rattle.std.proofs.Common.{length, ◌-◌}
use Rattle.rare_sexpr.specs.inner.Parsing.{HasGone}
use Rattle.rare_sexpr.proofs.parser.Parser.read.Given as goal

abbrev pub invariant-words : goal.invariant-words
invariant-words l = HasGone l.bytes l.ended l.fn.self l.self

abbrev pub decreases-words : goal.decreases-words
decreases-words l = length l.bytes - l.self.at
