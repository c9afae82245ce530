use Rattle.std.proofs.Common.{◌≡◌, length}
use Rattle.rare_sexpr.proofs.tests.show_all.Given as goal

abbrev pub invariant-commands : goal.invariant-commands
invariant-commands l = record {
  fed : l.reader.fed ≡ l.fn.reader.fed;
  ended : l.reader.ended ≡ l.fn.reader.ended;
}

abbrev pub decreases-commands : goal.decreases-commands
decreases-commands l = length l.reader.rest
