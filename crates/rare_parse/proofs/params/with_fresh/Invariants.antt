use Rattle.std.proofs.Common.{◌≡◌, ◌++◌}
use Rattle.rare_parse.proofs.params.with_fresh.Given as goal

abbrev pub invariant-loop-param : goal.invariant-loop-param
invariant-loop-param l = l.params ≡ l.fn.declared ++ l.yielded
