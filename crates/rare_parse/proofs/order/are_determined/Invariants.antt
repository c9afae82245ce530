use Rattle.std.proofs.Common.{◌≡◌, drop}
use Rattle.rare_parse.specs.inner.Following.{are_all_found}
use Rattle.rare_parse.proofs.order.are_determined.Given as goal

abbrev pub invariant-loop-k : goal.invariant-loop-k
invariant-loop-k l = are_all_found l.found l.k (drop l.k l.params) ≡ are_all_found l.found 0 l.params
